use Rattle.std.proofs.Common.{◌∙◌, sym}
use Rattle.std.proofs.lemmas.Bool.{false≢true}
use Rattle.doc_model.proofs.PackedTexts.{more_between, word_between}
use Rattle.doc_model.proofs.packed_texts.are_between.Goals as goal

pub loop-at-preserved : goal.loop-at-preserved
loop-at-preserved g c =
    more_between c.args.words.now g.row.LEAST g.row.MOST c.loop-at.at (c.is_word_between.ensures.0 c.if-not-is_word_between.false) c.loop-at.invariant

pub returns-then-not-is_word_between : goal.returns-then-not-is_word_between
returns-then-not-is_word_between g c = (
  λ no. absurd (false≢true no),
  λ all. absurd (false≢true (sym c.if-not-is_word_between.true ∙ c.is_word_between.ensures.1 (word_between c.args.words.now g.row.LEAST g.row.MOST c.args.len c.loop-at.at c.loop-at-test.true all))),
)
