use Rattle.std.proofs.Common.{◌≡◌, true, false, set, replicate, refl, sym, subst, ◌∙◌}
use Rattle.std.proofs.lemmas.Bool.{false≢true}
use Rattle.avl_words.specs.Lines.{word_of}
use Rattle.index_validation.specs.Lawful.{AreLinesLawful}
use Rattle.index_validation.proofs.LawfulWords.{lawful_from, header_from, root_from, lines_from}
use Rattle.index_validation.proofs.check.lawful.Goals as goal

pub returns-then-not-is_header : goal.returns-then-not-is_header
returns-then-not-is_header c = (λ e. absurd (false≢true e), λ l. absurd (false≢true (c.if-not-is_header.ensures.1 (header_from c.args.words.now c.args.version l))))

pub returns-then-not-has_root : goal.returns-then-not-has_root
returns-then-not-has_root c = (λ e. absurd (false≢true e), λ l. absurd (false≢true (c.if-not-has_root.ensures.1 (root_from c.args.words.now c.args.version l))))

pub returns : goal.returns
returns c =
    let words = c.args.words.now in
    let end = word_of words 0 3 in
    let marks : c.deref_mut.result.now ≡ set (replicate end false) 0 true = c.deref_mut.ensures.value ∙ c.in_ok-marks.ensures in (
      λ e. lawful_from words c.args.version end refl (c.if-not-is_header.ensures.0 refl) (c.if-not-has_root.ensures.0 refl) (subst (AreLinesLawful words) marks (c.lines_are_lawful.ensures.0 e)),
      λ l. c.lines_are_lawful.ensures.1 (subst (AreLinesLawful words) (sym marks) (lines_from words c.args.version end refl l)),
    )
