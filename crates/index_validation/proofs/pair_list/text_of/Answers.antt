use Rattle.std.proofs.Common.{rules, ◌∙◌}
use Rattle.index_validation.proofs.Listings.{text_read}
use Rattle.std.proofs.lemmas.Result.{IfOk-weaker}
use Rattle.index_validation.proofs.pair_list.text_of.Goals as goal

pub returns : goal.returns
returns c =
    IfOk-weaker c.bytes_of.result _ _ (λ b e. e ∙ text_read c.args.words.now c.args.node c.args.at _ _ _ _ c.requires.text c.word_at-first.ensures c.word_at-len.ensures c.div_ceil.ensures (search rules) c.read_content.ensures) c.bytes_of.ensures
