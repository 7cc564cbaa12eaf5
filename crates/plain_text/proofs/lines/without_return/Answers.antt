use Rattle.std.proofs.Common.{refl, ap, ◌∙◌, ◌∷◌, []}
use Rattle.std.proofs.lemmas.Bool.Decides.{Decides-eqb}
use Rattle.std.proofs.lemmas.Slice.Eq.{strip_suffix_is}
use Rattle.plain_text.proofs.Cuts.{is_without_return}
use Rattle.plain_text.proofs.lines.without_return.Goals as goal

pub returns : goal.returns
returns c =
    let stripped = strip_suffix_is Decides-eqb c.args.line.now (13 ∷ []) c.strip_suffix.result c.strip_suffix.ensures.cases in
    ap (λ line. line.now) c.unwrap_or.ensures ∙ is_without_return c.args.line.now c.strip_suffix.result stripped c.args.line refl
