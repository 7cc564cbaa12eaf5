use Rattle.std.proofs.Common.{◌==◌, true, false, cond, rules}
use Rattle.std.proofs.lemmas.Fn.{filter_same}
use Rattle.core_events.proofs.region_events.clean.Goals as goal

pub returns : goal.returns
returns c =
    let e = filter_same _ (λ x. cond (x == c.args.i) false true) _ (λ x b f' k. search rules) _ _ c.retain.ensures.filtered in
    search (rules, c.of.ensures, e)
