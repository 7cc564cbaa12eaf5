use Rattle.std.proofs.Common.{◌≤◌, ◌∙◌, length, arith}
use Rattle.core_events.proofs.EventLemmas.{opening_kept}
use Rattle.core_events.proofs.state.CoreState.opening.Goals as goal

pub invariant_of-result-2 : goal.invariant_of-result-2
invariant_of-result-2 g c =
    let same = c.of.ensures ∙ c.in_ok-from_slice.ensures.items ∙ c.as_slice.ensures in
    let slots : 1168 ≤ length c.args.base.now.words = omega (arith, c.requires.base.size.long) in
    rw (same, c.in_ok-opening_words.ensures, c.in_ok-opening_callers.ensures)
    (opening_kept c.args.callers c.lines.result c.args.base.now c.requires.callers.some c.requires.callers.few slots)
