use Rattle.std.proofs.Common.{◌*◌, ap, length, arith}
use Rattle.cx_core.proofs.LayoutLemmas.{replica_within}
use Rattle.core_events.proofs.lock_events.words_of.Goals as goal

pub slice_bounds-from_slice-end : goal.slice_bounds-from_slice-end
slice_bounds-from_slice-end c =
    let e = ap length c.as_slice-len.ensures in
    omega (arith, e, ap (λ n. n * c.args.r) e, replica_within c.args.callers.number (length c.args.base.now.words) c.args.r c.requires.r)
