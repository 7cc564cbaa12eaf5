use Rattle.std.proofs.Common.{subst}
use Rattle.recovery.specs.Images.{IsReadable}
use Rattle.service_tests.proofs.closed.recovered_of.Goals as goal

pub recover-requires : goal.recover-requires
recover-requires g c =
    let closed = c.requires in
    subst (λ n. IsReadable n c.in-Ok.image) closed.of
    (c.closed_tables_are_whole.ensures.readable closed.table closed.seats c.args.remains.now c.args.choice c.in-Ok.image closed.opened closed.leaves c.in-Ok.ensures)
