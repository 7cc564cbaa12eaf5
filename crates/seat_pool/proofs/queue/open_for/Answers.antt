use Rattle.std.proofs.Common.{sym, subst}
use Rattle.crossbeam_queue.specs.Fifo.{Forks}
use Rattle.seat_pool.specs.Pooling.{Pools, nothing, opened_pass}
use Rattle.seat_pool.specs.declared.hand.LenderPass.{LenderPass}
use Rattle.seat_pool.proofs.Poolings.{begins, opens}
use Rattle.seat_pool.proofs.queue.open_for.Goals as goal

pub another-spent-requires-clause-rule : goal.another-spent-requires-clause-rule
another-spent-requires-clause-rule g c =
    let home = g.K.Known.home in
    subst (λ (v : LenderPass). Forks Pools c.in_ok-line.pass.id v (opened_pass home) nothing) (sym c.in_ok-line.ensures.3) (opens c.in_ok-line.pass.id home)

pub ruled-requires-clause-rule : goal.ruled-requires-clause-rule
ruled-requires-clause-rule g c = begins
