use Rattle.std.proofs.Common.{◌≡◌}
use Rattle.crossbeam_queue.specs.Passes.{view, IsPassOf}
use Rattle.c_sessions.proofs.handover.ReturnQueue.take.Given as goal

-- no try has taken a caller out yet: the pass knows what it knew
abbrev pub invariant-loop : goal.invariant-loop
invariant-loop g l = record {
  of : IsPassOf l.self.line l.pass;
  same : view l.pass ≡ view l.fn.pass;
}
