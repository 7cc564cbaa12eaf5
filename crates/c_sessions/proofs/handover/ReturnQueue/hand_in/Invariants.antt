use Rattle.std.proofs.Common.{◌≡◌}
use Rattle.crossbeam_queue.specs.Passes.{view, IsPassOf}
use Rattle.c_sessions.proofs.handover.ReturnQueue.hand_in.Given as goal

-- no try has put the caller into the queue yet: it and the pass are as they were
abbrev pub invariant-loop : goal.invariant-loop
invariant-loop g l = record {
  of : IsPassOf l.self.line l.pass;
  same : view l.pass ≡ view l.fn.pass;
  given : l.given ≡ l.fn.given;
}
