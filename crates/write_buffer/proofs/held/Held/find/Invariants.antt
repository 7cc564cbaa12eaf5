use Rattle.write_buffer.specs.Buffering.{IsFree}
use Rattle.write_buffer.proofs.held.Held.find.Given as goal

abbrev pub invariant-loop-i : goal.invariant-loop-i
invariant-loop-i l = IsFree l.self.places l.i l.at
