use Rattle.std.proofs.Common.{inr, rules}
use Rattle.c_sessions.proofs.steps.enter.Goals as goal

pub returns-in-Halted : goal.returns-in-Halted
returns-in-Halted g c = record { of = search rules; done = inr c.in-Halted.ensures }
