use Rattle.std.proofs.Common.{◌≡◌, map}
use Rattle.fifo_commands.specs.Leaving.{without_cuts}
use Rattle.fifo_commands.proofs.runs.records_of.Given as goal

abbrev pub invariant-loop-report : goal.invariant-loop-report
invariant-loop-report l = l.left.items ≡ map without_cuts l.yielded
