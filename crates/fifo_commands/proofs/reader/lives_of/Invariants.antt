use Rattle.std.proofs.Common.{◌≡◌, map}
use Rattle.fifo_commands.specs.Uncut.{cutless}
use Rattle.fifo_commands.proofs.reader.lives_of.Given as goal

abbrev pub invariant-loop-life : goal.invariant-loop-life
invariant-loop-life l = l.left.items ≡ map cutless l.yielded
