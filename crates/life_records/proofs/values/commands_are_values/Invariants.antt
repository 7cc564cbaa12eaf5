use Rattle.std.proofs.Common.{All, take}
use Rattle.life_records.proofs.values.commands_are_values.Given as goal

abbrev pub invariant-loop-command : goal.invariant-loop-command
invariant-loop-command g l = let o = l.object in All (λ command. (g.O.TypedObject.meaning o).is_op_value command.op) (take l.command-index l.commands)
