use Rattle.std.proofs.Common.{All, take}
use Rattle.life_records.proofs.values.reads_have_values.Given as goal

abbrev pub invariant-loop-line : goal.invariant-loop-line
invariant-loop-line g l = let o = l.object in All (λ line. (g.O.TypedObject.meaning o).is_reply_value line.reply) (take l.line-index l.lines)
