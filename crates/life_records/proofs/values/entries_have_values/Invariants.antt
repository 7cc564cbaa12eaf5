use Rattle.std.proofs.Common.{All, IfSome, take}
use Rattle.life_records.proofs.values.entries_have_values.Given as goal

abbrev pub invariant-loop-line : goal.invariant-loop-line
invariant-loop-line g l = let o = l.object in All (λ line. IfSome line.reply (g.O.TypedObject.meaning o).is_reply_value) (take l.line-index l.lines)
