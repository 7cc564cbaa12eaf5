-- Operations and replies as each value of the types is.
use Rattle.std.specs.Prelude.{All, IfSome}
use Rattle.life_records.specs.Records.{Life, LifeRecord, Meaning}

-- the replies of a record are values of their type
pub record HasReplyValues {Op Reply Store : Type 0} (m : Meaning Op Reply Store) (report : LifeRecord Reply) : Type 0 where
  pub journal : All (λ line. IfSome line.reply m.is_reply_value) report.journal
  pub reads : All (λ line. m.is_reply_value line.reply) report.reads

-- the operations of a life are values of their type
abbrev pub HasOpValues : {Op Reply Store : Type 0} → Meaning Op Reply Store → Life Op → Type 0
HasOpValues m life = All (λ c. m.is_op_value c.op) life.commands
