use Rattle.std.proofs.Common.{ℕ, ◌<◌, get_or}
use Rattle.doc_model.specs.declared.operations.Op.{Op}
use Rattle.doc_model.specs.declared.operations.Reply.{Reply}
use Rattle.life_records.specs.Records.{Life, LifeRecord}
use Rattle.life_records.specs.Lives.{NamesCommands}
use Rattle.text_tests.proofs.named.name_commands.Given as goal

-- each record before number `number` names commands of the life with its number
abbrev pub invariant-loop-number : goal.invariant-loop-number
invariant-loop-number l = (n : ℕ) (d : Life Op) (e : LifeRecord Reply) → n < l.number → NamesCommands (get_or l.lives n d) (get_or l.records n e)
