-- The types of scripts and of records, and what operations mean.
use Rattle.life_records.specs.declared.record.FullLine as full_line
use Rattle.life_records.specs.declared.record.JournalLine as journal_line
use Rattle.life_records.specs.declared.record.LifeRecord as life_record
use Rattle.life_records.specs.declared.record.ReadLine as read_line
use Rattle.life_records.specs.declared.record.StopLine as stop_line
use Rattle.life_records.specs.declared.script.Command as command
use Rattle.life_records.specs.declared.script.Cut as cut
use Rattle.life_records.specs.declared.script.Life as life
use Rattle.life_records.specs.declared.script.Script as script
pub use Rattle.typed_object.specs.Meaning.{AreOfNoReply, Encoding, HasMeaning, OpHasWords, IsReadAs, Meaning}

abbrev pub FullLine : Type 0
FullLine = full_line.FullLine

abbrev pub StopLine : Type 0
StopLine = stop_line.StopLine

abbrev pub Cut : Type 0
Cut = cut.Cut

abbrev pub JournalLine : Type 0 → Type 0
JournalLine = journal_line.JournalLine

abbrev pub ReadLine : Type 0 → Type 0
ReadLine = read_line.ReadLine

abbrev pub LifeRecord : Type 0 → Type 0
LifeRecord = life_record.LifeRecord

abbrev pub Command : Type 0 → Type 0
Command = command.Command

abbrev pub Life : Type 0 → Type 0
Life = life.Life

abbrev pub Script : Type 0 → Type 0
Script = script.Script
