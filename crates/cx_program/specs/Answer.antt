-- What a run answers: the status and the text that the words and the input call for.
use Rattle.std.specs.Prelude.{◌≡◌, ◌⊎◌, ◌<◌, ◌≤◌, ℕ, List, length, Option, IsTrue}
use Rattle.cx_base.specs.Outside.{Rose}
use Rattle.table_invariant.specs.Ending.{Ending}
use Rattle.cx_program.specs.Commands.{CommandMeaning, command_asked}
use Rattle.cx_program.specs.Input.{IsInput}
use Rattle.cx_program.specs.Output.{Appends, AppendsFront}
use Rattle.cx_program.specs.Texts.{too_long_text}
use Rattle.cx_program.specs.declared.asked.AskedCommand.{AskedCommand}
use Rattle.cx_program.specs.declared.status.FinishedRun.{FinishedRun}
use Rattle.cx_program.specs.declared.status.Status.{Status}
use Rattle.cx_program.specs.declared.status.Status.TheVariants.{ReadFault, WriteFault, Memory, TooLong}

-- which status an input calls for; one of too many bytes is refused by every command
abbrev pub CallsForStatus : CommandMeaning → List ℕ → Status → Type 0
CallsForStatus command input status = ((16777216 < length input) × (status ≡ TooLong)) ⊎ ((length input ≤ 16777216) × command.calls input status)

-- What a command owes for an input: the one status that it calls for, the trails of the lives that were run, and the whole text.
pub record Owes (command : CommandMeaning) (input : List ℕ) (status : Status) (trails : List Ending) (text : List ℕ) : Type 0 where
  pub calls : CallsForStatus command input status
  pub only : (other : Status) → CallsForStatus command input other → other ≡ status
  pub long : 16777216 < length input → text ≡ too_long_text
  pub short : length input ≤ 16777216 → command.writes input status trails text

-- What words and input call for. The input is what the source had left, where contracts see it, and empty for a command that reads nothing.
pub record Owed (words : List (List ℕ)) (given : Option (List ℕ)) (status : Status) (trails : List Ending) (text : List ℕ) : Type 0 where
  pub asked : Option AskedCommand
  pub asks : (command_asked asked).asked words
  pub input : List ℕ
  pub is : IsInput (command_asked asked).reads given input
  pub owes : Owes (command_asked asked) input status trails text

-- a text that words and input call for with some status
pub record IsOwed (words : List (List ℕ)) (given : Option (List ℕ)) (text : List ℕ) : Type 0 where
  pub status : Status
  pub trails : List Ending
  pub owed : Owed words given status trails text

-- the words ask for what reads an input
pub record Read (words : List (List ℕ)) : Type 0 where
  pub asked : Option AskedCommand
  pub asks : (command_asked asked).asked words
  pub reads : IsTrue (command_asked asked).reads

-- What was written with a status: nothing where the source failed or memory ran out; a prefix of some text that is called for where
-- the sink failed; else the whole text that is called for.
abbrev pub IsWrittenWith : List (List ℕ) → Option (List ℕ) → Status → List Ending → Option (List ℕ) → Option (List ℕ) → Type 0
IsWrittenWith words given ReadFault trails before after = Read words × (after ≡ before)
IsWrittenWith words given Memory trails before after = after ≡ before
IsWrittenWith words given WriteFault trails before after = (text : List ℕ) × IsOwed words given text × AppendsFront text before after
IsWrittenWith words given status trails before after = (text : List ℕ) × Owed words given status trails text × Appends text before after

-- what caused a status: for `ReadFault` the count of the source's faults rose, for `WriteFault` that of the sink's; no other status needs a cause
abbrev pub HasCause : Status → ℕ → ℕ → ℕ → ℕ → Type 0
HasCause ReadFault reads reads' writes writes' = Rose reads reads'
HasCause WriteFault reads reads' writes writes' = Rose writes writes'
HasCause _ reads reads' writes writes' = Unit {0}

-- a whole text was written, and the run ended as it calls for; or the sink failed after a prefix of it
abbrev pub Wrote : List ℕ → FinishedRun → FinishedRun → Option (List ℕ) → Option (List ℕ) → ℕ → ℕ → Type 0
Wrote text owed result before after faults faults' =
    ((result ≡ owed) × Appends text before after)
    ⊎ ((result.status ≡ WriteFault) × AppendsFront text before after × Rose faults faults')
