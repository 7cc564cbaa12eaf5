-- What a client is after a command, and at its end.
use Rattle.std.specs.Prelude.{◌≡◌, ℕ, Bool, true, false, List, [], ◌∷◌, ◌++◌, Option, None, Some}
use Rattle.cx_service.specs.Callers.{StoppedSeat}
use Rattle.cx_service.specs.declared.close.Handed.TheVariants.{Idle, Stopped as StoppedCaller}
use Rattle.life_records.specs.Records.{JournalLine, StopLine}
use Rattle.cx_lives.specs.declared.progress.Progress.{Progress}
use Rattle.cx_lives.specs.declared.progress.End.{End}
use Rattle.cx_lives.specs.declared.progress.End.TheVariants.{Stopped, Impossible}
use Rattle.cx_lives.specs.declared.lines.Lines.{Lines}
use Rattle.cx_lives.specs.declared.progress.CommandOutcome.{CommandOutcome}
use Rattle.cx_lives.specs.declared.progress.CommandOutcome.TheVariants.{Next, Over}
use Rattle.cx_lives.specs.declared.progress.Work.{Work}

-- the end of a client whose caller is in no call
abbrev pub ended : {Reply : Type 0} → Progress Reply → End → Work Reply
ended progress end_ = record { handed = Idle progress.caller; lines = progress.lines; end = end_ }

-- a client after its answer, by whether the words of that are a reply's
abbrev pub attempt_after : {Reply : Type 0} → Progress Reply → Bool → CommandOutcome Reply
attempt_after progress true = Next progress
attempt_after progress false = Over (ended progress Impossible)

-- the stop line of a client that is stopped in its command of this number
abbrev pub stop_line : ℕ → ℕ → StoppedSeat → StopLine
stop_line client number stopped = record { client = client; command = number; steps = stopped.seat.known.local.limit; kept = false }

-- the lines with one more, without reply, where an entry is linked
abbrev pub with_linked : {Reply : Type 0} → ℕ → ℕ → Option ℕ → List (JournalLine Reply) → List (JournalLine Reply)
with_linked client number None entries = entries
with_linked client number (Some ticket) entries =
    entries ++ record { ticket = ticket; client = client; command = number; reply = None } ∷ []

-- the client is stopped in its command of this number
pub record StopsIn {Reply : Type 0} (client number : ℕ) (stopped : StoppedSeat) (lines : Lines Reply) (work : Work Reply) : Type 0 where
  pub handed : work.handed ≡ StoppedCaller stopped
  pub end_is : work.end ≡ Stopped (stop_line client number stopped)
  pub entries_are : work.lines.entries.items ≡ with_linked client number stopped.linked lines.entries.items
  pub reads_are : work.lines.reads.items ≡ lines.reads.items
