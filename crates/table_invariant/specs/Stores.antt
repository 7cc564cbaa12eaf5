-- What a caller of a running store knows, by the store: what is lawful of its words, its base and its step are the store's. The lines are the
-- object's in `FitsIn` and `TellsSetIn`, and the table's in the others; a table has as many as its object.
use Rattle.std.specs.Prelude.{ℕ, List, Option}
use Rattle.cx_base.specs.declared.object.Object.{Ghosts}
use Rattle.cx_core.specs.declared.local.Answer.{Answer}
use Rattle.table_invariant.specs.declared.rule.Known.{Known}
use Rattle.table_invariant.specs.Fitting.{FitsKnown, Fitting, IsReplayed, IsReplayedToPlace}
use Rattle.table_invariant.specs.Offers.{TellsSet}
use Rattle.table_invariant.specs.Raises.{TellsAnswers, TellsReads}
use Rattle.table_invariant.specs.Running.{Running}

-- the first and the present words that fit what a caller knows of the replica that it holds exclusively, or held so last
abbrev pub FitsIn : {O : Type 0} → Ghosts O → Running O → Known → List ℕ → List ℕ → Type 0
FitsIn o r = FitsKnown (o.line_count r.object) (o.lawful r.object) r.base (o.step r.object)

-- some words fit what a caller noted, of that replica and of one held shared, and what it noted whole is lawful
abbrev pub FittingIn : {O : Type 0} → Ghosts O → Running O → Known → Type 0
FittingIn o r = Fitting r.lines (o.lawful r.object) r.base (o.step r.object)

-- whatever fits, what the caller has of entries and write sets leads from the first words to the present ones
abbrev pub IsReplayedIn : {O : Type 0} → Ghosts O → Running O → Known → Type 0
IsReplayedIn o r = IsReplayed r.lines (o.lawful r.object) r.base (o.step r.object)

-- whatever fits, what the caller has of entries and write sets leads from the first words to the present ones, at the place that was loaded or stored last
abbrev pub IsReplayedToPlaceIn : {O : Type 0} → Ghosts O → Running O → Known → Type 0
IsReplayedToPlaceIn o r = IsReplayedToPlace r.lines (o.lawful r.object) r.base (o.step r.object)

-- whatever fits, this is a write set of the entry with this ticket
abbrev pub TellsSetIn : {O : Type 0} → Ghosts O → Running O → Known → ℕ → List ℕ → Type 0
TellsSetIn o r = TellsSet (o.line_count r.object) (o.lawful r.object) r.base (o.step r.object)

-- a raise to this place answers so the caller's entry that is not answered yet
abbrev pub TellsAnswersIn : {O : Type 0} → Ghosts O → Running O → Known → ℕ → List Answer → Type 0
TellsAnswersIn o r = TellsAnswers r.lines (o.lawful r.object) r.base (o.step r.object)

-- a read, where one is given, is an operation with the reply that it has on whatever fits what was loaded
abbrev pub TellsReadsIn : {O : Type 0} → Ghosts O → Running O → Known → Option (List ℕ × List ℕ) → Type 0
TellsReadsIn o r = TellsReads r.lines (o.lawful r.object) r.base (o.step r.object)
