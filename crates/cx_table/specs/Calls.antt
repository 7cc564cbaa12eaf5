-- What a step call needs of its seat, and what it leaves.
use Rattle.std.specs.Prelude.{◌≡◌, ◌^◌, ◌<◌, ◌≤◌, ℕ, IfOk, OnErr, OnOk, Result}
use Rattle.caller_cache.specs.Following.{IsFollowed}
use Rattle.cx_base.specs.declared.object.Object.{Ghosts}
use Rattle.cx_core.specs.declared.kinds.Kind.{Kind}
use Rattle.cx_core.specs.declared.local.Local.{Local}
use Rattle.cx_core.specs.Events.{step_word}
use Rattle.table_invariant.specs.Fitting.{Fitting}
use Rattle.table_invariant.specs.Running.{IsSeatOf, Running, instance_at}
use Rattle.table_invariant.specs.Seats.{IsByShown, IsWithinLimit, Seated, SeenGuard, WordFits}
use Rattle.table_invariant.specs.Steps.{Halts}

-- the seat is one of this table, and as far as it shows, its caller may make a step of this kind
pub record MayStep {O : Type 0} (o : Ghosts O) (r : Running O) (kind : Kind) (s : Seated) : Type 0 where
  pub seat : IsSeatOf r s
  pub guard : SeenGuard (instance_at r o.step o.only_reads) kind s.known.local

-- a step of this kind may be made on this word: the caller may make it, what the seat keeps in plain memory follows it, and the word is one of the table
pub record MayMake {O : Type 0} (o : Ghosts O) (r : Running O) (kind : Kind) (word : ℕ) (s : Seated) : Type 0 where
  pub step : MayStep o r kind s
  pub followed : IsFollowed r.callers kind s.known.local
  pub within : word < r.table.words

-- what the caller's fields show tells a step of this kind, a word that it stores has 64 bits, and this is the step's word
pub record IsShownStep {O : Type 0} (o : Ghosts O) (r : Running O) (kind : Kind) (word : ℕ) (s : Seated) : Type 0 where
  pub shown : IsByShown kind
  pub fits : WordFits kind
  pub place : word ≡ step_word (instance_at r o.step o.only_reads) kind s.known.local

-- What a step call leaves: this of the step that it made, or nothing is changed, since the steps equal the limit.
pub record MakesStep {O A E : Type 0} (r : Running O) (before after : Seated) (result : Result A E) (Made : A → Type 0) : Type 0 where
  pub made : IfOk result Made
  pub halted : OnErr result (Halts r before after)

-- What a step call leaves that tells more: this of the step that it made, and that some pair of words fits what its caller then noted; or nothing is
-- changed, since the steps equal the limit.
pub record MakesFittingStep {O A E : Type 0} (o : Ghosts O) (r : Running O) (before after : Seated) (result : Result A E) (Made : A → Type 0) : Type 0 where
  pub made : IfOk result Made
  pub fits : OnOk result (Fitting r.lines (o.lawful r.object) r.base (o.step r.object) after.known)
  pub halted : OnErr result (Halts r before after)

-- this is the number of a caller's steps, which are within its limit
pub record TellsSteps (l : Local) (steps : ℕ) : Type 0 where
  pub value : steps ≡ l.steps
  pub within : IsWithinLimit l

-- this is a caller's front, the ticket after the last entry that it knows of; it is at most 2^40, the last place
pub record TellsFront (l : Local) (front : ℕ) : Type 0 where
  pub value : front ≡ l.front
  pub small : front ≤ 2 ^ 40
