-- The result of taking a replica, whichever is free.
use Rattle.std.specs.Prelude.{◌≡◌, ◌*◌, ◌<◌, if◌then◌else◌, ℕ, [], Option, Some, None}
use Rattle.cx_base.specs.declared.object.Object.{Ghosts}
use Rattle.cx_core.specs.LockEvents.{has_all, with_number}
use Rattle.cx_core.specs.State.{one_more}
use Rattle.table_invariant.specs.Running.{IsSeatOf, Running}
use Rattle.table_invariant.specs.Seats.{IsAtLimit, Seated}
use Rattle.cx_table.specs.Right.{Right}
use Rattle.replica.specs.Laws.{IsTakenIn}
use Rattle.strong_trylock.specs.Held.{all_rights, no_rights}

-- what exclusive tries leave as it was: the seat but for the exclusive right, what was tried and noted, and the counts of steps
-- and refusals
abbrev pub unchanged_by_tries : Seated → Seated
unchanged_by_tries s = record s {
  known = record s.known {
    local = record s.known.local { refused = []; seen_lock = None; exclusive = None; steps = 0; met = 0 };
    noted = [];
    accesses = [];
  };
}

-- a caller of this table without rights, to which no replica is refused yet
pub record MayTake {O : Type 0} (r : Running O) (seat : Seated) : Type 0 where
  pub of : IsSeatOf r seat
  pub free : all_rights seat ≡ no_rights
  pub refused : seat.known.local.refused ≡ []

-- a caller of this table without rights, which may try one of the replicas exclusively
pub record MayTry {O : Type 0} (r : Running O) (replica : ℕ) (seat : Seated) : Type 0 where
  pub of : IsSeatOf r seat
  pub free : all_rights seat ≡ no_rights
  pub few : replica < 2 * r.callers

-- a replica was just taken, which is the caller's only right
pub record TakesOne {O : Type 0} (o : Ghosts O) (r : Running O) (before after : Seated) (held : Right) : Type 0 where
  pub taken : IsTakenIn o r after held
  pub rights : all_rights after ≡ record no_rights { exclusive = Some held.replica }
  pub refused : after.known.local.refused ≡ []
  pub met : after.known.local.met ≡ before.known.local.met

-- a replica was refused, beside those refused so far: once all are, a refusal is met
pub record IsRefusedBy (callers replica : ℕ) (before after : Seated) : Type 0 where
  pub rights : all_rights after ≡ no_rights
  pub refused : after.known.local.refused ≡ (if has_all callers (with_number before.known.local.refused replica) then [] else with_number before.known.local.refused replica)
  pub met : after.known.local.met ≡ (if has_all callers (with_number before.known.local.refused replica) then one_more before.known.local.met else before.known.local.met)

-- each replica was refused in turn, and a refusal was met
pub record IsRefusedByAll (before after : Seated) : Type 0 where
  pub rights : all_rights after ≡ no_rights
  pub refused : after.known.local.refused ≡ []
  pub met : after.known.local.met ≡ one_more before.known.local.met

-- what a try to hold one replica exclusively leaves: the right, or its refusal
abbrev pub TriesOne : {O : Type 0} → Ghosts O → Running O → ℕ → Seated → Seated → Option Right → Type 0
TriesOne o r replica before after (Some held) = TakesOne o r before after held
TriesOne o r replica before after None = IsRefusedBy r.callers replica before after

-- what tries to hold some replica exclusively leave: a right, or a refusal by each replica
abbrev pub TakesAny : {O : Type 0} → Ghosts O → Running O → Seated → Seated → Option Right → Type 0
TakesAny o r before after (Some held) = TakesOne o r before after held
TakesAny o r before after None = IsRefusedByAll before after

-- the step limit was reached before each replica had refused the caller
pub record HaltsTaking (before after : Seated) : Type 0 where
  pub limit : IsAtLimit after.known.local
  pub met : after.known.local.met ≡ before.known.local.met
