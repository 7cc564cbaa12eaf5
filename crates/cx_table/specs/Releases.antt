-- The release of a shared right, by a subtraction of 1 from the lock word, and what has to be shown of the words copied.
use Rattle.std.specs.Prelude.{◌<◌, ℕ, List, length}
use Rattle.atomic_table.specs.Table.{Allows, Me}
use Rattle.cx_core.specs.declared.kinds.Kind.TheVariants.{BackOff}
use Rattle.cx_core.specs.Layout.{lock_at}
use Rattle.cx_core.specs.State.{Instance}
use Rattle.table_invariant.specs.declared.rule.Known.{Known}
use Rattle.table_invariant.specs.Learns.{LearnsBy}
use Rattle.table_invariant.specs.Rule.{RuleHolds}
use Rattle.table_invariant.specs.Seats.{Seated, known_of}
use Rattle.table_invariant.specs.Steps.{MayReleaseKnowing}
use Rattle.cx_table.specs.Right.{Right}
use Rattle.cx_table.specs.Tokens.{IsExclusiveOf, IsSharedOf}
use Rattle.cx_table.specs.Words.{put_by}
use Rattle.cx_table.specs.declared.events.Instruction.TheVariants.{Subtract}
use Rattle.caller_cache.specs.Copies.{CopiesDirty}

-- a release that tells its caller's seat this is allowed, since the event by itself is
abbrev pub MayRelease : Instance → ℕ → ℕ → ℕ → Me ℕ (List Known) → (ℕ → Me ℕ (List Known) → Type 0) → Type 0
MayRelease instance replica slots id me tells =
    LearnsBy instance (λ _. BackOff replica) (known_of me.0) (lock_at instance.callers replica) (put_by (Subtract 1)) → Allows (RuleHolds instance) slots id me (lock_at instance.callers replica) (put_by (Subtract 1)) tells

-- of the replica held shared the place and each dirty word were copied over the one held exclusively, and what is known tells that its release leaves
-- the words loaded there
pub record IsMovedFrom (instance : Instance) (seat : Seated) (mine other : Right) : Type 0 where
  pub held : IsExclusiveOf instance.callers seat mine
  pub source : IsSharedOf instance.callers seat other
  pub dirty : 0 < length instance.base.words → CopiesDirty seat.region seat.known
  pub learned : MayReleaseKnowing instance (BackOff other.replica) seat.known (lock_at instance.callers other.replica) (put_by (Subtract 1))
