-- What stands of a replica that a code of the chain names, and what a step leaves of a replica.
use Rattle.std.specs.Prelude.{◌≡◌, ◌≢◌, ◌*◌, ◌<◌, ◌≤◌, ℕ, List, length, slice_index}
use Rattle.cx_base.specs.Codes.{root_replica_of}
use Rattle.cx_core.specs.declared.kinds.Kind.{Kind}
use Rattle.cx_core.specs.declared.kinds.Kind.TheVariants.{Persist, StoreWord}
use Rattle.cx_core.specs.LawfulRegions.{IsUnheld, per_word, vol_word}
use Rattle.cx_core.specs.LawfulRoot.{IsPlaced}
use Rattle.cx_core.specs.Layout.{lock_at}
use Rattle.cx_core.specs.State.{Instance, State}

-- the replica that a code names has the code's place, nobody holds it exclusively, and it is pinned
pub record IsPinned (instance : Instance) (s : State) (code : ℕ) : Type 0 where
  pub below : root_replica_of instance.callers code < 2 * instance.callers
  pub placed : IsPlaced instance s.words code
  pub unheld : IsUnheld s.locals (root_replica_of instance.callers code)
  pub pinned : 1 ≤ slice_index s.words (lock_at instance.callers (root_replica_of instance.callers code))

-- a step of this kind neither stores a word of a replica nor persists one
abbrev pub LeavesReplicas : Kind → ℕ → Type 0
LeavesReplicas (StoreWord q i v) r = q ≢ r
LeavesReplicas (Persist q i) r = q ≢ r
LeavesReplicas _ r = Unit {0}

-- the words of a replica are as before, in both memories
pub record SameWords (instance : Instance) (words words' : List ℕ) (r : ℕ) : Type 0 where
  pub vol : (i : ℕ) → i < length instance.base.words → vol_word instance words' r i ≡ vol_word instance words r i
  pub per : (i : ℕ) → i < length instance.base.words → per_word instance words' r i ≡ per_word instance words r i
