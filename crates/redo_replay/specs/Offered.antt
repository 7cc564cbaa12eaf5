-- Another's entry is brought onto a replica held exclusively by its write set, where it is offered.
use Rattle.std.specs.Prelude.{◌≡◌, ◌+◌, ◌++◌, true, false, ℕ, Bool, List, [], None}
use Rattle.cx_base.specs.Memory.{Becomes}
use Rattle.cx_base.specs.declared.object.Object.{Ghosts}
use Rattle.core_queue.specs.NotedSets.{IsNotedSet}
use Rattle.table_invariant.specs.Running.{IsSeatOf, Running}
use Rattle.table_invariant.specs.Seats.{Seated, StepsOn}
use Rattle.table_invariant.specs.Stores.{FitsIn}
use Rattle.cx_table.specs.Right.{Right}
use Rattle.redo_set.specs.Sets.{put_over}
use Rattle.redo_set.specs.Taking.{CountsTaken, sets_read}
use Rattle.replica.specs.Held.{unchanged_by_access}
use Rattle.replica.specs.Replays.{IsReady}
use Rattle.redo_replay.specs.Storing.{set_stores}

-- what no such work changes: the seat but for the slot and the offer last seen, the steps, and what is noted of sets and of the replica
abbrev pub unchanged_by_offered : ℕ → Seated → Seated
unchanged_by_offered replica s = (let b = unchanged_by_access replica s in record b { known = record b.known { local = record b.known.local { seen_slot = None; seen_offer = None }; sets = [] } })

-- whatever was made of it, the seat is one of the table, what no such work changes is as it was, and no step is taken back
pub record KeepsOffered {O : Type 0} (r : Running O) (replica : ℕ) (before after : Seated) : Type 0 where
  pub seat : IsSeatOf r after
  pub rest : unchanged_by_offered replica after ≡ unchanged_by_offered replica before
  pub since : StepsOn before after

-- where the set was taken the replica is the image after the next place, and else after this one
abbrev pub ReplaysOffered : {O : Type 0} → Ghosts O → Running O → Right → ℕ → Seated → Bool → Type 0
ReplaysOffered o r held ticket after true = IsReady o r held (ticket + 1) after
ReplaysOffered o r held ticket after false = IsReady o r held ticket after

-- One set more was read, which is noted whole with the ticket, and each access made of the replica held exclusively is a store of one of its
-- pairs, in order.
pub record StoresSet (ticket : ℕ) (set : List ℕ) (before after : Seated) : Type 0 where
  pub noted : IsNotedSet after.known.sets ticket set
  pub read : sets_read after.known.sets ≡ sets_read before.known.sets + 1
  pub accesses : after.known.accesses ≡ before.known.accesses ++ set_stores set

-- One set more was read, and its pairs were stored over the words that the replica held exclusively had.
pub record IsBroughtBySet {O : Type 0} (o : Ghosts O) (r : Running O) (ticket : ℕ) (set : List ℕ) (before after : Seated) : Type 0 where
  pub by : StoresSet ticket set before after
  pub stores : Becomes (FitsIn o r before.known) (FitsIn o r after.known) (λ was now. now ≡ put_over set was)

-- where a set was taken, the replica was brought on by it
abbrev pub BringsBySet : {O : Type 0} → Ghosts O → Running O → ℕ → List ℕ → Seated → Seated → Bool → Type 0
BringsBySet o r ticket set before after true = IsBroughtBySet o r ticket set before after
BringsBySet o r ticket set before after false = Unit {0}

-- A set that was taken is counted, and the replica was brought on by it.
pub record BringsOffered {O : Type 0} (o : Ghosts O) (r : Running O) (ticket : ℕ) (set : List ℕ) (before after : Seated) (taken : Bool) : Type 0 where
  pub counted : CountsTaken before after taken
  pub brought : BringsBySet o r ticket set before after taken
