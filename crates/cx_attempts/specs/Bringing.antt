-- The write sets of others that a call reads, to bring their entries onto a replica. Of each there is a seat from which to a next just its pairs are
-- stored; no definition here says that the call's own steps lead through these two.
use Rattle.std.specs.Prelude.{◌≡◌, ◌+◌, ◌⊎◌, true, false, ℕ, Bool, List, Option, Some, None}
use Rattle.table_invariant.specs.Seats.{Seated}
use Rattle.cx_attempts.specs.Attempts.{KeepsCount}
use Rattle.redo_set.specs.Taking.{sets_read}
use Rattle.redo_replay.specs.Offered.{StoresSet}

-- At most the set of the entry with this ticket was read: no word of a set, or one set, and from some seat on just its pairs are stored.
abbrev pub BringsAtMost : ℕ → Seated → Seated → Type 0
BringsAtMost ticket before after = (after.known.sets ≡ before.known.sets) ⊎ ((set : List ℕ) × (mid : Seated) × (mid.known.sets ≡ before.known.sets) × StoresSet ticket set mid after)

-- From the first seat on this many sets were read, each with a seat from which to a next its pairs are stored, and no word of any other set was
-- read.
pub data BringsOn (before : Seated) : ℕ → Seated → Type 0 where
  none_yet : (n : ℕ) (now : Seated) → n ≡ 0 → now.known.sets ≡ before.known.sets → BringsOn before n now
  one_more : (n : ℕ) (now : Seated) (first : ℕ) (mid next : Seated) (ticket : ℕ) (set : List ℕ) → n ≡ first + 1 → BringsOn before first mid → StoresSet ticket set mid next → now.known.sets ≡ next.known.sets → BringsOn before n now

-- from one seat to another sets were read, each with its pairs stored, as many as the count of the sets that were read rose by
pub record BringsEntries (before after : Seated) : Type 0 where
  pub count : ℕ
  pub on : BringsOn before count after
  pub read : sets_read after.known.sets ≡ sets_read before.known.sets + count

-- The sets of others that were read from one seat to another are counted: where `taken` is the count of all sets read before, `now` is the count
-- after.
pub record CountsEntries (taken : ℕ) (before : Seated) (now : ℕ) (after : Seated) : Type 0 where
  pub counted : KeepsCount taken before now after
  pub by_sets : BringsEntries before after

-- what an attempt that may give nothing reads: where it gives nothing, no word of a set
abbrev pub BringsIn : {X : Type 0} → Seated → Seated → Option X → Type 0
BringsIn before after (Some x) = BringsEntries before after
BringsIn before after None = after.known.sets ≡ before.known.sets

-- The sets of others that were read by an attempt that may give nothing are counted: where `taken` is the count of all sets read before it, `now` is
-- the count after.
pub record CountsIn {X : Type 0} (taken : ℕ) (before : Seated) (now : ℕ) (after : Seated) (given : Option X) : Type 0 where
  pub counted : KeepsCount taken before now after
  pub by_sets : BringsIn before after given

-- what an attempt that says whether it gave something reads: where it gives nothing, no word of a set
abbrev pub BringsInAttempt : Seated → Seated → Bool → Type 0
BringsInAttempt before after true = BringsEntries before after
BringsInAttempt before after false = after.known.sets ≡ before.known.sets

-- The sets of others that were read by an attempt that says whether it gave something are counted: where `taken` is the count of all sets read before
-- it, `now` is the count after.
pub record CountsAttempt (taken : ℕ) (before : Seated) (now : ℕ) (after : Seated) (given : Bool) : Type 0 where
  pub counted : KeepsCount taken before now after
  pub by_sets : BringsInAttempt before after given
