-- Steps that are made by one call, one after another: each is as its own call would tell it.
use Rattle.std.specs.Prelude.{false, ◌≡◌, ◌+◌, ◌<◌, ℕ, Bool, List, [], ◌∷◌, ◌++◌, length, take}
use Rattle.atomic_table.specs.Table.{Me}
use Rattle.cx_core.specs.declared.kinds.Kind.{Kind}
use Rattle.cx_core.specs.declared.kinds.Kind.TheVariants.{LoadWord, ReadCell, ReadSet}
use Rattle.cx_core.specs.Layout.{vol_at}
use Rattle.cx_core.specs.RegionEvents.{CanLoad}
use Rattle.cx_core.specs.State.{Instance}
use Rattle.table_invariant.specs.declared.rule.Known.{Known}
use Rattle.table_invariant.specs.Fitting.{Fitting}
use Rattle.table_invariant.specs.Running.{Running}
use Rattle.table_invariant.specs.Seats.{Seated, known_of}
use Rattle.table_invariant.specs.Steps.{Steps, KnowledgeAfter}

-- the kinds of loads of the words of a replica, from one on
abbrev pub loads_from : ℕ → ℕ → ℕ → Kind
loads_from r from i = LoadWord r (from + i) false

-- where the words of a replica begin in the table
abbrev pub StartsAt : {O : Type 0} → Running O → ℕ → ℕ → Type 0
StartsAt r replica start = start ≡ vol_at r.callers (length r.base.words) replica 0

-- the kinds of loads of the words of the entry with a ticket in a cell
abbrev pub reads_of : ℕ → ℕ → ℕ → Kind
reads_of t k i = ReadCell t k i

-- the kinds of loads of the words of the write set with a ticket beside a cell, from one on
abbrev pub set_reads_from : ℕ → ℕ → ℕ → ℕ → Kind
set_reads_from k t from i = ReadSet k t (from + i)

-- Steps of these kinds found these words, in order, and lead from one seat to another. After each of them some pair fits what is noted.
pub data Runs {O : Type 0} (r : Running O) (step : O → List ℕ → List ℕ → List ℕ × List ℕ) (reads : O → List ℕ → Bool) (lawful : List ℕ → Type 0) (kinds : ℕ → Kind) : List ℕ → Seated → Seated → Type 0 where
  no_step : (words : List ℕ) (before after : Seated) → words ≡ [] → after ≡ before → Runs r step reads lawful kinds words before after
  one_more_step : (words : List ℕ) (before after : Seated) (first : List ℕ) (found : ℕ) (mid : Seated) → words ≡ first ++ found ∷ [] → Runs r step reads lawful kinds first before mid → Steps r step reads (kinds (length first)) found mid after →
      Fitting r.lines lawful r.base (step r.object) after.known → Runs r step reads lawful kinds words before after

-- steps of these kinds, which found these words in order, teach their caller's seat this
pub data TeachesRun (instance : Instance) (kinds : ℕ → Kind) : List ℕ → Me ℕ (List Known) → Me ℕ (List Known) → Type 0 where
  taught_none : (words : List ℕ) (before after : Me ℕ (List Known)) → words ≡ [] → after ≡ before → TeachesRun instance kinds words before after
  taught_more : (words : List ℕ) (before after : Me ℕ (List Known)) (first : List ℕ) (found : ℕ) (mid : Me ℕ (List Known)) → words ≡ first ++ found ∷ [] → TeachesRun instance kinds first before mid → KnowledgeAfter instance (kinds (length first)) (known_of mid.0) found after →
      TeachesRun instance kinds words before after

-- the first n of these words were loaded of a replica, from one on, since the seat was that one, and the words may be loaded now
pub record AreLoaded (instance : Instance) (replica from : ℕ) (begun : Me ℕ (List Known)) (n : ℕ) (words : List ℕ) (me : Me ℕ (List Known)) : Type 0 where
  pub one : me ≡ (known_of me.0 ∷ [], [])
  pub may : (i : ℕ) → i < length words → CanLoad instance.callers (length instance.base.words) replica (from + i) (known_of me.0).local
  pub taught : TeachesRun instance (loads_from replica from) (take n words) begun me
