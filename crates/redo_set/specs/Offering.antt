-- The write set of an own entry, as its caller writes it beside the entry's cell and offers it.
use Rattle.std.specs.Prelude.{◌≡◌, ◌+◌, ◌*◌, ◌<◌, ◌⊎◌, ℕ, Bool, List, Some, slice_index, slice_set}
use Rattle.cx_base.specs.declared.object.Object.{Ghosts}
use Rattle.cx_core.specs.declared.entry.Entry.{Entry}
use Rattle.cx_core.specs.declared.kinds.Kind.TheVariants.{WriteSet}
use Rattle.cx_core.specs.QueueEvents.{cell_of}
use Rattle.cx_core.specs.SetEvents.{CanWriteSet}
use Rattle.table_invariant.specs.declared.rule.Known.{Known}
use Rattle.table_invariant.specs.Fitting.{has_of}
use Rattle.table_invariant.specs.Running.{IsSeatOf, Running}
use Rattle.table_invariant.specs.Seats.{Seated, StepsOn}
use Rattle.table_invariant.specs.Steps.{KeepsSet, Steps}
use Rattle.table_invariant.specs.Stores.{FittingIn}

-- the set of the own entry with a ticket may be written in a cell and offered
pub record MayOffer {O : Type 0} (r : Running O) (cell ticket : ℕ) (seat : Seated) : Type 0 where
  pub of : IsSeatOf r seat
  pub can : CanWriteSet seat.known.local cell
  pub named : (cell_of seat.known.local cell).ticket ≡ Some ticket

-- the seat after this number of steps, where a cell has these words as its set and this offer word
abbrev pub seat_with_set : ℕ → List ℕ → ℕ → ℕ → Seated → Seated
seat_with_set j set offer steps s = record s { known = record s.known { local = record s.known.local { cells = slice_set s.known.local.cells j (record (cell_of s.known.local j) { set = set; offer = offer }); steps = steps } } }

-- words of the set of a cell were written, and nothing else changed but the steps
pub record WritesSet (j : ℕ) (before after : Seated) : Type 0 where
  pub set : List ℕ
  pub seat : after ≡ seat_with_set j set (cell_of before.known.local j).offer after.known.local.steps before

-- the pairs of a set were written beside a cell and offered with a ticket
pub record OffersSet (j ticket : ℕ) (pairs : List ℕ) (before after : Seated) : Type 0 where
  pub set : List ℕ
  pub same : (i : ℕ) → i < 2 * slice_index pairs 0 + 1 → slice_index set i ≡ slice_index pairs i
  pub seat : after ≡ seat_with_set j set (ticket + 1) after.known.local.steps before

-- the pairs of a set were written beside a cell and offered with a ticket, and what really is there fits what their caller then knows
pub record OffersFitting {O : Type 0} (o : Ghosts O) (r : Running O) (j ticket : ℕ) (pairs : List ℕ) (before after : Seated) : Type 0 where
  pub offers : OffersSet j ticket pairs before after
  pub fits : FittingIn o r after.known

-- a set of a ticket was kept by no step, and what really is there fits what its caller then knows
pub record KeepsFitting {O : Type 0} (o : Ghosts O) (r : Running O) (ticket : ℕ) (pairs : List ℕ) (before after : Seated) : Type 0 where
  pub keeps : KeepsSet r ticket pairs before after
  pub fits : FittingIn o r after.known

-- a word that differed from the one in a cell's set was written by a step, and for one that did not nothing was done
abbrev pub WritesDiffering : {O : Type 0} → Running O → (O → List ℕ → List ℕ → List ℕ × List ℕ) → (O → List ℕ → Bool) → ℕ → ℕ → ℕ → Seated → Seated → Type 0
WritesDiffering r step reads j i v before after =
    ((slice_index (cell_of before.known.local j).set i ≡ v) × (after ≡ before)) ⊎ Steps r step reads (WriteSet j i v) 0 before after

-- what a seat had it has
pub record HasStill (before after : Known) : Type 0 where
  pub entry : (ticket : ℕ) (entry : Entry) → (has_of before).entry ticket entry → (has_of after).entry ticket entry
  pub set : (ticket : ℕ) (set : List ℕ) → (has_of before).set ticket set → (has_of after).set ticket set

-- what an offer leaves, and so does a set that is kept: what the seat had it has, it is one of the table, and no step is taken back
pub record KeepsOffering {O : Type 0} (r : Running O) (before after : Seated) : Type 0 where
  pub has : HasStill before.known after.known
  pub of : IsSeatOf r after
  pub since : StepsOn before after
