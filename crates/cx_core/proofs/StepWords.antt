-- Which words steps are on: a step on no word of a replica is on a word in front of them.
use Rattle.std.proofs.Common.{◌≡◌, ◌*◌, ◌<◌, ◌≤◌, ℕ, List, Option, None, Some, subst, arith}
use Rattle.std.proofs.lemmas.Nat.{mod_below}
use Rattle.std.proofs.lemmas.Option.{slice_get_within}
use Rattle.std.specs.List.{slice_get}
use Rattle.cx_core.specs.declared.kinds.Kind.{Kind}
use Rattle.cx_core.specs.declared.kinds.Kind.TheVariants.{WriteCell, Link, Look, ReadCell, TryExclusive, TryShared, BackOff, Downgrade, ReleaseExclusive, LoadWord, StoreWord, Persist, Retire, Protect, Unprotect, Scan, WriteSet, Offer, LoadOffer, ReadSet, NoteGap, LoadGap}
use Rattle.cx_core.specs.declared.local.Local.{Local}
use Rattle.cx_core.specs.declared.local.SeenSlot.{SeenSlot}
use Rattle.cx_core.specs.Events.{Guard, step_word}
use Rattle.cx_core.specs.Lawful.{Shape}
use Rattle.cx_core.specs.Layout.{cell_count, replicas_at}
use Rattle.cx_core.specs.QueueEvents.{ShowsTicket}
use Rattle.cx_core.specs.RootEvents.{before_in}
use Rattle.cx_core.specs.State.{Instance, Scene}

abbrev pub IsLow : Instance → Kind → Local → Type 0
IsLow instance (LoadWord r i refused) l = Unit {0}
IsLow instance (StoreWord r i v) l = Unit {0}
IsLow instance (Persist r i) l = Unit {0}
IsLow instance kind l = step_word instance kind l < replicas_at instance.callers

-- a slot that was seen names one of the cells
pub shown_cell : (callers : ℕ) (o : Option SeenSlot) (t k : ℕ) → 1 ≤ callers → ShowsTicket callers o t k → k < cell_count callers
shown_cell callers None t k some shows = absurd shows
shown_cell callers (Some seen) t k some shows = subst (λ n. n < cell_count callers) shows.3 (mod_below _ (cell_count callers) (omega (arith, some)))

module _ (instance : Instance) (scene : Scene) (words : List ℕ) (locals : List Local) (caller : ℕ) (l : Local) (shape : Shape instance words locals) (at : slice_get locals caller ≡ Some l) where
  abbrev callers : ℕ
  callers = instance.callers

  pub own_small : l.number < callers
  own_small = omega (arith, (shape.each caller l at).number, slice_get_within locals caller l at, shape.count)

  pub step_low : (kind : Kind) → Guard instance scene kind l → IsLow instance kind l
  step_low (WriteCell j i v) guard = omega (arith, own_small, guard.0, guard.1)
  step_low (Link j) guard = omega (arith, mod_below l.front (cell_count callers) (omega (arith, shape.some)))
  step_low (Look s) guard = omega (arith, guard)
  step_low (ReadCell t k i) guard = omega (arith, guard.1, shown_cell callers l.seen_slot t k shape.some guard.2)
  step_low (TryExclusive r) guard = omega (arith, guard.0)
  step_low (TryShared r) guard = omega (arith, guard.0)
  step_low (BackOff r) guard = omega (arith, guard.0)
  step_low (Downgrade r) guard = omega (arith, guard.0.0)
  step_low (ReleaseExclusive r) guard = omega (arith, guard.0.0)
  step_low (LoadWord r i refused) guard = tt
  step_low (StoreWord r i v) guard = tt
  step_low (Persist r i) guard = tt
  step_low Retire guard = omega (arith, mod_below (before_in l.won) (2 * callers) (omega (arith, shape.some)))
  step_low (Protect p) guard = omega (arith, own_small)
  step_low Unprotect guard = omega (arith, own_small)
  step_low (Scan d) guard = omega (arith, guard.0)
  step_low (WriteSet j i v) guard = omega (arith, own_small, guard.0.0, guard.1)
  step_low (Offer j) guard = omega (arith, own_small, guard.0.0)
  step_low (LoadOffer k t) guard = omega (arith, shown_cell callers l.seen_slot t k shape.some guard.1)
  step_low (ReadSet k t i) guard = omega (arith, guard.1, shown_cell callers l.seen_slot t k shape.some guard.2)
  step_low (NoteGap s i v) guard = omega (arith, guard.0, guard.1)
  step_low (LoadGap s i) guard = omega (arith, guard.0, guard.1)
  step_low kind guard = omega arith
