-- A replica held exclusively once gaps were noted.
use Rattle.std.proofs.Common.{◌≡◌, ◌<◌, All, ℕ, List, ap, sym, subst, ◌∙◌, arith}
use Rattle.cx_base.specs.declared.object.Object.{Ghosts}
use Rattle.cx_core.specs.declared.local.Local.{Local}
use Rattle.cx_core.specs.Region.{region_words}
use Rattle.cx_core.specs.Rights.{exclusive_on, held_dirty}
use Rattle.table_invariant.specs.Fitting.{has_of}
use Rattle.table_invariant.specs.Offers.{TellsSet}
use Rattle.table_invariant.specs.Running.{Running}
use Rattle.table_invariant.specs.Seats.{IsAtLimit, IsWithinLimit, Seated}
use Rattle.table_invariant.proofs.HasMore.{fits_same, some_same}
use Rattle.table_invariant.proofs.Stepping.{on_then}
use Rattle.cx_table.specs.Right.{Right}
use Rattle.redo_set.specs.Gaps.{KeepsNoting}
use Rattle.redo_set.proofs.GapEnds.{tells_after_noting}
use Rattle.replica.specs.Held.{IsHeld, unchanged_by_access}
use Rattle.replica.specs.Laws.{image_same}
use Rattle.replica.specs.Regions.{HasPlace}
use Rattle.replica.specs.Replays.{IsAfterFullStep, IsReady, ShowsReply, noted_place}

module _ {O : Type 0} (o : Ghosts O) (r : Running O) (held : Right) (before after : Seated) (leaves : KeepsNoting o r before after) where
  has_still : has_of after.known ≡ has_of before.known
  has_still = ap (λ (s : Seated). has_of s.known) leaves.seat

  accesses_are : after.known.accesses ≡ before.known.accesses
  accesses_are = ap (λ (s : Seated). s.known.accesses) leaves.seat

  pub held_noting : IsHeld (o.line_count r.object) r (o.lawful r.object) (o.step r.object) before held → IsHeld (o.line_count r.object) r (o.lawful r.object) (o.step r.object) after held
  held_noting was = record {
    sized = was.sized;
    of = leaves.of;
    right = record {
      few = was.right.few;
      caller = was.right.caller ∙ sym (ap (λ (s : Seated). s.known.local.number) leaves.seat);
      holds = ap (λ (s : Seated). exclusive_on s.known.local) leaves.seat ∙ was.right.holds;
    };
    some = some_same (o.line_count r.object) (o.lawful r.object) r.base (o.step r.object) before.known after.known has_still accesses_are was.some;
    dirty = subst (λ (s : Seated). All (λ i. i < region_words (o.line_count r.object)) (held_dirty s.known.local.exclusive)) (sym leaves.seat) was.dirty;
  }

  pub ready_noting : (at : ℕ) → IsReady o r held at before → IsReady o r held at after
  ready_noting at was = record {
    is_held = held_noting was.is_held;
    image = image_same (o.line_count r.object) (o.lawful r.object) r.base (o.step r.object) before.known after.known has_still accesses_are was.image;
    place = ap noted_place leaves.seat ∙ was.place;
  }

  pub replied_noting : (caller : ℕ) (reply : List ℕ) → ShowsReply (o.line_count r.object) (o.lawful r.object) r.base (o.step r.object) before.known caller reply → ShowsReply (o.line_count r.object) (o.lawful r.object) r.base (o.step r.object) after.known caller reply
  replied_noting caller reply shows first now f = shows first now (fits_same (o.line_count r.object) (o.lawful r.object) r.base (o.step r.object) before.known after.known has_still accesses_are first now f)

  pub accessed_noting : (first : Seated) → IsWithinLimit after.known.local → IsAfterFullStep o r held first before → IsAfterFullStep o r held first after
  accessed_noting first within was = record {
    still = held_noting was.still;
    begun = subst HasPlace (sym accesses_are) was.begun;
    within = within;
    since = on_then first before after was.since leaves.since;
    rest = ap (unchanged_by_access held.replica) leaves.seat ∙ was.rest;
  }

  -- where what a caller noted tells a write set of a ticket, it still does after gaps were noted, with the lines counted by the object
  pub tells_noting : (ticket : ℕ) (pairs : List ℕ) → r.lines ≡ o.line_count r.object → TellsSet (o.line_count r.object) (o.lawful r.object) r.base (o.step r.object) before.known ticket pairs →
      TellsSet (o.line_count r.object) (o.lawful r.object) r.base (o.step r.object) after.known ticket pairs
  tells_noting ticket pairs same tells =
      subst (λ n. TellsSet n (o.lawful r.object) r.base (o.step r.object) after.known ticket pairs) same
      (tells_after_noting o r pairs ticket before after leaves (subst (λ n. TellsSet n (o.lawful r.object) r.base (o.step r.object) before.known ticket pairs) (sym same) tells))

-- who is at the limit is within it
pub at_within : (l : Local) → IsAtLimit l → IsWithinLimit l
at_within l at below = (let same = at.0 in omega (arith, same))
