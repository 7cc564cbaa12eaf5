-- The ends of gaps, one behind another, and what noting a gap leaves.
use Rattle.std.proofs.Common.{◌≡◌, ◌≢◌, ◌+◌, ◌<◌, ◌≤◌, inl, inr, ℕ, zero, suc, List, [], ◌∷◌, length, take, slice_index, slice_set, refl, ap, sym, subst, ◌∙◌, arith, append-nil}
use Rattle.std.proofs.lemmas.Bool.{cases_eq}
use Rattle.std.proofs.lemmas.List.{get_or-set_other, get_or-take, length-take-le}
use Rattle.cx_base.specs.declared.object.Object.{Ghosts}
use Rattle.cx_core.specs.declared.kinds.Kind.TheVariants.{NoteGap}
use Rattle.cx_core.specs.Gaps.{Gap, gap_of}
use Rattle.cx_core.specs.State.{one_more}
use Rattle.table_invariant.specs.declared.rule.Noted.{Noted}
use Rattle.table_invariant.specs.Fitting.{Fitting}
use Rattle.table_invariant.specs.Listed.{TellsGap}
use Rattle.table_invariant.specs.Offers.{TellsSet}
use Rattle.table_invariant.specs.Running.{IsSeatOf, Running, instance_at}
use Rattle.table_invariant.specs.Seats.{Seated, stepped}
use Rattle.table_invariant.proofs.Stepping.{on_same, on_then_one}
use Rattle.redo_set.specs.Gaps.{AreEnds, LeavesGap, KeepsNoting, MayNote, begin_of, with_steps}

set_here : (xs : List ℕ) (k v : ℕ) → k < length xs → slice_index (slice_set xs k v) k ≡ v
set_here [] k v below = absurd (omega arith)
set_here (x ∷ xs) zero v below = refl
set_here (x ∷ xs) (suc k) v below = set_here xs k v (omega arith)

set_there : (xs : List ℕ) (k j v : ℕ) → j ≢ k → slice_index (slice_set xs k v) j ≡ slice_index xs j
set_there xs k j v apart = get_or-set_other xs k j v 0 apart

begins_there : (ends : List ℕ) (k j v : ℕ) → j ≤ k → begin_of (slice_set ends k v) j ≡ begin_of ends j
begins_there ends k zero v order = refl
begins_there ends k (suc i) v order = set_there ends k i v (λ e. (let same : i ≡ k = e in absurd (omega (arith, same, order))))

pub ends_none : (pairs : List ℕ) (lines : ℕ) (ends : List ℕ) → AreEnds pairs lines ends 0
ends_none pairs lines ends = record { few = omega arith; within = λ k below. absurd (omega (arith, below)); each = λ k below. absurd (omega (arith, below)) }

-- one end more
pub ends_more : (pairs : List ℕ) (lines : ℕ) (ends : List ℕ) (k v at : ℕ) → k < length ends → k < 16 → at ≡ begin_of ends k → v ≤ lines → LeavesGap pairs at v → AreEnds pairs lines ends k → AreEnds pairs lines (slice_set ends k v) (k + 1)
ends_more pairs lines ends k v at below small here within gap was = record {
  few = omega (arith, small);
  within = λ j under. elim (cases_eq j k) [
    | inl e ↦ subst (λ i. slice_index (slice_set ends k v) i ≤ lines) (sym e) (subst (λ w. w ≤ lines) (sym (set_here ends k v below)) within)
    | inr ne ↦ subst (λ w. w ≤ lines) (sym (set_there ends k j v ne)) (was.within j (omega (arith, under, ne)))
  ];
  each = λ j under. elim (cases_eq j k) [
    | inl e ↦ subst (λ i. LeavesGap pairs (begin_of (slice_set ends k v) i) (slice_index (slice_set ends k v) i)) (sym e)
        (subst (λ w. LeavesGap pairs (begin_of (slice_set ends k v) k) w) (sym (set_here ends k v below)) (subst (λ f. LeavesGap pairs f v) (here ∙ sym (begins_there ends k k v (omega arith))) gap))
    | inr ne ↦ subst (λ w. LeavesGap pairs (begin_of (slice_set ends k v) j) w) (sym (set_there ends k j v ne))
        (subst (λ f. LeavesGap pairs f (slice_index ends j)) (sym (begins_there ends k j v (omega (arith, under)))) (was.each j (omega (arith, under, ne))))
  ];
}

pub begins_next : (ends : List ℕ) (k v : ℕ) → k < length ends → v ≡ begin_of (slice_set ends k v) (k + 1)
begins_next ends k v below = sym (set_here ends k v below) ∙ ap (begin_of (slice_set ends k v)) (let next : suc k ≡ k + 1 = omega arith in next)

-- the line that one ends at is where the next begins
pub begins_at : (ends : List ℕ) (k : ℕ) → slice_index ends k ≡ begin_of ends (k + 1)
begins_at ends k = ap (begin_of ends) (let next : suc k ≡ k + 1 = omega arith in next)

begins_taken : (ends : List ℕ) (n k : ℕ) → k < n → begin_of (take n ends) k ≡ begin_of ends k
begins_taken ends n zero below = refl
begins_taken ends n (suc i) below = get_or-take n ends i 0 (omega (arith, below))

-- the ends of gaps that are taken are so by themselves
pub ends_taken : (pairs : List ℕ) (lines lines' : ℕ) (ends : List ℕ) (n : ℕ) → lines ≡ lines' → n ≤ length ends → AreEnds pairs lines ends n → AreEnds pairs lines' (take n ends) (length (take n ends))
ends_taken pairs lines lines' ends n same within are =
    let long = length-take-le n ends within in
    subst (AreEnds pairs lines' (take n ends)) (sym long) (record {
      few = are.few;
      within = λ k below. subst (λ v. v ≤ lines') (sym (get_or-take n ends k 0 below)) (let small = are.within k below in omega (arith, small, same));
      each = λ k below. subst (λ v. LeavesGap pairs (begin_of (take n ends) k) v) (sym (get_or-take n ends k 0 below))
          (subst (λ f. LeavesGap pairs f (slice_index ends k)) (sym (begins_taken ends n k below)) (are.each k below));
    })

shown_so : (steps : ℕ) (s after : Seated) → after ≡ with_steps steps s → after ≡ with_steps after.known.local.steps s
shown_so steps s after is = is ∙ (λ k. with_steps (sym (ap (λ (x : Seated). x.known.local.steps) is) k) s)

-- what a caller notes tells of a ticket's write set does not depend on how many steps it made
tells_still : {O : Type 0} (o : Ghosts O) (r : Running O) (ticket steps : ℕ) (pairs : List ℕ) (s : Seated) → TellsSet r.lines (o.lawful r.object) r.base (o.step r.object) s.known ticket pairs →
    TellsSet r.lines (o.lawful r.object) r.base (o.step r.object) (with_steps steps s).known ticket pairs
tells_still o r ticket steps pairs s tells = record { few = tells.few; within = tells.within; leads = tells.leads }

abbrev seat_with : Seated → ℕ → List Noted → Seated
seat_with s steps noted = record s { known = record s.known { local = record s.known.local { steps = steps }; noted = noted } }

module _ {O : Type 0} (o : Ghosts O) (r : Running O) where
  pub noting_none : (before after : Seated) → IsSeatOf r before → after ≡ before → KeepsNoting o r before after
  noting_none before after of same = record {
    seat = shown_so before.known.local.steps before after same;
    of = subst (IsSeatOf r) (sym same) of;
    since = on_same before after same;
    fits = inl same;
  }

  -- one gap more was noted
  pub noting_more : (slot i v : ℕ) (before mid after : Seated) → KeepsNoting o r before mid → after ≡ stepped (instance_at r o.step o.only_reads) (NoteGap slot i v) mid 0 → IsSeatOf r after → Fitting r.lines (o.lawful r.object) r.base (o.step r.object) after.known → KeepsNoting o r before after
  noting_more slot i v before mid after was step of fits = record {
    seat = shown_so (one_more mid.known.local.steps) before after (
        step ∙ ap (λ x. stepped (instance_at r o.step o.only_reads) (NoteGap slot i v) x 0) was.seat ∙ (λ k. seat_with before (one_more mid.known.local.steps) (append-nil before.known.noted k)));
    of = of;
    since = on_then_one before mid after was.since (ap (λ (x : Seated). x.known.local.steps) step);
    fits = inr fits;
  }

  -- Where what a caller noted tells a write set of a ticket, what it has noted after it noted gaps tells each gap that this set leaves, as a word `v`
  -- of a slot `s` names the gap.
  pub tells_gap : (pairs : List ℕ) (ticket from to s v : ℕ) (before after : Seated) → KeepsNoting o r before after → MayNote o r ticket pairs before → LeavesGap pairs from to → gap_of r.callers s v ≡ record { ticket = ticket; from = from; to = to } →
      (set_ : List ℕ) × TellsGap r.lines (o.lawful r.object) r.base (o.step r.object) after.known (gap_of r.callers s v) set_
  tells_gap pairs ticket from to s v before after leaves may gap names =
      let g : Gap = record { ticket = ticket; from = from; to = to } in
      let tells = subst (λ (x : Seated). TellsSet r.lines (o.lawful r.object) r.base (o.step r.object) x.known ticket pairs) (sym leaves.seat) (tells_still o r ticket after.known.local.steps pairs before may.tells) in
      let of_gap : TellsGap r.lines (o.lawful r.object) r.base (o.step r.object) after.known g pairs = record { tells = tells; off = gap } in
      (pairs, subst (λ (x : Gap). TellsGap r.lines (o.lawful r.object) r.base (o.step r.object) after.known x pairs) (sym names) of_gap)

  -- where what a caller noted tells a write set of a ticket, it still does after gaps were noted
  pub tells_after_noting : (pairs : List ℕ) (ticket : ℕ) (before after : Seated) → KeepsNoting o r before after → TellsSet r.lines (o.lawful r.object) r.base (o.step r.object) before.known ticket pairs →
      TellsSet r.lines (o.lawful r.object) r.base (o.step r.object) after.known ticket pairs
  tells_after_noting pairs ticket before after leaves tells =
      subst (λ (x : Seated). TellsSet r.lines (o.lawful r.object) r.base (o.step r.object) x.known ticket pairs) (sym leaves.seat) (tells_still o r ticket after.known.local.steps pairs before tells)
