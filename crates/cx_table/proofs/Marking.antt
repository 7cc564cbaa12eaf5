-- The marks of dirty words that are handed out.
use Rattle.std.proofs.Common.{◌≡◌, ◌+◌, ◌*◌, ◌<◌, ◌↔◌, inl, inr, ℕ, zero, suc, Bool, true, List, [], ◌∷◌, length, refl, ap, sym, subst, ◌∙◌, arith, Some}
use Rattle.std.proofs.lemmas.Bool.{cases_eq}
use Rattle.std.proofs.lemmas.Option.{none-some, same_Some, slice_get_within}
use Rattle.std.specs.List.{Contains, slice_get}
use Rattle.std.specs.Option.{option_map}
use Rattle.cx_core.specs.declared.local.HeldExclusive.{HeldExclusive}
use Rattle.cx_core.specs.declared.local.Local.{Local}
use Rattle.cx_core.specs.Rights.{exclusive_on, held_dirty}
use Rattle.cx_core.proofs.HeldLists.{mapped}
use Rattle.table_invariant.specs.Seats.{Seated}
use Rattle.caller_cache.specs.Marks.{MarksMore}
use Rattle.caller_cache.proofs.Rows.{same_row}
use Rattle.cx_table.specs.Remains.{MarksDirty, locals_of}

-- of the first seats, each word that is dirty is marked
pub record DirtyTo (seats : List Seated) (n replicas region : ℕ) (marks : List Bool) : Type 0 where
  pub long : length marks ≡ region * replicas
  pub is : (replica at : ℕ) → replica < replicas → at < region →
      (slice_get marks (region * replica + at) ≡ Some true) ↔ ((c : ℕ) × (c < n) × (s : Seated) × (slice_get seats c ≡ Some s) × (exclusive_on s.known.local ≡ Some replica) × Contains (held_dirty s.known.local.exclusive) at)

-- a seat that holds no replica, or none that there is
pub dirty_off : (seats : List Seated) (n replicas region : ℕ) (marks : List Bool) (seat : Seated) → slice_get seats n ≡ Some seat → ((replica : ℕ) → replica < replicas → exclusive_on seat.known.local ≡ Some replica → ⊥) →
    DirtyTo seats n replicas region marks → DirtyTo seats (n + 1) replicas region marks
dirty_off seats n replicas region marks seat at none old = record {
  long = old.long;
  is = λ replica word small below. (
      let was = old.is replica word small below in (
        λ marked. (let s = was.0 marked in (s.0, (let less = s.1 in omega arith), s.2, s.3, s.4, s.5)),
        λ some. was.1 (
            let less = some.1 in
            elim (cases_eq some.0 n) [
              | inl last ↦ (
                  let same : some.2 ≡ seat = same_Some some.2 seat (sym some.3 ∙ ap (slice_get seats) last ∙ at) in
                  absurd (none replica small (ap (λ (s : Seated). exclusive_on s.known.local) (sym same) ∙ some.4)))
              | inr earlier ↦ (some.0, omega (arith, less, earlier), some.2, some.3, some.4, some.5)
            ]),
      ));
}

-- a seat that holds a replica
pub dirty_on : (seats : List Seated) (n replicas region r : ℕ) (before after dirty : List Bool) (seat : Seated) → slice_get seats n ≡ Some seat → exclusive_on seat.known.local ≡ Some r → r < replicas → length dirty ≡ region → length after ≡ length before →
    ((i : ℕ) → i < region → (slice_get dirty i ≡ Some true) ↔ Contains (held_dirty seat.known.local.exclusive) i) → MarksMore dirty (region * r) (length dirty) before after →
    DirtyTo seats n replicas region before → DirtyTo seats (n + 1) replicas region after
dirty_on seats n replicas region r before after dirty seat at held small_r long same marks more old = record {
  long = same ∙ old.long;
  is = λ replica word small below. (
      let place = region * replica + word in
      let was = old.is replica word small below in (
        λ marked. elim ((more place).0 marked) [
          | inl earlier ↦ (let s = was.0 earlier in (s.0, (let less = s.1 in omega arith), s.2, s.3, s.4, s.5))
          | inr now ↦ (
              let inside : now.0 < region = subst (λ k. now.0 < k) long now.1 in
              let row = same_row region replica r word now.0 below inside now.2 in
              (n, omega arith, seat, at, held ∙ ap Some (sym row.0), subst (Contains (held_dirty seat.known.local.exclusive)) (sym row.1) ((marks now.0 inside).0 now.3)))
        ],
        λ some. (more place).1 (
            let less = some.1 in
            elim (cases_eq some.0 n) [
              | inl last ↦ (
                  let is : some.2 ≡ seat = same_Some some.2 seat (sym some.3 ∙ ap (slice_get seats) last ∙ at) in
                  let here : r ≡ replica = same_Some r replica (sym held ∙ ap (λ (s : Seated). exclusive_on s.known.local) (sym is) ∙ some.4) in
                  let there = subst (λ (s : Seated). Contains (held_dirty s.known.local.exclusive) word) is some.5 in
                  inr (word, subst (λ k. word < k) (sym long) below, ap (λ q. region * q + word) (sym here), (marks word below).1 there))
              | inr earlier ↦ inl (was.1 (some.0, omega (arith, less, earlier), some.2, some.3, some.4, some.5))
            ]),
      ));
}

-- a local state among the seats'
local_at : (seats : List Seated) (c : ℕ) (l : Local) → slice_get (locals_of seats) c ≡ Some l → (s : Seated) × (slice_get seats c ≡ Some s) × (s.known.local ≡ l)
local_at [] c l at = absurd (none-some l at)
local_at (s ∷ seats) zero l at = (s, refl, same_Some s.known.local l at)
local_at (s ∷ seats) (suc c) l at = local_at seats c l at

local_of : (seats : List Seated) (c : ℕ) (s : Seated) → slice_get seats c ≡ Some s → slice_get (locals_of seats) c ≡ Some s.known.local
local_of [] c s at = absurd (none-some s at)
local_of (x ∷ seats) zero s at = ap (λ (y : Seated). Some y.known.local) (same_Some x s at)
local_of (x ∷ seats) (suc c) s at = local_of seats c s at

-- all seats
pub dirty_all : (seats : List Seated) (n replicas region : ℕ) (marks : List Bool) → length seats ≡ n → DirtyTo seats n replicas region marks → MarksDirty (locals_of seats) replicas region marks
dirty_all seats n replicas region marks count to = record {
  long = to.long;
  is = λ replica at small below. (
      let each = to.is replica at small below in (
        λ marked. (
            let s = each.0 marked in
            let held = mapped (λ (h : HeldExclusive). h.replica) s.2.known.local.exclusive replica s.4 in
            record { caller = s.0; local = s.2.known.local; held = held.0; of_caller = local_of seats s.0 s.2 s.3; holds = held.1; here = held.2; dirty = subst (λ o. Contains (held_dirty o) at) held.1 s.5 }),
        λ dirty. each.1 (
            let s = local_at seats dirty.caller dirty.local dirty.of_caller in
            let holds : s.0.known.local.exclusive ≡ Some dirty.held = ap (λ (l : Local). l.exclusive) s.2 ∙ dirty.holds in
            let within = slice_get_within seats dirty.caller s.0 s.1 in
            (dirty.caller, omega (arith, within, count), s.0, s.1, ap (option_map (λ (h : HeldExclusive). h.replica)) holds ∙ ap Some dirty.here, subst (λ o. Contains (held_dirty o) at) (sym holds) dirty.dirty)),
      ));
}
