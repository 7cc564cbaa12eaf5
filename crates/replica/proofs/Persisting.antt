-- What a persisted word does to a replica held exclusively.
use Rattle.std.proofs.Common.{◌≡◌, ◌<◌, ◌≤◌, ◌==◌, inl, inr, ℕ, suc, length, Bool, true, false, cond, All, List, [], ◌∷◌, filter, refl, ap, sym, subst, ◌∙◌, arith, append-nil, eq-eqb, Option, Some, None}
use Rattle.std.proofs.lemmas.Bool.{cases_eq, ne_eqb}
use Rattle.std.proofs.lemmas.List.Elements.{All-filter, All-nil, Contains-append_cases, Contains-push_cases}
use Rattle.std.specs.List.{Contains}
use Rattle.std.specs.Option.{option_map}
use Rattle.cx_base.specs.declared.object.Object.{Ghosts}
use Rattle.cx_core.specs.declared.kinds.Kind.TheVariants.{Persist}
use Rattle.cx_core.specs.declared.local.HeldExclusive.{HeldExclusive}
use Rattle.cx_core.specs.Region.{region_words}
use Rattle.cx_core.specs.RegionEvents.{persisted}
use Rattle.cx_core.specs.Rights.{held_dirty}
use Rattle.cx_core.specs.State.{one_more}
use Rattle.table_invariant.specs.Running.{Running}
use Rattle.table_invariant.specs.Seats.{Seated}
use Rattle.table_invariant.specs.Steps.{Steps}
use Rattle.table_invariant.proofs.HasMore.{some_same}
use Rattle.cx_table.specs.Right.{Right}
use Rattle.replica.specs.Flushes.{Persists}
use Rattle.replica.specs.Held.{IsHeldIn, unchanged_by_access, except_loaded, except_words}
use Rattle.replica.specs.Laws.{image_same}
use Rattle.replica.specs.Replays.{IsHeldImage}
use Rattle.replica.proofs.Access.{beside, still_exclusive}
use Rattle.replica.proofs.RegionLaws.{same_has}

abbrev other_than : ℕ → ℕ → Bool
other_than at x = cond (x == at) false true

-- a list is shorter without a number that is in it
left_off : (xs : List ℕ) (at : ℕ) → Contains xs at → length (filter (other_than at) xs) < length xs
left_off [] at there = (let below = there.1 in absurd (omega (arith, below)))
left_off (x ∷ xs) at there = elim (cases_eq x at) [
  | inl e ↦ (
      let rest = count_most (other_than at) xs in
      let off : length (filter (other_than at) (x ∷ xs)) ≡ length (filter (other_than at) xs) = ap (λ (b : Bool). length (cond (cond b false true) (x ∷ filter (other_than at) xs) (filter (other_than at) xs))) (eq-eqb x at e) in
      omega (arith, rest, off))
  | inr ne ↦ (
      let on : length (filter (other_than at) (x ∷ xs)) ≡ suc (length (filter (other_than at) xs)) = ap (λ (b : Bool). length (cond (cond b false true) (x ∷ filter (other_than at) xs) (filter (other_than at) xs))) (ne_eqb x at ne) in
      let later : Contains xs at = elim (Contains-append_cases (x ∷ []) xs at there) [ inl here ↦ absurd (ne (one_item x at here)) | inr rest ↦ rest ] in
      let rest = left_off xs at later in
      omega (arith, rest, on))
]
  where
    count_most : (p : ℕ → Bool) (ys : List ℕ) → length (filter p ys) ≤ length ys
    count_most p [] = omega arith
    count_most p (y ∷ ys) =
        let rest = count_most p ys in
        elim (p y) as (λ b. length (cond b (y ∷ filter p ys) (filter p ys)) ≤ suc (length ys)) [ true ↦ omega (arith, rest) | false ↦ omega (arith, rest) ]

    one_item : (y z : ℕ) → Contains (y ∷ []) z → y ≡ z
    one_item y z here = elim (Contains-push_cases [] y z here) [ inl none ↦ (let below = none.1 in absurd (omega (arith, below))) | inr same ↦ same ]

dirty_persisted : (P Q : List ℕ → Type 0) (at : ℕ) (o : Option HeldExclusive) → P [] → ((xs : List ℕ) → Q xs → P (filter (λ x. cond (x == at) false true) xs)) → Q (held_dirty o) → P (held_dirty (option_map (persisted at) o))
dirty_persisted P Q at None none step q = none
dirty_persisted P Q at (Some h) none step q = step h.dirty q

unpersisted : (at : ℕ) (o : Option HeldExclusive) → option_map except_words (option_map (persisted at) o) ≡ option_map except_words o
unpersisted at None = refl
unpersisted at (Some h) = refl

module _ {O : Type 0} (o : Ghosts O) (r : Running O) (held : Right) (at : ℕ) (before after : Seated) where
  dirty_after : (P Q : List ℕ → Type 0) → Steps r o.step o.only_reads (Persist held.replica at) 0 before after → P [] → ((xs : List ℕ) → Q xs → P (filter (λ x. cond (x == at) false true) xs)) → Q (held_dirty before.known.local.exclusive) → P (held_dirty after.known.local.exclusive)
  dirty_after P Q s none on q = subst (λ (t : Seated). P (held_dirty t.known.local.exclusive)) (sym s.made) (dirty_persisted P Q at before.known.local.exclusive none on q)

  pub persists : Steps r o.step o.only_reads (Persist held.replica at) 0 before after → IsHeldIn o r before held → Persists o r held before after
  persists s of =
      let accesses : after.known.accesses ≡ before.known.accesses = ap (λ (t : Seated). t.known.accesses) s.made in
      let rest : unchanged_by_access held.replica after ≡ unchanged_by_access held.replica before =
      ap (unchanged_by_access held.replica) s.made
      ∙ ap (λ n. beside before n (option_map except_words (option_map (persisted at) before.known.local.exclusive)) (option_map (except_loaded held.replica) before.known.local.shared)) (append-nil before.known.noted)
      ∙ ap (λ e. beside before before.known.noted e (option_map (except_loaded held.replica) before.known.local.shared)) (unpersisted at before.known.local.exclusive) in
      let below : ℕ → Type 0 = λ i. i < region_words (o.line_count r.object) in
      record {
        still = record {
          sized = of.sized;
          of = s.seat;
          right = still_exclusive r.callers held.replica before after held rest of.right;
          some = some_same (o.line_count r.object) (o.lawful r.object) r.base (o.step r.object) before.known after.known (same_has held.replica before after rest) accesses of.some;
          dirty = dirty_after (All below) (All below) s (All-nil below) (λ xs all. All-filter (λ x. cond (x == at) false true) below xs all) of.dirty;
        };
        accesses = accesses;
        since = (let one : after.known.local.steps ≡ one_more before.known.local.steps = ap (λ (t : Seated). t.known.local.steps) s.made in omega (arith, one));
        rest = rest;
      }

  pub fewer_persisted : Steps r o.step o.only_reads (Persist held.replica at) 0 before after → Contains (held_dirty before.known.local.exclusive) at → length (held_dirty after.known.local.exclusive) < length (held_dirty before.known.local.exclusive)
  fewer_persisted s dirty =
      subst (λ (t : Seated). length (held_dirty t.known.local.exclusive) < length (held_dirty before.known.local.exclusive)) (sym s.made) (by before.known.local.exclusive dirty)
    where
      by : (o : Option HeldExclusive) → Contains (held_dirty o) at → length (held_dirty (option_map (persisted at) o)) < length (held_dirty o)
      by None none = (let below = none.1 in absurd (omega (arith, below)))
      by (Some h) there = left_off h.dirty at there

-- what is the image after its place stays so
pub persisted_image : {O : Type 0} (o : Ghosts O) (r : Running O) (held : Right) (before after : Seated) → Persists o r held before after → IsHeldImage (o.line_count r.object) (o.lawful r.object) r.base (o.step r.object) before.known → IsHeldImage (o.line_count r.object) (o.lawful r.object) r.base (o.step r.object) after.known
persisted_image o r held before after p image = image_same (o.line_count r.object) (o.lawful r.object) r.base (o.step r.object) before.known after.known (same_has held.replica before after p.rest) p.accesses image

-- where each dirty word is one of the region and no word of the region is dirty, none is
pub none_left : (region words : ℕ) (dirty : List ℕ) → region ≡ words → All (λ i. i < words) dirty → ((at : ℕ) → at < region → ¬ Contains dirty at) → dirty ≡ []
none_left region words [] same all none = refl
none_left region words (x ∷ xs) same all none = (let below : x < words = all 0 0 (omega arith) in absurd (none x (omega (arith, below, same)) (0, omega arith, refl)))
