-- Cutting a seat's view in two and joining two views keep the rule, and so does a new seat that knows nobody.
use Rattle.std.proofs.Common.{◌≡◌, ◌≢◌, ℕ, zero, suc, ◌+◌, ◌<◌, ◌⊎◌, inl, inr, ⊎_elim, eqb, Bool, true, false, List, [], ◌∷◌, ◌++◌, length, set, take, drop, refl, sym, ap, ◌∙◌, subst, arith, eq-eqb, ne_eqb, length-set, Some, zero-add}
use Rattle.std.proofs.lemmas.List.{drop_more}
use Rattle.std.proofs.lemmas.List.FromFn.{get_or-map-range_with_len, length-map-range_with_len}
use Rattle.std.proofs.lemmas.Option.{same_Some, none-some}
use Rattle.std.specs.List.{slice_get}
use mathlib.Core.Option.{some, some-injective, some-ne-none}
use lib.ListN.{get_elem?}
use Rattle.atomic_table.specs.Table.{Me, State}
use Rattle.atomic_table.proofs.Lists.{at_set}
use Rattle.cx_core.specs.State.{Instance}
use Rattle.table_invariant.specs.declared.rule.Known.{Known}
use Rattle.table_invariant.specs.Rule.{RuleHolds}
use Rattle.table_invariant.specs.Seats.{known_of, opening_known, opening_view}

abbrev Views : Type 0
Views = List (List Known)

-- where what is known of a caller stood in the views before, and the map that says where it stands now
pub record Came (views : Views) (moved : ℕ × ℕ → ℕ × ℕ) (seat i : ℕ) (known : Known) : Type 0 where
  pub from : ℕ
  pub index : ℕ
  pub view : List Known
  pub at : get_elem? views from ≡ some view
  pub here : slice_get view index ≡ Some known
  pub now : moved (from, index) ≡ (seat, i)

-- views that know nothing else, each caller at one place
pub moved_held : (instance : Instance) (s : State ℕ (List Known)) (views : Views) (moved : ℕ × ℕ → ℕ × ℕ) → RuleHolds instance s →
    ((seat i : ℕ) (view : List Known) (known : Known) → get_elem? views seat ≡ some view → slice_get view i ≡ Some known → Came s.views moved seat i known) →
    RuleHolds instance (record { words = s.words; homes = s.homes; views = views })
moved_held instance s views moved held came = record {
  locals = held.locals;
  place_of = λ caller. moved (held.place_of caller);
  law = held.law;
  reached = held.reached;
  each = λ seat i view known at here. (
      let c = came seat i view known at here in
      let old = held.each c.from c.index c.view known c.at c.here in
      record { local = old.local; of_caller = old.of_caller; shows = old.shows; only = ap moved old.only ∙ c.now; notes = old.notes; traced = old.traced });
  times = λ seat i view known at here. (let c = came seat i view known at here in held.times c.from c.index c.view known c.at c.here);
  images = λ seat i view known at here. (let c = came seat i view known at here in held.images c.from c.index c.view known c.at c.here);
  own = held.own;
  sets = λ seat i view known at here. (let c = came seat i view known at here in held.sets c.from c.index c.view known c.at c.here);
  some = held.some;
}

module _ {A : Type 0} where
  -- an item of a list with one item more
  pub at_end : (l : List A) (a b : A) (j : ℕ) → get_elem? (l ++ a ∷ []) j ≡ some b → (get_elem? l j ≡ some b) ⊎ ((j ≡ length l) × (a ≡ b))
  at_end [] a b zero e = inr (refl, some-injective a b e)
  at_end [] a b (suc j) e = absurd (some-ne-none b (sym e))
  at_end (x ∷ xs) a b zero e = inl e
  at_end (x ∷ xs) a b (suc j) e = ⊎_elim (λ t. inl t) (λ t. inr (ap suc t.0, t.1)) (at_end xs a b j e)

  -- an item of a list without its head, and of its head alone
  drop_one : (l : List A) (i : ℕ) (a : A) → slice_get (drop 1 l) i ≡ Some a → slice_get l (suc i) ≡ Some a
  drop_one [] i a e = absurd (none-some a e)
  drop_one (x ∷ xs) i a e = e

  -- an item `a` at `i` of a list cut to its first item is at index 0, and it is the first item of the list
  take_one : (l : List A) (i : ℕ) (a : A) → slice_get (take 1 l) i ≡ Some a → (i ≡ 0) × (slice_get l 0 ≡ Some a)
  take_one [] i a e = absurd (none-some a e)
  take_one (x ∷ xs) zero a e = (refl, e)
  take_one (x ∷ xs) (suc i) a e = absurd (none-some a e)

  -- an item of two lists
  pub in_two : (l r : List A) (i : ℕ) (a : A) → slice_get (l ++ r) i ≡ Some a → (slice_get l i ≡ Some a) ⊎ ((k : ℕ) × (i ≡ length l + k) × (slice_get r k ≡ Some a))
  in_two [] r i a e = inr (i, omega arith, e)
  in_two (x ∷ xs) r zero a e = inl e
  in_two (x ∷ xs) r (suc i) a e = ⊎_elim (λ t. inl t) (λ t. inr (t.0, (let q = t.1 in omega arith), t.2)) (in_two xs r i a e)

  -- the empty list has no item `a` at any index `i`
  no_item : (i : ℕ) (a : A) → slice_get [] i ≡ Some a → ⊥
  no_item i a e = none-some a e

-- after a cut the first caller stands alone in the new seat
cut_at : ℕ → ℕ → Bool → ℕ → ℕ → ℕ × ℕ
cut_at id new true j zero = (new, 0)
cut_at id new true j (suc i) = (id, i)
cut_at id new false j i = (j, i)

abbrev cut : ℕ → ℕ → ℕ × ℕ → ℕ × ℕ
cut id new p = cut_at id new (eqb p.0 id) p.0 p.1

cut_first : (id new : ℕ) → cut id new (id, 0) ≡ (new, 0)
unfolding cut_at
cut_first id new = ap (λ b. cut_at id new b id 0) (eq-eqb id id refl)

cut_rest : (id new i : ℕ) → cut id new (id, suc i) ≡ (id, i)
unfolding cut_at
cut_rest id new i = ap (λ b. cut_at id new b id (suc i)) (eq-eqb id id refl)

cut_else : (id new j i : ℕ) → j ≢ id → cut id new (j, i) ≡ (j, i)
unfolding cut_at
cut_else id new j i ne = ap (λ b. cut_at id new b j i) (ne_eqb j id ne)

pub splits : (instance : Instance) (s : State ℕ (List Known)) (id : ℕ) (view : List Known) → RuleHolds instance s → get_elem? s.views id ≡ some view →
    RuleHolds instance (record { words = s.words; homes = s.homes; views = set s.views id (drop 1 view) ++ take 1 view ∷ [] })
splits instance s id view held me =
    let new = length s.views in
    moved_held instance s (set s.views id (drop 1 view) ++ take 1 view ∷ []) (cut id new) held (λ j i w known at here.
    elim (at_end (set s.views id (drop 1 view)) (take 1 view) w j at) [
      | inl old ↦ elim (at_set s.views id j (drop 1 view) w old) [
        | inl mine ↦ (
            let here' = subst (λ (u : List Known). slice_get u i ≡ Some known) (sym mine.1) here in
            record { from = id; index = suc i; view = view; at = me; here = drop_one view i known here'; now = cut_rest id new i ∙ ap (λ (k : ℕ). (k, i)) (sym mine.0) })
        | inr other ↦ record { from = j; index = i; view = w; at = other.1; here = here; now = cut_else id new j i other.0 }
      ]
      | inr last ↦ (
          let first = take_one view i known (subst (λ (u : List Known). slice_get u i ≡ Some known) (sym last.1) here) in
          let is_new : j ≡ new = last.0 ∙ length-set s.views id (drop 1 view) in
          record { from = id; index = 0; view = view; at = me; here = first.1; now = cut_first id new ∙ ap (λ (b : ℕ). (new, b)) (sym first.0) ∙ ap (λ (a : ℕ). (a, i)) (sym is_new) })
    ])

-- a new seat that knows nobody
pub enters : (instance : Instance) (s : State ℕ (List Known)) → RuleHolds instance s → RuleHolds instance (record { words = s.words; homes = s.homes; views = s.views ++ [] ∷ [] })
enters instance s held = moved_held instance s (s.views ++ [] ∷ []) (λ p. p) held (λ j i w known at here.
    elim (at_end s.views [] w j at) [
      | inl old ↦ record { from = j; index = i; view = w; at = old; here = here; now = refl }
      | inr last ↦ absurd (no_item i known (subst (λ (u : List Known). slice_get u i ≡ Some known) (sym last.1) here))
    ])

-- after a join the other's callers stand in front of the seat's own
abbrev joined_at : ℕ → ℕ → Bool → Bool → ℕ → ℕ → ℕ × ℕ
joined_at id m true b j i = (id, i)
joined_at id m false true j i = (id, m + i)
joined_at id m false false j i = (j, i)

abbrev join : ℕ → ℕ → ℕ → ℕ × ℕ → ℕ × ℕ
join id other m p = joined_at id m (eqb p.0 other) (eqb p.0 id) p.0 p.1

join_other : (id other m i : ℕ) → join id other m (other, i) ≡ (id, i)
join_other id other m i = ap (λ b. joined_at id m b (eqb other id) other i) (eq-eqb other other refl)

join_own : (id other m i : ℕ) → other ≢ id → join id other m (id, i) ≡ (id, m + i)
join_own id other m i ne = ap (λ b. joined_at id m b (eqb id id) id i) (ne_eqb id other (λ e. ne (sym e))) ∙ ap (λ b. joined_at id m false b id i) (eq-eqb id id refl)

-- a caller at place `i` of the view of a third seat `j` stays there where the view of `other` is joined to that of `id`
join_else : (id other m j i : ℕ) → j ≢ other → j ≢ id → join id other m (j, i) ≡ (j, i)
join_else id other m j i a b = ap (λ c. joined_at id m c (eqb j id) j i) (ne_eqb j other a) ∙ ap (λ c. joined_at id m false c j i) (ne_eqb j id b)

pub joins : (instance : Instance) (s : State ℕ (List Known)) (id : ℕ) (view : List Known) (other : ℕ) (its : List Known) → RuleHolds instance s → get_elem? s.views id ≡ some view → ¬ (other ≡ id) →
    get_elem? (set s.views id (its ++ view)) other ≡ some its →
    RuleHolds instance (record { words = s.words; homes = s.homes; views = set (set s.views id (its ++ view)) other [] })
joins instance s id view other its held me apart there =
    let both = its ++ view in
    let m = length its in
    let was : get_elem? s.views other ≡ some its = elim (at_set s.views id other both its there) [ inl same ↦ absurd (apart same.0) | inr o ↦ o.1 ] in
    moved_held instance s (set (set s.views id both) other []) (join id other m) held (λ j i w known at here.
    elim (at_set (set s.views id both) other j [] w at) [
      | inl spent ↦ absurd (no_item i known (subst (λ (u : List Known). slice_get u i ≡ Some known) (sym spent.1) here))
      | inr rest ↦ elim (at_set s.views id j both w rest.1) [
        | inl own ↦ elim (in_two its view i known (subst (λ (u : List Known). slice_get u i ≡ Some known) (sym own.1) here)) [
          | inl front ↦ record { from = other; index = i; view = its; at = was; here = front; now = join_other id other m i ∙ ap (λ (k : ℕ). (k, i)) (sym own.0) }
          | inr mine ↦ record { from = id; index = mine.0; view = view; at = me; here = mine.2; now = join_own id other m mine.0 apart ∙ ap (λ (k : ℕ). (id, k)) (sym mine.1) ∙ ap (λ (k : ℕ). (k, i)) (sym own.0) }
        ]
        | inr third ↦ record { from = j; index = i; view = w; at = third.1; here = here; now = join_else id other m j i rest.0 third.0 }
      ]
    ])

-- two lists of one length are equal where each item of the second stands at its place in the first
pub same_items : {A : Type 0} (xs ys : List A) → length xs ≡ length ys → ((i : ℕ) (a : A) → slice_get ys i ≡ Some a → slice_get xs i ≡ Some a) → xs ≡ ys
same_items [] [] e f = refl
same_items [] (y ∷ ys) e f = absurd (omega arith)
same_items (x ∷ xs) [] e f = absurd (omega arith)
same_items {A = A} (x ∷ xs) (y ∷ ys) e f =
    let head : x ≡ y = same_Some x y (f 0 y refl) in
    let tail : xs ≡ ys = same_items xs ys (omega arith) (λ i a at. f (suc i) a at) in
    ap (λ (z : A). z ∷ xs) head ∙ ap (λ (zs : List A). y ∷ zs) tail

-- what a caller's seat knows that was cut from the first seat
pub one_caller : (m : Me ℕ (List Known)) (known : Known) → m ≡ (known ∷ [], []) → (m ≡ (known_of m.0 ∷ [], [])) × (known_of m.0 ≡ known)
one_caller m known is =
    let same : known_of m.0 ≡ known = ap (λ (x : Me ℕ (List Known)). known_of x.0) is in
    (is ∙ ap (λ (k : Known). (k ∷ [], [])) (sym same), same)

-- the openings of the callers from one on
pub opening_rest : (callers place : ℕ) (limits : List ℕ) (c : ℕ) → c < callers →
    drop c (opening_view callers place limits) ≡ opening_known callers place limits c ∷ drop (c + 1) (opening_view callers place limits)
opening_rest callers place limits c below =
    let f = opening_known callers place limits in
    let within : c < length (opening_view callers place limits) = omega (arith, length-map-range_with_len f 0 callers) in
    drop_more (opening_view callers place limits) c (f c) within
    ∙ ap (λ (k : Known). k ∷ drop (c + 1) (opening_view callers place limits)) (get_or-map-range_with_len f 0 callers c c (f c) below (zero-add c))

pub cut_rests : (callers place : ℕ) (limits : List ℕ) (c : ℕ) (view : List Known) → c < callers → view ≡ drop c (opening_view callers place limits) →
    (drop 1 view ≡ drop (c + 1) (opening_view callers place limits)) × (take 1 view ≡ opening_known callers place limits c ∷ [])
cut_rests callers place limits c view below is =
    let whole = is ∙ opening_rest callers place limits c below in
    (ap (λ (ks : List Known). drop 1 ks) whole, ap (λ (ks : List Known). take 1 ks) whole)
