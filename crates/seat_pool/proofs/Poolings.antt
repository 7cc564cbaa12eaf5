-- Each move keeps the rule.
use Rattle.std.proofs.Common.{◌≡◌, ◌<◌, ◌≤◌, ◌+◌, ℕ, zero, suc, List, [], ◌∷◌, ◌++◌, drop, length, set, sym, refl, ap, ◌∙◌, subst, inl, inr, ⊎_elim, arith}
use Rattle.std.specs.Prelude.{All, MatchOption, Option, Some, None}
use Rattle.std.proofs.lemmas.List.{length-append}
use Rattle.std.proofs.lemmas.List.Elements.{All-head, All-nil, All-push, All-tail}
use mathlib.Core.Option.{some, some-injective, some-ne-none}
use lib.ListN.{get_elem?}
use Rattle.crossbeam_queue.specs.Fifo.{Forks, Held, Learns, Merges, Pops, Pushes}
use Rattle.crossbeam_queue.proofs.Lists.{at_set, at_snoc}
use Rattle.cx_core.specs.declared.entry.Base.{Base}
use Rattle.cx_core.specs.declared.local.SeenRead.{SeenRead}
use Rattle.cx_core.specs.Region.{slot_number}
use Rattle.table_invariant.specs.Running.{Running}
use Rattle.table_invariant.specs.Seats.{Seated}
use Rattle.cx_service.specs.Callers.{IsCallerOf}
use Rattle.seat_pool.specs.Pooling.{FitsHand, FitsHome, HasLimit, IsCallerAt, IsFirstOf, IsHomeOf, IsLentBy, IsSameTable, IsCallerTaken, KeepsCallers, Pools, Shown, TellsRoom, all_parts, both, callers_at, calls_of, calls_weigh, cut_left, cut_right, fresh, given_from, limits_at, nothing, numbers_weigh, opened_pass, reads_weigh, shown_by, total_weight, with_given, with_placed, with_taken}
use Rattle.seat_pool.specs.declared.hand.LenderPass.{LenderPass}
use Rattle.seat_pool.specs.declared.hand.ServiceView.{ServiceView}
use Rattle.seat_pool.specs.declared.hand.AnsweredCall.{AnsweredCall}

-- sums

module _ {A : Type 0} (f : A → ℕ) where
  pub total_both : (xs ys : List A) → total_weight f (xs ++ ys) ≡ total_weight f xs + total_weight f ys
  total_both [] ys = omega arith
  total_both (x ∷ xs) ys = omega (arith, total_both xs ys)

  -- a sum where one changes
  pub total_set : (xs : List A) (i : ℕ) (v w : A) → get_elem? xs i ≡ some v → total_weight f (set xs i w) + f v ≡ total_weight f xs + f w
  total_set [] i v w at = absurd (some-ne-none v (sym at))
  total_set (x ∷ xs) zero v w at = (let same : f x ≡ f v = ap f (some-injective x v at) in omega (arith, same))
  total_set (x ∷ xs) (suc i) v w at = (let rest = total_set xs i v w at in omega (arith, rest))

  -- no one is more than all
  pub total_has : (xs : List A) (i : ℕ) (v : A) → get_elem? xs i ≡ some v → f v ≤ total_weight f xs
  total_has [] i v at = absurd (some-ne-none v (sym at))
  total_has (x ∷ xs) zero v at = (let same : f x ≡ f v = ap f (some-injective x v at) in omega (arith, same))
  total_has (x ∷ xs) (suc i) v at = (let rest = total_has xs i v at in omega (arith, rest))

  -- a sum of none
  pub total_none : (p : A → ℕ) (xs : List A) → ((j : ℕ) (u : A) → get_elem? xs j ≡ some u → p u ≡ 0 → f u ≡ 0) → total_weight p xs ≡ 0 → total_weight f xs ≡ 0
  total_none p [] idle none = refl
  total_none p (x ∷ xs) idle none =
      let here : f x ≡ 0 = idle 0 x refl (omega (arith, none)) in
      let rest : total_weight f xs ≡ 0 = total_none p xs (λ j u at. idle (suc j) u at) (omega (arith, none)) in
      omega (arith, here, rest)

  -- where one has all parts, its share is the whole
  pub total_whole : (p : A → ℕ) (xs : List A) (i : ℕ) (v : A) → ((j : ℕ) (u : A) → get_elem? xs j ≡ some u → p u ≡ 0 → f u ≡ 0) → get_elem? xs i ≡ some v → total_weight p xs ≡ p v → total_weight f xs ≡ f v
  total_whole p [] i v idle at all = absurd (some-ne-none v (sym at))
  total_whole p (x ∷ xs) zero v idle at all =
      let same : p x ≡ p v = ap p (some-injective x v at) in
      let here : f x ≡ f v = ap f (some-injective x v at) in
      let rest : total_weight f xs ≡ 0 = total_none p xs (λ j u at. idle (suc j) u at) (omega (arith, same, all)) in
      omega (arith, here, rest)
  total_whole p (x ∷ xs) (suc i) v idle at all =
      let part : p v ≤ total_weight p xs = part_of p xs i v at in
      let here : f x ≡ 0 = idle 0 x refl (omega (arith, part, all)) in
      let rest : total_weight f xs ≡ f v = total_whole p xs i v (λ j u at. idle (suc j) u at) at (omega (arith, part, all)) in
      omega (arith, here, rest)
    where
      -- the item `v` at `i` of a list weighs at most what the whole list does
      part_of : (p : A → ℕ) (xs : List A) (i : ℕ) (v : A) → get_elem? xs i ≡ some v → p v ≤ total_weight p xs
      part_of p [] i v at = absurd (some-ne-none v (sym at))
      part_of p (y ∷ ys) zero v at = (let same : p y ≡ p v = ap p (some-injective y v at) in omega (arith, same))
      part_of p (y ∷ ys) (suc i) v at = (let rest = part_of p ys i v at in omega (arith, rest))

pub units : (A : Type 0) (xs : List A) → total_weight {A = A} (λ _. 1) xs ≡ length xs
units A [] = refl
units A (x ∷ xs) = omega (arith, units A xs)

each_same : (f g : LenderPass → ℕ) → ((u : LenderPass) → f u ≡ g u) → (us : List LenderPass) → total_weight f us ≡ total_weight g us
each_same f g same [] = refl
each_same f g same (u ∷ us) = omega (arith, same u, each_same f g same us)

-- services

-- a caller of a service is one of any with the same table, number of callers and base
pub moved : {O P : Type 0} (q : Running O) (r : Running P) (x : Seated) → IsSameTable q r → IsCallerOf q x → IsCallerOf r x
moved q r x same is = record {
  of = record {
    table = is.of.table ∙ same.table;
    caller = subst (λ n. x.known.local.number < n) same.callers is.of.caller;
    before = is.of.before ∙ ap (λ (b : Base). slot_number x.known.local.number b.words) same.base;
    region = is.of.region ∙ ap (λ (b : Base). length b.words) same.base;
  };
  rest = is.rest;
  count = is.count;
  front = subst (λ (b : Base). b.place ≤ x.known.local.front) same.base is.front;
  cells = is.cells;
}

back : {O P : Type 0} (q : Running O) (r : Running P) → IsSameTable q r → IsSameTable r q
back q r same = record { table = sym same.table; callers = sym same.callers; base = sym same.base }

-- a caller of the service is one at the home that the pass knows
at_home : {O : Type 0} (r : Running O) (home : Option ServiceView) (x : Seated) → IsHomeOf r home → IsCallerOf r x → HasLimit (limits_at home) x → IsCallerAt home x
at_home r None x of is limit = absurd of
at_home r (Some home) x of is limit = (moved r (shown_by home) x (back (shown_by home) r of) is, limit)

pub from_home : {O : Type 0} (r : Running O) (home : Option ServiceView) (x : Seated) → IsHomeOf r home → IsCallerAt home x → IsCallerOf r x × HasLimit (limits_at home) x
from_home r None x of is = absurd of
from_home r (Some home) x of is = (moved (shown_by home) r x of is.0, is.1)

-- the home of a pass is the rule's service
to_service : {O : Type 0} (r : Running O) (s : Shown) (parts : ℕ) (home : Option ServiceView) (x : Seated) → IsHomeOf r home → FitsHome s parts home → IsCallerAt home x → IsLentBy s x
to_service r s parts None x of fits is = absurd of
to_service r s parts (Some home) x of fits is = subst (λ (q : Shown). IsLentBy q x) fits is

-- a caller `x` of the rule's service is a caller of the service that is the home of the pass
from_service : {O : Type 0} (r : Running O) (s : Shown) (parts : ℕ) (home : Option ServiceView) (x : Seated) → IsHomeOf r home → FitsHome s parts home → IsLentBy s x → IsCallerAt home x
from_service r s parts None x of fits is = absurd of
from_service r s parts (Some home) x of fits is = subst (λ (q : Shown). IsLentBy q x) (sym fits) is

count_fits : {O : Type 0} (r : Running O) (s : Shown) (parts : ℕ) (home : Option ServiceView) → IsHomeOf r home → FitsHome s parts home → callers_at home ≡ s.callers
count_fits r s parts None of fits = absurd of
count_fits r s parts (Some home) of fits = ap (λ (q : Shown). q.callers) fits

home_callers : {O : Type 0} (r : Running O) (home : Option ServiceView) → IsHomeOf r home → callers_at home ≡ r.callers
home_callers r None of = absurd of
home_callers r (Some home) of = of.callers

refits : {O : Type 0} (r : Running O) (s : Shown) (parts more : ℕ) (home : Option ServiceView) → IsHomeOf r home → FitsHome s parts home → FitsHome s more home
refits r s parts more None of fits = absurd of
refits r s parts more (Some home) of fits = fits

-- a queue that some pass knows the service of is not new
is_not_new : {O : Type 0} (r : Running O) (v : LenderPass) (views : List LenderPass) (pass : ℕ) → IsHomeOf r v.home → views ≡ fresh ∷ [] → get_elem? views pass ≡ some v → ⊥
is_not_new r v views zero of new at =
    let same : fresh ≡ v = some-injective fresh v (sym (ap (λ l. get_elem? l 0) new) ∙ at) in
    subst (λ (u : LenderPass). IsHomeOf r u.home) (sym same) of
is_not_new r v views (suc pass) of new at = some-ne-none v (sym at ∙ ap (λ l. get_elem? l (suc pass)) new)

-- one view changes

abbrev AllFit : Shown → List LenderPass → Type 0
AllFit r views = (pass : ℕ) (v : LenderPass) → get_elem? views pass ≡ some v → FitsHand r v

-- where each pass fits the rule's service, each still does after one view was replaced by `w`, which fits too
fit_set : (r : Shown) (views : List LenderPass) (pass : ℕ) (w : LenderPass) → FitsHand r w → AllFit r views → AllFit r (set views pass w)
fit_set r views pass w mine all j u e = ⊎_elim (λ x. subst (FitsHand r) x.1 mine) (λ x. all j u x.1) (at_set views pass j w u e)

-- where each pass fits the rule's service, each still does after one view more was added, `w`, which fits too
fit_snoc : (r : Shown) (views : List LenderPass) (w : LenderPass) → FitsHand r w → AllFit r views → AllFit r (views ++ w ∷ [])
fit_snoc r views w mine all j u e = ⊎_elim (λ x. all j u x) (λ x. subst (FitsHand r) x mine) (at_snoc views w u j e)

-- a pass that knows the service and has a part fits the rule: what the rule asks of a pass without parts does not concern it
keeps_parts : (r : Shown) (v : LenderPass) → FitsHome r v.parts v.home → 0 < v.parts → FitsHand r v
keeps_parts r v fits some_part = record { home = fits; idle = λ none. absurd (omega (arith, some_part, none)) }

-- what a move of one pass has to balance
record Balances (service : Shown) (items after : List Seated) (v w : LenderPass) : Type 0 where
  pub parts : w.parts ≡ v.parts
  pub callers : (h : ℕ → ℕ) → total_weight h w.placed + numbers_weigh h v.held + numbers_weigh h items ≡ total_weight h v.placed + numbers_weigh h w.held + numbers_weigh h after
  pub calls : (h : AnsweredCall → ℕ) → total_weight h w.told_calls + calls_weigh h v.held + calls_weigh h items ≡ total_weight h v.told_calls + calls_weigh h w.held + calls_weigh h after
  pub reads : (h : SeenRead → ℕ) → total_weight h w.shown + reads_weigh h v.held + reads_weigh h items ≤ total_weight h v.shown + reads_weigh h w.held + reads_weigh h after

-- where a pass goes from `v` to `w` and the queue from `items` to `after`, and both balance, the rule is kept
moves : (items after : List Seated) (views : List LenderPass) (pass : ℕ) (v w : LenderPass) (k : KeepsCallers items views) → get_elem? views pass ≡ some v
    → FitsHand k.service w → All (IsLentBy k.service) after → total_weight (λ (u : LenderPass). length u.placed) (set views pass w) ≤ k.service.callers → Balances k.service items after v w → KeepsCallers after (set views pass w)
moves items after views pass v w k at fits are room b = record {
  service = k.service;
  items_are = are;
  views_are = fit_set k.service views pass w fits k.views_are;
  parts = (let s = total_set (λ (u : LenderPass). u.parts) views pass v w at in omega (arith, s, k.parts, b.parts));
  room = room;
  callers = λ h. (
      let placed = total_set (λ (u : LenderPass). total_weight h u.placed) views pass v w at in
      let held = total_set (λ (u : LenderPass). numbers_weigh h u.held) views pass v w at in
      omega (arith, placed, held, k.callers h, b.callers h));
  calls = λ h. (
      let told_calls = total_set (λ (u : LenderPass). total_weight h u.told_calls) views pass v w at in
      let held = total_set (λ (u : LenderPass). calls_weigh h u.held) views pass v w at in
      omega (arith, told_calls, held, k.calls h, b.calls h));
  reads = λ h. (
      let shown = total_set (λ (u : LenderPass). total_weight h u.shown) views pass v w at in
      let held = total_set (λ (u : LenderPass). reads_weigh h u.held) views pass v w at in
      omega (arith, shown, held, k.reads h, b.reads h));
}

-- where one pass changes and places nobody, all passes have placed no more callers than before
same_room : (views : List LenderPass) (pass : ℕ) (v w : LenderPass) (n : ℕ) → get_elem? views pass ≡ some v → w.placed ≡ v.placed → total_weight (λ (u : LenderPass). length u.placed) views ≤ n → total_weight (λ (u : LenderPass). length u.placed) (set views pass w) ≤ n
same_room views pass v w n at placed room =
    let s = total_set (λ (u : LenderPass). length u.placed) views pass v w at in
    let same : length w.placed ≡ length v.placed = ap length placed in
    omega (arith, s, same, room)

-- the moves

-- a new queue keeps the rule
pub begins : Pools [] (fresh ∷ [])
begins = inl (refl, refl)

-- the callers that a pass holds and those in the queue are together no more than the service has
has_room : {O : Type 0} (r : Running O) (v : LenderPass) (items : List Seated) (views : List LenderPass) (pass : ℕ) → KeepsCallers items views → IsHomeOf r v.home → get_elem? views pass ≡ some v → length v.held + length items ≤ callers_at v.home
has_room r v items views pass k of at =
    let count = count_fits r k.service v.parts v.home of (k.views_are pass v at).home in
    let placed : total_weight (λ (u : LenderPass). total_weight (λ _. 1) u.placed) views ≡ total_weight (λ (u : LenderPass). length u.placed) views = each_same (λ (u : LenderPass). total_weight (λ _. 1) u.placed) (λ (u : LenderPass). length u.placed) (λ u. units ℕ u.placed) views in
    let mine = total_has (λ (u : LenderPass). numbers_weigh (λ _. 1) u.held) views pass v at in
    omega (arith, placed, mine, units Seated v.held, units Seated items, k.callers (λ _. 1), k.room, count)

module _ {O : Type 0} where
  -- a pass with a part that pops the queue takes a caller of its home out of it, and keeps the rule
  pub pops : (pass : ℕ) (r : Running O) (v : LenderPass) → IsHomeOf r v.home → 0 < v.parts → Pops Pools pass v (IsCallerTaken v)
  pops pass r v of some_part x items views (inl new) at = absurd (is_not_new r v views pass of new.1 at)
  pops pass r v of some_part x items views (inr k) at =
      let w = with_taken v x in
      let fits = (k.views_are pass v at).home in (
        w,
        inr (moves (x ∷ items) items views pass v w k at (keeps_parts k.service w fits some_part) (All-tail (IsLentBy k.service) x items k.items_are) (same_room views pass v w k.service.callers at refl k.room) (record {
          parts = refl;
          callers = λ h. omega arith;
          calls = λ h. omega arith;
          reads = λ h. omega arith;
        })),
        (from_service r k.service v.parts v.home x of fits (All-head (IsLentBy k.service) x items k.items_are), refl, (let most = has_room r v (x ∷ items) views pass k of at in omega (arith, most))),
      )

  -- a caller without answered calls is placed, by a pass with every part
  pub places : (n pass : ℕ) (r : Running O) (v : LenderPass) (x : Seated) → IsHomeOf r v.home → v.parts ≡ all_parts → length v.placed < r.callers → IsCallerOf r x → HasLimit (limits_at v.home) x → calls_of x ≡ [] → Pushes Pools n pass v x (λ w. w ≡ with_placed v x)
  places n pass r v x of parts room is limit none items views short (inl new) at = absurd (is_not_new r v views pass of new.1 at)
  places n pass r v x of parts room is limit none items views short (inr k) at =
      let w = with_placed v x in
      let fits = (k.views_are pass v at).home in
      let mine : IsLentBy k.service x = to_service r k.service v.parts v.home x of fits (at_home r v.home x of is limit) in
      let count = count_fits r k.service v.parts v.home of fits in
      let here = home_callers r v.home of in
      let alone : total_weight (λ (u : LenderPass). length u.placed) views ≡ length v.placed = total_whole (λ (u : LenderPass). length u.placed) (λ (u : LenderPass). u.parts) views pass v (λ j u e z. ap length ((k.views_are j u e).idle z).placed) at (k.parts ∙ sym parts) in
      let s = total_set (λ (u : LenderPass). length u.placed) views pass v w at in
      let long = length-append v.placed (x.known.local.number ∷ []) in (
        w,
        inr (moves items (items ++ x ∷ []) views pass v w k at (keeps_parts k.service w fits (omega (arith, parts))) (All-push (IsLentBy k.service) items x k.items_are mine) (omega (arith, s, alone, long, room, count, here)) (record {
          parts = refl;
          callers = λ h. omega (arith, total_both h v.placed (x.known.local.number ∷ []), total_both (λ (y : Seated). h y.known.local.number) items (x ∷ []));
          calls = λ h. (let zero_ : total_weight h (calls_of x) ≡ 0 = ap (total_weight h) none in omega (arith, zero_, total_both (λ (y : Seated). total_weight h (calls_of y)) items (x ∷ [])));
          reads = λ h. omega (arith, total_both (λ (y : Seated). total_weight h y.known.local.seen_reads) items (x ∷ []));
        })),
        refl,
      )

  -- the first caller held is given back with further calls, of which the pass is told
  pub gives : (n pass : ℕ) (r : Running O) (v : LenderPass) (x : Seated) → IsHomeOf r v.home → 0 < v.parts → IsFirstOf v.held x → IsCallerOf r x → HasLimit (limits_at v.home) x → Pushes Pools n pass v x (λ w. w ≡ with_given v x)
  gives n pass r v x of some_part first is limit items views short (inl new) at = absurd (is_not_new r v views pass of new.1 at)
  gives n pass r v x of some_part first is limit items views short (inr k) at =
      let fits = (k.views_are pass v at).home in
      let mine : IsLentBy k.service x = to_service r k.service v.parts v.home x of fits (at_home r v.home x of is limit) in
      given v.held refl first fits mine
    where
      given : (held : List Seated) → v.held ≡ held → IsFirstOf held x → FitsHome k.service v.parts v.home → IsLentBy k.service x → (w : LenderPass) × Pools (items ++ x ∷ []) (set views pass w) × (w ≡ with_given v x)
      given [] holds first fits mine = absurd first
      given (y ∷ rest) holds first fits mine =
          let w = given_from v (y ∷ rest) x in
          let more = drop (length (calls_of y)) (calls_of x) in
          let new = drop (length y.known.local.seen_reads) x.known.local.seen_reads in (
            w,
            inr (moves items (items ++ x ∷ []) views pass v w k at (keeps_parts k.service w fits some_part) (All-push (IsLentBy k.service) items x k.items_are mine) (same_room views pass v w k.service.callers at refl k.room) (record {
              parts = refl;
              callers = λ h. (
                  let was : numbers_weigh h v.held ≡ h y.known.local.number + numbers_weigh h rest = ap (numbers_weigh h) holds in
                  let same : h x.known.local.number ≡ h y.known.local.number = ap h first.number in
                  omega (arith, was, same, total_both (λ (z : Seated). h z.known.local.number) items (x ∷ [])));
              calls = λ h. (
                  let was : calls_weigh h v.held ≡ total_weight h (calls_of y) + calls_weigh h rest = ap (calls_weigh h) holds in
                  let grown : total_weight h (calls_of x) ≡ total_weight h (calls_of y) + total_weight h more = ap (total_weight h) first.calls ∙ total_both h (calls_of y) more in
                  omega (arith, was, grown, total_both h v.told_calls more, total_both (λ (z : Seated). total_weight h (calls_of z)) items (x ∷ [])));
              reads = λ h. (
                  let was : reads_weigh h v.held ≡ total_weight h y.known.local.seen_reads + reads_weigh h rest = ap (reads_weigh h) holds in
                  let grown : total_weight h x.known.local.seen_reads ≡ total_weight h y.known.local.seen_reads + total_weight h new = ap (total_weight h) first.reads ∙ total_both h y.known.local.seen_reads new in
                  omega (arith, was, grown, total_both h v.shown new, total_both (λ (z : Seated). total_weight h z.known.local.seen_reads) items (x ∷ [])));
            })),
            ap (λ l. given_from v l x) (sym holds),
          )

  -- a pass with one part is made of one that has more
  pub forks : (pass : ℕ) (r : Running O) (v : LenderPass) → IsHomeOf r v.home → 1 < v.parts → Forks Pools pass v (cut_left v) (cut_right v)
  forks pass r v of more items views (inl new) at = absurd (is_not_new r v views pass of new.1 at)
  forks pass r v of more items views (inr k) at =
      let l = cut_left v in
      let w = cut_right v in
      let fits = (k.views_are pass v at).home in
      let left : FitsHand k.service l = keeps_parts k.service l (refits r k.service v.parts l.parts v.home of fits) (omega (arith, more)) in
      let right : FitsHand k.service w = keeps_parts k.service w (refits r k.service v.parts 1 v.home of fits) (omega arith) in
      let cut : (f : LenderPass → ℕ) → total_weight f (set views pass l ++ w ∷ []) + f v ≡ total_weight f views + f l + f w = λ f. (let s = total_set f views pass v l at in omega (arith, s, total_both f (set views pass l) (w ∷ []))) in
      inr (record {
        service = k.service;
        items_are = k.items_are;
        views_are = fit_snoc k.service (set views pass l) w right (fit_set k.service views pass l left k.views_are);
        parts = omega (arith, cut (λ (u : LenderPass). u.parts), k.parts, more);
        room = omega (arith, cut (λ (u : LenderPass). length u.placed), k.room);
        callers = λ h. omega (arith, cut (λ (u : LenderPass). total_weight h u.placed), cut (λ (u : LenderPass). numbers_weigh h u.held), k.callers h);
        calls = λ h. omega (arith, cut (λ (u : LenderPass). total_weight h u.told_calls), cut (λ (u : LenderPass). calls_weigh h u.held), k.calls h);
        reads = λ h. omega (arith, cut (λ (u : LenderPass). total_weight h u.shown), cut (λ (u : LenderPass). reads_weigh h u.held), k.reads h);
      })

  -- two passes are put together
  pub merges : (pass other : ℕ) (r : Running O) (v w : LenderPass) → IsHomeOf r v.home → 0 < v.parts → Merges Pools pass v other w (both v w) nothing
  merges pass other r v w of some_part items views (inl new) at apart at' = absurd (is_not_new r v views pass of new.1 at)
  merges pass other r v w of some_part items views (inr k) at apart at' =
      let b = both v w in
      let fits = (k.views_are pass v at).home in
      let mine : FitsHand k.service b = keeps_parts k.service b (refits r k.service v.parts b.parts v.home of fits) (omega (arith, some_part)) in
      let spent : FitsHand k.service nothing = record { home = refl; idle = λ z. record { placed = refl; held = refl; told_calls = refl; shown = refl } } in
      let merged : (f : LenderPass → ℕ) → f b ≡ f v + f w → f nothing ≡ 0 → total_weight f (set (set views pass b) other nothing) ≡ total_weight f views = λ f adds none. (
      let first = total_set f views pass v b at in
      let second = total_set f (set views pass b) other w nothing at' in
      omega (arith, first, second, adds, none)) in
      inr (record {
        service = k.service;
        items_are = k.items_are;
        views_are = fit_set k.service (set views pass b) other nothing spent (fit_set k.service views pass b mine k.views_are);
        parts = merged (λ (u : LenderPass). u.parts) refl refl ∙ k.parts;
        room = (let m = merged (λ (u : LenderPass). length u.placed) (length-append v.placed w.placed) refl in omega (arith, m, k.room));
        callers = λ h. (
            let placed = merged (λ (u : LenderPass). total_weight h u.placed) (total_both h v.placed w.placed) refl in
            let held = merged (λ (u : LenderPass). numbers_weigh h u.held) (total_both (λ (y : Seated). h y.known.local.number) v.held w.held) refl in
            omega (arith, placed, held, k.callers h));
        calls = λ h. (
            let told_calls = merged (λ (u : LenderPass). total_weight h u.told_calls) (total_both h v.told_calls w.told_calls) refl in
            let held = merged (λ (u : LenderPass). calls_weigh h u.held) (total_both (λ (y : Seated). total_weight h (calls_of y)) v.held w.held) refl in
            omega (arith, told_calls, held, k.calls h));
        reads = λ h. (
            let shown = merged (λ (u : LenderPass). total_weight h u.shown) (total_both h v.shown w.shown) refl in
            let held = merged (λ (u : LenderPass). reads_weigh h u.held) (total_both (λ (y : Seated). total_weight h y.known.local.seen_reads) v.held w.held) refl in
            omega (arith, shown, held, k.reads h));
      })

  pub learns : (pass : ℕ) (r : Running O) (v : LenderPass) → IsHomeOf r v.home → Learns Pools pass v (TellsRoom v)
  learns pass r v of items views (inl new) at = absurd (is_not_new r v views pass of new.1 at)
  learns pass r v of items views (inr k) at =
      record {
        room = has_room r v items views pass k of at;
        whole = λ parts. record {
          callers = λ h. (
              let placed' = total_whole (λ (u : LenderPass). total_weight h u.placed) (λ (u : LenderPass). u.parts) views pass v (λ j u e z. ap (total_weight h) ((k.views_are j u e).idle z).placed) at (k.parts ∙ sym parts) in
              let held' = total_whole (λ (u : LenderPass). numbers_weigh h u.held) (λ (u : LenderPass). u.parts) views pass v (λ j u e z. ap (numbers_weigh h) ((k.views_are j u e).idle z).held) at (k.parts ∙ sym parts) in
              omega (arith, placed', held', k.callers h));
          calls = λ h. (
              let told_calls' = total_whole (λ (u : LenderPass). total_weight h u.told_calls) (λ (u : LenderPass). u.parts) views pass v (λ j u e z. ap (total_weight h) ((k.views_are j u e).idle z).told_calls) at (k.parts ∙ sym parts) in
              let held' = total_whole (λ (u : LenderPass). calls_weigh h u.held) (λ (u : LenderPass). u.parts) views pass v (λ j u e z. ap (calls_weigh h) ((k.views_are j u e).idle z).held) at (k.parts ∙ sym parts) in
              omega (arith, told_calls', held', k.calls h));
          reads = λ h. (
              let shown' = total_whole (λ (u : LenderPass). total_weight h u.shown) (λ (u : LenderPass). u.parts) views pass v (λ j u e z. ap (total_weight h) ((k.views_are j u e).idle z).shown) at (k.parts ∙ sym parts) in
              let held' = total_whole (λ (u : LenderPass). reads_weigh h u.held) (λ (u : LenderPass). u.parts) views pass v (λ j u e z. ap (reads_weigh h) ((k.views_are j u e).idle z).held) at (k.parts ∙ sym parts) in
              omega (arith, shown', held', k.reads h));
        };
      }

-- the first pass learns the service, before any caller is placed
pub opens : (pass : ℕ) (home : ServiceView) → Forks Pools pass fresh (opened_pass home) nothing
opens zero home items views (inl new) at =
    subst (λ (l : List Seated). Pools l (set views 0 (opened_pass home) ++ nothing ∷ [])) (sym new.0)
    (subst (λ (l : List LenderPass). Pools [] (set l 0 (opened_pass home) ++ nothing ∷ [])) (sym new.1) (inr (record {
      service = shown_by home;
      items_are = All-nil (IsLentBy (shown_by home));
      views_are = fit_snoc (shown_by home) (opened_pass home ∷ []) nothing spent (one (record { home = refl; idle = λ z. absurd (omega (arith, z)) }));
      parts = refl;
      room = omega arith;
      callers = λ h. refl;
      calls = λ h. refl;
      reads = λ h. omega arith;
    })))
  where
    spent : FitsHand (shown_by home) nothing
    spent = record { home = refl; idle = λ z. record { placed = refl; held = refl; told_calls = refl; shown = refl } }

    one : FitsHand (shown_by home) (opened_pass home) → AllFit (shown_by home) (opened_pass home ∷ [])
    one fits zero u e = subst (FitsHand (shown_by home)) (some-injective (opened_pass home) u e) fits
    one fits (suc j) u e = absurd (some-ne-none u (sym e))
opens (suc pass) home items views (inl new) at = absurd (some-ne-none fresh (sym at ∙ ap (λ l. get_elem? l (suc pass)) new.1))
opens pass home items views (inr k) at = (let none : all_parts ≡ 0 = (k.views_are pass fresh at).home in absurd (omega (arith, none)))

-- a pass with every part knows that no more callers are in the queue than it placed
pub not_full : (v : LenderPass) (items : List Seated) → TellsRoom v items → v.parts ≡ all_parts → length items ≤ length v.placed
not_full v items tells parts = omega (arith, (tells.whole parts).callers (λ _. 1), units ℕ v.placed, units Seated v.held, units Seated items)

-- a queue with room for all callers is not full while one is still to be placed, where the pass has every part
pub is_short : (v : LenderPass) (cap n : ℕ) → v.parts ≡ all_parts → length v.placed < n → cap ≡ n → Held cap (TellsRoom v) → ⊥
is_short v cap n parts room fits (items, long, tells) = (let most = not_full v items tells parts in absurd (omega (arith, most, long, fits, room)))

-- what was taken out is a caller of the service
pub taken : {O : Type 0} (r : Running O) (v w : LenderPass) (found : Option Seated) (none : Type 0) → IsHomeOf r v.home → MatchOption found none (λ x. IsCallerTaken v x w)
    → MatchOption found none (λ x. IsCallerOf r x × HasLimit (limits_at v.home) x × (w ≡ with_taken v x) × (length v.held < r.callers))
taken r v w None none of is_empty = is_empty
taken r v w (Some x) none of is_taken = ((from_home r v.home x of is_taken.0).0, (from_home r v.home x of is_taken.0).1, is_taken.1, (let count = home_callers r v.home of in let most = is_taken.2 in omega (arith, count, most)))

-- a pass holds no more callers than there are
pub within : {O : Type 0} (r : Running O) (v : LenderPass) (items : List Seated) → IsHomeOf r v.home → TellsRoom v items → length v.held ≤ r.callers
within r v items of tells = (let count = home_callers r v.home of in let room = tells.room in omega (arith, count, room))
