-- Each move keeps the rule.
use Rattle.std.proofs.Common.{◌≡◌, ◌+◌, ℕ, zero, suc, List, [], ◌∷◌, ◌++◌, drop, set, take, sym, refl, ap, ◌∙◌, subst, inl, inr, ⊎_elim, arith}
use Rattle.std.specs.Prelude.{Option, Some, None}
use Rattle.std.specs.Arc.{arc_value}
use Rattle.std.specs.List.{range_with_len}
use Rattle.std.proofs.lemmas.List.Elements.{All-head, All-nil, All-push, All-tail}
use mathlib.Core.Option.{some, some-injective, some-ne-none}
use lib.ListN.{get_elem?}
use Rattle.crossbeam_queue.specs.Fifo.{Forks, Learns, Pops, Pushes}
use Rattle.crossbeam_queue.proofs.Lists.{at_set, at_snoc}
use Rattle.table_invariant.specs.Running.{Running}
use Rattle.cx_service.specs.declared.close.Handed.{Handed}
use Rattle.seat_pool.specs.Gathering.{kept_list}
use Rattle.seat_pool.specs.Pooling.{total_weight}
use Rattle.seat_pool.proofs.Poolings.{total_both, total_set}
use Rattle.c_sessions.specs.Rule.{KeepsOrIsNew, IsHandedInAt, IsNewQueue, KeepsSessions, TellsAll, TellsCallers, by_number, callers_known, callers_weigh, without_first_due, first_due, new_pass, numbers_in, offering, pass_of_all, pass_weighs, pass_with_given, pass_with_taken}
use Rattle.c_sessions.specs.declared.rule.HandedIn.{HandedIn}
use Rattle.c_sessions.specs.declared.rule.Knows.{Knows}

-- the first of a list and the rest are all of it
cut_weighs : (h : ℕ → ℕ) (xs : List ℕ) → total_weight h (take 1 xs) + total_weight h (drop 1 xs) ≡ total_weight h xs
cut_weighs h [] = refl
cut_weighs h (x ∷ xs) = omega arith

-- the number of a caller, if there is one, weighs as the caller does by its number
numbers_same : (h : ℕ → ℕ) (o : Option Handed) → total_weight h (numbers_in o) ≡ total_weight (by_number h) (kept_list o)
numbers_same h None = refl
numbers_same h (Some g) = refl

module _ {O : Type 0} where
  -- each pass knows that its queue is of the service `r`; `views` are what the passes know
  abbrev Known : Running O → List (Knows O) → Type 0
  Known r views = (pass : ℕ) (v : Knows O) → get_elem? views pass ≡ some v → v.home ≡ Some r

  -- no service is known where the queue is new
  none_known : (r : Running O) → None ≡ Some r → ⊥
  none_known r e = absurd cc

  -- the view of a queue's only pass
  is_only : (one v : Knows O) (views : List (Knows O)) (pass : ℕ) → views ≡ one ∷ [] → get_elem? views pass ≡ some v → v ≡ one
  is_only one v views zero only at = sym (some-injective one v (sym (ap (λ l. get_elem? l 0) only) ∙ at))
  is_only one v views (suc pass) only at = absurd (some-ne-none v (sym at ∙ ap (λ l. get_elem? l (suc pass)) only))

  -- a queue of which a pass knows the service is not new
  not_new : (r : Running O) (v : Knows O) (items : List (HandedIn O)) (views : List (Knows O)) (pass : ℕ) → v.home ≡ Some r → IsNewQueue items views → get_elem? views pass ≡ some v → ⊥
  not_new r v items views pass home (inl new) at = none_known r (sym (ap (λ (u : Knows O). u.home) (is_only new_pass v views pass new.1 at)) ∙ home)
  not_new r v items views pass home (inr o) at = none_known r (sym (ap (λ (u : Knows O). u.home) (is_only (offering (arc_value o.share.service)) v views pass o.views_are at)) ∙ home)

  -- where each pass knows the service, each does after one of them knows `w`, which has the service too
  known_set : (r : Running O) (views : List (Knows O)) (pass : ℕ) (w : Knows O) → w.home ≡ Some r → Known r views → Known r (set views pass w)
  known_set r views pass w home known j u e = ⊎_elim (λ x. subst (λ (y : Knows O). y.home ≡ Some r) x.1 home) (λ x. known j u x.1) (at_set views pass j w u e)

  -- where each pass knows the service, each does after a new pass knows `w`, which has the service too
  known_snoc : (r : Running O) (views : List (Knows O)) (w : Knows O) → w.home ≡ Some r → Known r views → Known r (views ++ w ∷ [])
  known_snoc r views w home known j u e = ⊎_elim (λ x. known j u x) (λ x. subst (λ (y : Knows O). y.home ≡ Some r) x home) (at_snoc views w u j e)

  -- what all passes have of one kind
  all_of : {X : Type 0} (part : Knows O → List X) (us : List (Knows O)) → List X
  all_of part [] = []
  all_of part (u ∷ us) = part u ++ all_of part us

  -- what all passes have of one kind weighs as much as what each has, added up
  all_weigh : {X : Type 0} (part : Knows O → List X) (f : X → ℕ) (us : List (Knows O)) → total_weight f (all_of part us) ≡ total_weight (λ (u : Knows O). total_weight f (part u)) us
  unfolding all_of
  all_weigh part f [] = refl
  all_weigh part f (u ∷ us) = omega (arith, total_both f (part u) (all_of part us), all_weigh part f us)

  -- Of one kind, what all passes have weighs as much as what the pass `v` has and what the others have: this gives the list of the others.
  others_weigh : {X : Type 0} (part : Knows O → List X) (views : List (Knows O)) (pass : ℕ) (v : Knows O) → get_elem? views pass ≡ some v
      → (others : List X) × ((f : X → ℕ) → total_weight (λ (u : Knows O). total_weight f (part u)) views ≡ total_weight f (part v) + total_weight f others)
  others_weigh part [] pass v at = absurd (some-ne-none v (sym at))
  others_weigh part (u ∷ us) zero v at = (all_of part us, λ f. (let same : total_weight f (part u) ≡ total_weight f (part v) = ap (λ (w : Knows O). total_weight f (part w)) (some-injective u v at) in omega (arith, same, all_weigh part f us)))
  others_weigh part (u ∷ us) (suc pass) v at =
      let rest = others_weigh part us pass v at in
      (part u ++ rest.0, λ f. omega (arith, rest.1 f, total_both f (part u) rest.0))

  -- the callers that are with passes weigh as much as those that these are to hand in and those that they took out
  both_weigh : (h : ℕ → ℕ) (us : List (Knows O)) → total_weight (pass_weighs h) us ≡ total_weight (λ (u : Knows O). total_weight h u.due) us + total_weight (λ (u : Knows O). total_weight (by_number h) u.taken) us
  both_weigh h [] = refl
  both_weigh h (u ∷ us) = omega (arith, both_weigh h us)

  -- a new queue keeps the rule
  pub begins : KeepsOrIsNew {O = O} [] (new_pass ∷ [])
  begins = inl (inl (refl, refl))

  -- where there is one pass, and it knows `w` from now on, `w` is all that passes know
  only_set : (one w : Knows O) (v : Knows O) (views : List (Knows O)) (pass : ℕ) → views ≡ one ∷ [] → get_elem? views pass ≡ some v → set views pass w ≡ w ∷ []
  only_set one w v views zero only at = ap (λ l. set l 0 w) only
  only_set one w v views (suc pass) only at = absurd (some-ne-none v (sym at ∙ ap (λ l. get_elem? l (suc pass)) only))

  -- a share is put into the new queue
  pub opens : (n pass : ℕ) (v : Knows O) (x : HandedIn O) → v ≡ new_pass → Pushes KeepsOrIsNew n pass v x (λ w. w ≡ offering (arc_value x.service))
  opens n pass v x new items views short (inr k) at = absurd (none_known k.service (sym (ap (λ (u : Knows O). u.home) new) ∙ k.known pass v at))
  opens n pass v x new items views short (inl (inr o)) at =
      absurd (none_known (arc_value o.share.service) (ap (λ (u : Knows O). u.offered) (sym new ∙ is_only (offering (arc_value o.share.service)) v views pass o.views_are at)))
  opens n pass v x new items views short (inl (inl empty)) at =
      let w = offering (arc_value x.service) in (
        w,
        inl (inr (record {
          share = x;
          items_are = ap (λ (l : List (HandedIn O)). l ++ x ∷ []) empty.0;
          views_are = only_set new_pass w v views pass empty.1 at;
        })),
        refl,
      )

  -- the share that lies alone in a new queue is taken out, and the first pass is to hand in all callers
  pub starts : (pass : ℕ) (v : Knows O) (r : Running O) → v ≡ offering r → Pops KeepsOrIsNew pass v (λ x w. w ≡ pass_of_all v.offered)
  starts pass v r is x items views (inr k) at = absurd (none_known k.service (sym (ap (λ (u : Knows O). u.home) is) ∙ k.known pass v at))
  starts pass v r is x items views (inl (inl new)) at = absurd cc
  starts pass v r is x items views (inl (inr o)) at =
      let w = pass_of_all v.offered in
      let home : v.offered ≡ Some r = ap (λ (u : Knows O). u.offered) is in
      let none : items ≡ [] = cons_injective_tail x o.share items [] o.items_are in (
        w,
        inr (subst (λ (l : List (HandedIn O)). KeepsSessions l (set views pass w)) (sym none) (subst (λ (l : List (Knows O)). KeepsSessions [] l) (sym (only_set (offering (arc_value o.share.service)) w v views pass o.views_are at)) (
            subst (λ (h : Option (Running O)). KeepsSessions [] (pass_of_all h ∷ [])) (sym home) (record {
              service = r;
              each = All-nil (IsHandedInAt (Some r));
              known = only;
              callers = λ h. omega arith;
              accounts = λ f. refl;
            })))),
        refl,
      )
    where
      only : Known r (pass_of_all (Some r) ∷ [])
      only zero u e = sym (ap (λ (y : Knows O). y.home) (some-injective (pass_of_all (Some r)) u e))
      only (suc j) u e = absurd (some-ne-none u (sym e))

      cons_injective_tail : (y z : HandedIn O) (ys zs : List (HandedIn O)) → y ∷ ys ≡ z ∷ zs → ys ≡ zs
      cons_injective_tail y z ys zs e = cc

  -- a pass for one caller is made of one that knows the service
  pub parts : (pass : ℕ) (r : Running O) (v : Knows O) → v.home ≡ Some r → Forks KeepsOrIsNew pass v (without_first_due v) (first_due v)
  parts pass r v home items views (inl new) at = absurd (not_new r v items views pass home new at)
  parts pass r v home items views (inr k) at =
      let l = without_first_due v in let w = first_due v in
      let here = k.known pass v at in
      inr (record {
        service = k.service;
        each = k.each;
        known = known_snoc k.service (set views pass l) w here (known_set k.service views pass l here k.known);
        callers = λ h. (let s = total_set (pass_weighs h) views pass v l at in omega (arith, s, total_both (pass_weighs h) (set views pass l) (w ∷ []), cut_weighs h v.due, k.callers h));
        accounts = λ f. (
            let gave = λ (u : Knows O). total_weight f u.given in let took = λ (u : Knows O). total_weight f u.taken in
            let s = total_set gave views pass v l at in let t = total_set took views pass v l at in
            omega (arith, s, t, total_both gave (set views pass l) (w ∷ []), total_both took (set views pass l) (w ∷ []), k.accounts f));
      })

  -- the caller of a pass is put into the queue
  pub gives : (n pass : ℕ) (v : Knows O) (x : HandedIn O) → IsHandedInAt v.home x → v.due ≡ numbers_in x.handed → Pushes KeepsOrIsNew n pass v x (λ w. w ≡ pass_with_given v x)
  gives n pass v x is due items views short (inl new) at = absurd (not_new (arc_value x.service) v items views pass is.share new at)
  gives n pass v x is due items views short (inr k) at =
      let w = pass_with_given v x in
      let here = k.known pass v at in (
        w,
        inr (record {
          service = k.service;
          each = All-push (IsHandedInAt (Some k.service)) items x k.each (subst (λ (home : Option (Running O)). IsHandedInAt home x) here is);
          known = known_set k.service views pass w here k.known;
          callers = λ h. (
              -- the pass is to hand in nobody now, and the queue has its caller
              let s = total_set (pass_weighs h) views pass v w at in
              let was : total_weight h v.due ≡ total_weight (by_number h) (kept_list x.handed) = ap (total_weight h) due ∙ numbers_same h x.handed in
              omega (arith, s, was, total_both (λ (y : HandedIn O). total_weight (by_number h) (kept_list y.handed)) items (x ∷ []), k.callers h));
          accounts = λ f. (
              let gave = λ (u : Knows O). total_weight f u.given in let took = λ (u : Knows O). total_weight f u.taken in
              let s = total_set gave views pass v w at in let t = total_set took views pass v w at in
              omega (arith, s, t, total_both f (kept_list x.handed) v.given, total_both (λ (y : HandedIn O). total_weight f (kept_list y.handed)) items (x ∷ []), k.accounts f));
        }),
        refl,
      )

  -- a caller with its share of the service is taken out of the queue
  pub takes : (pass : ℕ) (r : Running O) (v : Knows O) → v.home ≡ Some r → Pops KeepsOrIsNew pass v (λ x w. IsHandedInAt v.home x × (w ≡ pass_with_taken v x))
  takes pass r v home x items views (inl new) at = absurd (not_new r v (x ∷ items) views pass home new at)
  takes pass r v home x items views (inr k) at =
      let w = pass_with_taken v x in
      let here = k.known pass v at in (
        w,
        inr (record {
          service = k.service;
          each = All-tail (IsHandedInAt (Some k.service)) x items k.each;
          known = known_set k.service views pass w here k.known;
          callers = λ h. (let s = total_set (pass_weighs h) views pass v w at in omega (arith, s, total_both (by_number h) (kept_list x.handed) v.taken, k.callers h));
          accounts = λ f. (
              let gave = λ (u : Knows O). total_weight f u.given in let took = λ (u : Knows O). total_weight f u.taken in
              let s = total_set gave views pass v w at in let t = total_set took views pass v w at in
              omega (arith, s, t, total_both f (kept_list x.handed) v.taken, k.accounts f));
        }),
        (subst (λ (home : Option (Running O)). IsHandedInAt home x) (sym here) (All-head (IsHandedInAt (Some k.service)) x items k.each), refl),
      )

  -- a pass that knows the service learns where its callers are
  pub learns : (pass : ℕ) (r : Running O) (v : Knows O) → v.home ≡ Some r → Learns KeepsOrIsNew pass v (TellsCallers v)
  learns pass r v home items views (inl new) at = absurd (not_new r v items views pass home new at)
  learns pass r v home items views (inr k) at =
      let due = others_weigh (λ (u : Knows O). u.due) views pass v at in
      let given = others_weigh (λ (u : Knows O). u.given) views pass v at in
      let taken = others_weigh (λ (u : Knows O). u.taken) views pass v at in record {
        due = due.0;
        given = given.0;
        taken = taken.0;
        callers = λ h. (
            let many : total_weight h (range_with_len 0 (callers_known v.home)) ≡ total_weight h (range_with_len 0 k.service.callers) = ap (λ (x : Option (Running O)). total_weight h (range_with_len 0 (callers_known x))) (k.known pass v at) in
            omega (arith, both_weigh h views, due.1 h, taken.1 (by_number h), many, k.callers h));
        accounts = λ f. omega (arith, given.1 f, taken.1 f, k.accounts f);
      }

  -- the callers in the queue
  callers_of : List (HandedIn O) → List Handed
  callers_of [] = []
  callers_of (x ∷ xs) = kept_list x.handed ++ callers_of xs

  -- the callers in the queue weigh as much as the queue's items
  callers_same : (f : Handed → ℕ) (xs : List (HandedIn O)) → total_weight f (callers_of xs) ≡ callers_weigh f xs
  unfolding callers_of
  callers_same f [] = refl
  callers_same f (x ∷ xs) = omega (arith, total_both f (kept_list x.handed) (callers_of xs), callers_same f xs)

  -- the callers that are with a pass, and the others
  pub with_others : (v : Knows O) (items : List (HandedIn O)) → TellsCallers v items → TellsAll v
  with_others v items tells = record {
    due = tells.due;
    given = tells.given;
    left = callers_of items ++ tells.taken;
    callers = λ h. omega (arith, total_both (by_number h) (callers_of items) tells.taken, callers_same (by_number h) items, tells.callers h);
    accounts = λ f. omega (arith, total_both f (callers_of items) tells.taken, callers_same f items, tells.accounts f);
  }
