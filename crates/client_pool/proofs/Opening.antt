-- A pool that is opened: its callers are placed, and its clients made.
use Rattle.std.proofs.Common.{◌≡◌, ◌<◌, ◌+◌, ℕ, zero, suc, List, [], ◌∷◌, ◌++◌, length, map, sym, refl, ap, ◌∙◌, subst, arith, Option, Some, None, slice_get}
use Rattle.std.specs.Prelude.{All}
use Rattle.std.specs.List.{range_with_len}
use Rattle.std.proofs.lemmas.List.{length-append, map-append}
use Rattle.std.proofs.lemmas.List.Elements.{All-head, All-push, All-tail}
use Rattle.atomic_table.specs.Seated.{TableId}
use Rattle.crossbeam_queue.specs.Passes.{view}
use Rattle.cx_core.specs.declared.local.Linked.{Linked}
use Rattle.table_invariant.specs.Running.{Running}
use Rattle.table_invariant.specs.Seats.{Seated}
use Rattle.cx_service.specs.Callers.{IsCallerOf}
use Rattle.seat_pool.specs.Gathering.{IsRestOf}
use Rattle.seat_pool.specs.Pooling.{HasLimit, calls_from, calls_of, cut_left, limits_at, total_weight}
use Rattle.seat_pool.specs.declared.hand.LenderPass.{LenderPass}
use Rattle.seat_pool.specs.declared.hand.ServiceView.{ServiceView}
use Rattle.seat_pool.specs.declared.lent.Lent.{Lent}
use Rattle.seat_pool.proofs.Orderings.{range_push}
use Rattle.client_pool.specs.Clients.{HasCalls, IsClientOf}
use Rattle.client_pool.specs.Lending.{IsLentTo, limits_of}
use Rattle.client_pool.specs.Pools.{AreNewCallers, AreNewClients, IsClosing, IsNewCaller, IsNewClient, AreCallersPlaced}
use Rattle.client_pool.specs.declared.client.Client.{Client}
use Rattle.client_pool.specs.declared.client.Closing.{Closing}

-- the place of a number among numbers one after another
number_here : {A : Type 0} (f : A → ℕ) (front rest : List A) (x : A) (a n : ℕ) → map f (front ++ x ∷ rest) ≡ range_with_len a n → f x ≡ a + length front
number_here f [] rest x a zero same = cc
number_here f [] rest x a (suc n) same = (let e : f x ≡ a = cc in omega (arith, e))
number_here f (y ∷ front) rest x a zero same = cc
number_here f (y ∷ front) rest x a (suc n) same =
    let tail : map f (front ++ x ∷ rest) ≡ range_with_len (a + 1) n = cc in
    let e = number_here f front rest x (a + 1) n tail in
    omega (arith, e)

pub as_long : {A : Type 0} (f : A → ℕ) (xs : List A) (a n : ℕ) → map f xs ≡ range_with_len a n → length xs ≡ n
as_long f [] a zero same = refl
as_long f [] a (suc n) same = cc
as_long f (x ∷ xs) a zero same = cc
as_long f (x ∷ xs) a (suc n) same =
    let tail : map f xs ≡ range_with_len (a + 1) n = cc in
    let e = as_long f xs (a + 1) n tail in
    omega (arith, e)

length_map : {A B : Type 0} (f : A → B) (xs : List A) → length (map f xs) ≡ length xs
length_map f [] = refl
length_map f (x ∷ xs) = (let e = length_map f xs in omega (arith, e))

item_here : {A B : Type 0} (f : A → B) (front rest : List A) (x : A) → slice_get (map f (front ++ x ∷ rest)) (length front) ≡ Some (f x)
item_here f [] rest x = refl
item_here f (y ∷ front) rest x = item_here f front rest x

each_here : {A : Type 0} (P : A → Type 0) (front rest : List A) (x : A) → All P (front ++ x ∷ rest) → P x
each_here P [] rest x all = All-head P x rest all
each_here P (y ∷ front) rest x all = each_here P front rest x (All-tail P y (front ++ x ∷ rest) all)

numbers_more : (xs ys : List Client) (x : Client) (n : ℕ) → ys ≡ xs ++ x ∷ [] → map (λ (c : Client). c.number) xs ≡ range_with_len 0 n → x.number ≡ n → map (λ (c : Client). c.number) ys ≡ range_with_len 0 (n + 1)
numbers_more xs ys x n are before number =
    let f = λ (c : Client). c.number in
    let one : n + 1 ≡ suc n = omega arith in
    let here : f x ≡ 0 + n = (let e = number in omega (arith, e)) in
    ap (map f) are ∙ map-append f xs (x ∷ []) ∙ ap (λ l. l ++ f x ∷ []) before ∙ ap (λ (k : ℕ). range_with_len 0 n ++ k ∷ []) here ∙ sym (range_push 0 n) ∙ ap (range_with_len 0) (sym one)

module _ {O : Type 0} (r : Running O) where
  module _ (callers front items rest : List Seated) (x : Seated) (new : AreNewCallers r callers) (are : front ++ items ≡ callers) (next : items ≡ x ∷ rest) where
    abbrev here : callers ≡ front ++ x ∷ rest
    here = sym are ∙ ap (λ (l : List Seated). front ++ l) next

    -- there is room for the next caller
    pub fits : (v : LenderPass) → v.placed ≡ map (λ (s : Seated). s.known.local.number) front → length v.placed < r.callers
    fits v placed =
        let long = as_long (λ (s : Seated). s.known.local.number) callers 0 r.callers new.numbers in
        let short : length v.placed ≡ length front = ap length placed ∙ length_map (λ (s : Seated). s.known.local.number) front in
        let all : length callers ≡ length (front ++ x ∷ rest) = ap length here in
        omega (arith, long, short, all, length-append front (x ∷ rest))

    -- the next caller to be placed is one of the service, with its limit, and was answered no call
    pub is_next : (home : Option ServiceView) → limits_at home ≡ map (λ (s : Seated). s.known.local.limit) callers → IsCallerOf r x × HasLimit (limits_at home) x × (calls_of x ≡ [])
    is_next home limits =
        let is = each_here (IsNewCaller r) front rest x (subst (All (IsNewCaller r)) here new.each) in
        let limit = λ (s : Seated). s.known.local.limit in
        let at : x.known.local.number ≡ length front = (let e = number_here (λ (s : Seated). s.known.local.number) front rest x 0 r.callers (ap (map (λ (s : Seated). s.known.local.number)) (sym here) ∙ new.numbers) in omega (arith, e)) in (
          is.caller,
          ap (λ l. slice_get l x.known.local.number) limits ∙ ap (slice_get (map limit callers)) at ∙ ap (λ (l : List Seated). slice_get (map limit l) (length front)) here ∙ item_here limit front rest x,
          ap (λ (l : List Linked). calls_from x.known.local.number l x.known.local.answered) is.none,
        )

  module _ (table : TableId) where
    -- where one more part of the right to know the whole is cut off from `v` for a client, all callers are still placed, and `n + 1` parts are given
    pub placed_more : (n : ℕ) (v w : LenderPass) → AreCallersPlaced r n v → n < 1024 → w ≡ cut_left v → AreCallersPlaced r (n + 1) w
    placed_more n v w placed few cut = subst (λ (u : LenderPass). AreCallersPlaced r (n + 1) u) (sym cut) (record {
      home = placed.home;
      parts = (let parts = placed.parts in omega (arith, parts, few));
      placed = placed.placed;
      held = placed.held;
      told_calls = placed.told_calls;
      shown = placed.shown;
    })

    pub rest_of : (n : ℕ) (v : LenderPass) → AreCallersPlaced r n v → n < 1024 → IsRestOf r v n
    rest_of n v placed few = record {
      home = placed.home;
      some = (let parts = placed.parts in omega (arith, parts, few));
      parts = placed.parts;
      placed = placed.placed;
      held = placed.held;
      told_calls = placed.told_calls;
      shown = placed.shown;
    }

    -- the first clients of a pool
    pub record AreMade (limits : List ℕ) (n : ℕ) (clients : List Client) : Type 0 where
      pub long : length clients ≡ n
      pub each : All (IsClientOf r table) clients
      pub numbers : map (λ (c : Client). c.number) clients ≡ range_with_len 0 n
      pub live : All (λ (c : Client). c.lent.kept ≡ None) clients
      pub limits_are : All (λ (c : Client). limits_of c.lent ≡ limits) clients
      pub calls : All (λ (c : Client). HasCalls r c []) clients

    -- the first `n` clients `xs` of a pool with a new one `x` behind them, which has the number `n`, are its first `n + 1` clients
    pub made_more : (limits now : List ℕ) (n : ℕ) (xs ys : List Client) (x m : Client) → AreMade limits n xs → ys ≡ xs ++ x ∷ [] → IsNewClient r table now n m → now ≡ limits → x.number ≡ m.number → x.floor ≡ m.floor → x.answers ≡ m.answers → x.lent ≡ m.lent → AreMade limits (n + 1) ys
    made_more limits now n xs ys x m made are new same_limits number floor answers lent = record {
      long = (let long = made.long in let all : length ys ≡ length (xs ++ x ∷ []) = ap length are in omega (arith, long, all, length-append xs (x ∷ [])));
      each = subst (All (IsClientOf r table)) (sym are) (All-push (IsClientOf r table) xs x made.each (subst (λ l. IsLentTo r table l) (sym lent) new.client_is));
      numbers = numbers_more xs ys x n are made.numbers (number ∙ new.is);
      live = subst (All (λ (c : Client). c.lent.kept ≡ None)) (sym are) (All-push (λ (c : Client). c.lent.kept ≡ None) xs x made.live (ap (λ (l : Lent). l.kept) lent ∙ new.keeps));
      limits_are = subst (All (λ (c : Client). limits_of c.lent ≡ limits)) (sym are) (All-push (λ (c : Client). limits_of c.lent ≡ limits) xs x made.limits_are (ap limits_of lent ∙ new.limits_are ∙ same_limits));
      calls = subst (All (λ (c : Client). HasCalls r c [])) (sym are) (All-push (λ (c : Client). HasCalls r c []) xs x made.calls (record {
        answers = ap (λ v. v.items) answers ∙ new.calls.answers;
        floor = floor ∙ new.calls.floor;
        in_turn = new.calls.in_turn;
        told_calls = ap (λ (l : Lent). (view l.pass).told_calls) lent ∙ new.calls.told_calls;
        shown = λ h. (let same : total_weight h (view x.lent.pass).shown ≡ total_weight h (view m.lent.pass).shown = ap (λ (l : Lent). total_weight h (view l.pass).shown) lent in omega (arith, same, new.calls.shown h));
      }));
    }

    pub all_made : (limits : List ℕ) (count : ℕ) (front clients : List Client) (last : Client) (closing : Closing) → clients ≡ front ++ last ∷ [] → last.closing ≡ Some closing → AreMade limits count clients → IsClosing r table count closing → AreNewClients r table limits count clients
    all_made limits count front clients last closing are has made is = record {
      clients_are = record {
        each = made.each;
        numbers = made.numbers ∙ ap (range_with_len 0) (sym made.long);
        ends = record { front = front; last = last; are = are; closing = closing; has = has; is = subst (λ k. IsClosing r table k closing) (sym made.long) is };
      };
      count_is = made.long;
      live = made.live;
      limits_are = made.limits_are;
      calls = made.calls;
    }
