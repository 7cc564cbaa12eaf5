-- The clients of a pool that is opened, and all clients of one that is to be closed.
use Rattle.std.proofs.Common.{◌≡◌, ◌∙◌, ◌+◌, ◌-◌, ◌^◌, ◌<◌, ◌≤◌, ℕ, zero, suc, List, [], ◌∷◌, ◌++◌, Option, None, Some, ap, arith, get_or, length, length-append, map, refl, replicate, slice_get, subst, sym}
use Rattle.std.specs.Prelude.{All}
use Rattle.std.specs.List.{range_with_len}
use Rattle.std.specs.Option.{option_map}
use Rattle.std.proofs.lemmas.List.{get_or-replicate}
use Rattle.std.proofs.lemmas.List.Elements.{All-cons, All-head, All-nil, All-tail, All-weaker}
use Rattle.std.proofs.lemmas.List.FromFn.{get_or-map-range_with_len, length-map-range_with_len}
use Rattle.std.proofs.lemmas.Option.{get_or_from_slice_get, none-some, same_Some, slice_get-map, slice_get_within}
use Rattle.atomic_table.specs.Seated.{TableId}
use Rattle.cx_core.proofs.Locals.{slice_get-last}
use Rattle.cx_core.specs.declared.entry.Base.{Base}
use Rattle.cx_lives.proofs.Lists.{all_at}
use Rattle.table_invariant.specs.Running.{Running}
use Rattle.table_invariant.specs.Seats.{Seated}
use Rattle.cx_service.specs.Callers.{IsCallerOf}
use Rattle.cx_service.specs.Starts.{Starts}
use Rattle.cx_table.specs.Remains.{opening_seat}
use Rattle.client_pool.specs.Clients.{HasCalls, IsClientOf}
use Rattle.client_pool.specs.Lending.{is_live, limits_of}
use Rattle.client_pool.specs.Pools.{AreClients, AreNewClients, IsClosing, IsNewCaller}
use Rattle.client_pool.specs.declared.client.Client.{Client}
use Rattle.life_records.proofs.Lists.{all_each, each_get}
use Rattle.life_records.specs.Records.{Life, Meaning}
use Rattle.pool_lives.specs.Asking.{AreUnlimited, MayAsk}
use Rattle.pool_lives.specs.Gathering.{AreClientsGathered}
use Rattle.pool_lives.specs.Running.{IsServiceReady}
use Rattle.pool_lives.specs.Working.{HasClosing, IsUncalledIn}
use Rattle.pool_lives.specs.declared.gather.GatheredClients.{GatheredClients}

some_of : (o : Option Seated) (limit : ℕ) → option_map (λ (s : Seated). s.known.local.limit) o ≡ Some limit → (s : Seated) × (o ≡ Some s) × (s.known.local.limit ≡ limit)
some_of None limit same = absurd (none-some limit same)
some_of (Some s) limit same = (s, refl, same_Some s.known.local.limit limit same)

-- the callers of a service that was started
module _ {O : Type 0} where
  each_new : (r : Running O) (limits numbers : List ℕ) → All (IsCallerOf r) (map (opening_seat r limits) numbers) → All (IsNewCaller r) (map (opening_seat r limits) numbers)
  each_new r limits [] all = All-nil (IsNewCaller r)
  each_new r limits (n ∷ numbers) all =
      let seat = opening_seat r limits n in
      let rest = map (opening_seat r limits) numbers in
      All-cons (IsNewCaller r) seat rest (record { caller = All-head (IsCallerOf r) seat rest all; none = refl }) (each_new r limits numbers (All-tail (IsCallerOf r) seat rest all))

  pub started : (object copy : O) (lines callers : ℕ) (limits : List ℕ) (base : Base) (r : Running O) (seats : List Seated) → copy ≡ object → limits ≡ replicate callers (2 ^ 64 - 1) → Starts copy lines callers limits base r seats → IsServiceReady object r seats
  started object copy lines callers limits base r seats same all starts =
      let numbers = range_with_len 0 callers in
      let seat : ℕ → Seated = opening_seat r limits in
      let long : length seats ≡ callers = ap length starts.opened ∙ length-map-range_with_len seat 0 callers in
      record {
        same = ap (λ (x : Running O). x.object) starts.is ∙ same;
        new = record {
          each = subst (All (IsNewCaller r)) (sym starts.opened) (each_new r limits numbers (subst (All (IsCallerOf r)) starts.opened starts.each));
          numbers = starts.all.numbers;
        };
        unlimited = λ c limit at. (
            let s = some_of (slice_get seats c) limit (sym (slice_get-map (λ (x : Seated). x.known.local.limit) seats c) ∙ at) in
            let below : c < callers = (let within = slice_get_within seats c s.0 s.1 in omega (arith, within, long)) in
            let here : 0 + c ≡ c = omega arith in
            let is : s.0 ≡ seat c = sym (get_or_from_slice_get seats c s.0 s.0 s.1) ∙ ap (λ (xs : List Seated). get_or xs c s.0) starts.opened ∙ get_or-map-range_with_len seat 0 callers c c s.0 below here in
            sym s.2 ∙ ap (λ (x : Seated). x.known.local.limit) is ∙ ap (λ (xs : List ℕ). get_or xs c 0) all ∙ get_or-replicate callers c (2 ^ 64 - 1) 0 below);
      }

-- an item of numbers one after another
range_at : (a n i k : ℕ) → slice_get (range_with_len a n) i ≡ Some k → k ≡ a + i
range_at a zero i k at = absurd (none-some k at)
range_at a (suc n) zero k at = (let same = same_Some a k at in omega (arith, same))
range_at a (suc n) (suc i) k at = (let rest = range_at (a + 1) n i k at in omega (arith, rest))

numbered_at : (clients : List Client) (n i : ℕ) (x : Client) → map (λ (c : Client). c.number) clients ≡ range_with_len 0 n → slice_get clients i ≡ Some x → x.number ≡ i
numbered_at clients n i x numbers at =
    let is = range_at 0 n i x.number (ap (λ (ks : List ℕ). slice_get ks i) (sym numbers) ∙ slice_get-map (λ (c : Client). c.number) clients i ∙ ap (option_map (λ (c : Client). c.number)) at) in
    omega (arith, is)

last_split : (clients : List Client) → 0 < length clients → (front : List Client) × (last : Client) × (clients ≡ front ++ last ∷ [])
last_split [] some = absurd (omega (arith, some))
last_split (c ∷ []) some = ([], c, refl)
last_split (c ∷ d ∷ clients) some = (let rest = last_split (d ∷ clients) (omega arith) in (c ∷ rest.0, rest.1, ap (λ l. c ∷ l) rest.2))

module _ {O : Type 0} (r : Running O) (table : TableId) where
  new_at : (limits : List ℕ) (count : ℕ) (clients : List Client) → AreNewClients r table limits count clients → AreUnlimited limits → (i : ℕ) (x : Client) → slice_get clients i ≡ Some x → IsUncalledIn r table count x
  new_at limits count clients new unlimited i x at =
      let ends = new.clients_are.ends in
      record {
        may = record {
          is = all_at (IsClientOf r table) clients i x new.clients_are.each at;
          live = ap is_live (all_at (λ (c : Client). c.lent.kept ≡ None) clients i x new.live at);
          unlimited = subst AreUnlimited (sym (all_at (λ (c : Client). limits_of c.lent ≡ limits) clients i x new.limits_are at)) unlimited;
        };
        closing = λ last. (
            let number = numbered_at clients (length clients) i x new.clients_are.numbers at in
            let here : i ≡ length ends.front = omega (arith, number, last, new.count_is, ap length ends.are, length-append ends.front (ends.last ∷ [])) in
            let there : slice_get clients i ≡ Some ends.last = ap (λ (cs : List Client). slice_get cs i) ends.are ∙ ap (slice_get (ends.front ++ ends.last ∷ [])) here ∙ slice_get-last ends.front ends.last in
            let same : x ≡ ends.last = same_Some x ends.last (sym at ∙ there) in
            (ends.closing, ap (λ (c : Client). c.closing) same ∙ ends.has, subst (λ n. IsClosing r table n ends.closing) new.count_is ends.is));
        none = all_at (λ (c : Client). HasCalls r c []) clients i x new.calls at;
      }

  pub all_new : (limits : List ℕ) (count : ℕ) (clients : List Client) → AreNewClients r table limits count clients → AreUnlimited limits → All (IsUncalledIn r table count) clients
  all_new limits count clients new unlimited = all_each (IsUncalledIn r table count) clients (each_get (IsUncalledIn r table count) clients (new_at limits count clients new unlimited))

  -- all clients with which a pool is closed
  pub all_clients : {Op Reply Store : Type 0} (m : Meaning Op Reply Store) (life : Life Op) (g : GatheredClients Reply) → AreClientsGathered m life r table g → length g.clients.items ≡ life.clients → 1 ≤ life.clients → AreClients r table g.clients.items
  all_clients m life g gathered long some =
      let clients = g.clients.items in
      let s = last_split clients (omega (arith, long, some)) in
      let front = s.0 in
      let last = s.1 in
      let there : slice_get clients (length front) ≡ Some last = ap (λ (cs : List Client). slice_get cs (length front)) s.2 ∙ slice_get-last front last in
      let number = numbered_at clients (length clients) (length front) last gathered.numbers there in
      let end_ : last.number + 1 ≡ life.clients = omega (arith, number, long, ap length s.2, length-append front (last ∷ [])) in
      let c = all_at (HasClosing r table life.clients) clients (length front) last gathered.closing there end_ in
      record {
        each = All-weaker (MayAsk r table) (IsClientOf r table) (λ x may. may.is) clients gathered.each;
        numbers = gathered.numbers;
        ends = record { front = front; last = last; are = s.2; closing = c.0; has = c.1; is = subst (λ n. IsClosing r table n c.0) (sym long) c.2 };
      }
