-- Where no client of a closed pool keeps a stopped caller, the clients' calls are all that the history has.
use Rattle.std.proofs.Common.{true≢false, ◌≡◌, ◌+◌, ◌-◌, ◌<◌, ◌≤◌, ℕ, zero, suc, true, List, [], ◌∷◌, length, length-append, slice_get, Option, Some, None, sym, refl, ap, ◌∙◌, subst, arith}
use Rattle.std.specs.Prelude.{All}
use Rattle.std.specs.List.{AllZip}
use Rattle.std.proofs.lemmas.List.Elements.{All-head, All-tail}
use Rattle.std.proofs.lemmas.Option.{none-some, same_Some}
use Rattle.cx_core.proofs.ListLemmas.{item_below}
use Rattle.cx_core.proofs.MergeLemmas.{has_own, own_count}
use Rattle.cx_core.specs.Merge.{IsHistory, all_own}
use Rattle.cx_core.specs.State.{Instance}
use Rattle.cx_core.specs.declared.entry.Entry.{Entry as HistoryEntry}
use Rattle.cx_core.specs.declared.local.Answer.{Answer}
use Rattle.cx_core.specs.declared.local.Linked.{Linked as OwnEntry}
use Rattle.cx_core.specs.declared.local.Local.{Local}
use Rattle.table_invariant.specs.Running.{Running}
use Rattle.table_invariant.specs.Seats.{Seated}
use Rattle.cx_service.specs.Closes.{seat_of, seats_of}
use Rattle.cx_service.specs.declared.close.Handed.{Handed}
use Rattle.cx_service.specs.declared.close.Handed.TheVariants.{Idle, Linked, Stopped}
use Rattle.cx_table.specs.Remains.{ClosingWitness, locals_of}
use Rattle.cx_table.specs.declared.remains.Remains.{Remains}
use Rattle.seat_pool.specs.Gathering.{AreCallsTold, IsHandedOf, handed_calls, if_stopped, kept_list, lent_kept, one_at}
use Rattle.seat_pool.specs.Pooling.{calls_from, calls_of, total_weight}
use Rattle.seat_pool.specs.declared.hand.AnsweredCall.{AnsweredCall}
use Rattle.seat_pool.proofs.Poolings.{units}
use Rattle.client_pool.specs.Answers.{AreWhole, answers_at}
use Rattle.client_pool.specs.Clients.{HasCalls, entries_called}
use Rattle.client_pool.specs.Lending.{is_live}
use Rattle.client_pool.specs.Pools.{lents_of}
use Rattle.client_pool.specs.declared.call.Call.{Call}
use Rattle.client_pool.specs.declared.client.Client.{Client}
use Rattle.client_pool.proofs.History.{behind, weighs}
use Rattle.client_pool.proofs.Weights.{found, one_is, one_self}

-- 0 where a caller is in no call and not stopped
busy : Handed → ℕ
busy (Idle seat) = 0
busy (Linked seat) = 1
busy (Stopped stopped) = 1

kept_idle : (kept : Option Handed) → is_live kept ≡ true → total_weight busy (kept_list kept) ≡ 0
unfolding busy
kept_idle None live = refl
kept_idle (Some (Idle now)) live = refl
kept_idle (Some (Linked seat)) live = absurd (true≢false (sym live))
kept_idle (Some (Stopped stopped)) live = absurd (true≢false (sym live))

none_busy : (clients : List Client) → All (λ (c : Client). is_live c.lent.kept ≡ true) clients → total_weight (lent_kept busy) (lents_of clients) ≡ 0
none_busy [] live = refl
none_busy (c ∷ clients) live =
    let here = kept_idle c.lent.kept (All-head (λ (x : Client). is_live x.lent.kept ≡ true) c clients live) in
    let rest = none_busy clients (All-tail (λ (x : Client). is_live x.lent.kept ≡ true) c clients live) in
    omega (arith, here, rest)

stops_busy : (handed : List Handed) → total_weight (if_stopped (λ (n : ℕ). 1)) handed ≤ total_weight busy handed
unfolding busy
stops_busy [] = omega arith
stops_busy (Idle seat ∷ handed) = (let rest = stops_busy handed in omega (arith, rest))
stops_busy (Linked seat ∷ handed) = (let rest = stops_busy handed in omega (arith, rest))
stops_busy (Stopped stopped ∷ handed) = (let rest = stops_busy handed in omega (arith, rest))

no_weight : (h : AnsweredCall → ℕ) (xs : List AnsweredCall) → total_weight (λ (t : AnsweredCall). 1) xs ≤ 0 → total_weight h xs ≡ 0
no_weight h [] none = refl
no_weight h (x ∷ xs) none = absurd (omega (arith, none))

-- all entries of an idle caller are answered
even : {O : Type 0} (r : Running O) (g : Handed) → IsHandedOf r g → busy g ≡ 0 → length (seat_of g).known.local.own ≡ length (seat_of g).known.local.answered
unfolding busy
even r (Idle seat) of idle = (let count = of.count in omega (arith, count))
even r (Linked seat) of idle = absurd (omega (arith, idle))
even r (Stopped stopped) of idle = absurd (omega (arith, idle))

all_answered : (n : ℕ) (own : List OwnEntry) (answers : List Answer) → length own ≡ length answers → total_weight (λ (t : AnsweredCall). 1) (calls_from n own answers) ≡ length own
all_answered n [] answers same = refl
all_answered n (x ∷ own) [] same = absurd (omega (arith, same))
all_answered n (x ∷ own) (a ∷ answers) same = (let rest = all_answered n own answers (omega (arith, same)) in omega (arith, rest))

-- where each own entry is answered, the own entry `x` at `k` is that of the answered call at `k`
call_there : (n : ℕ) (own : List OwnEntry) (answers : List Answer) (k : ℕ) (x : OwnEntry) → length own ≡ length answers → slice_get own k ≡ Some x → (t : AnsweredCall) × (slice_get (calls_from n own answers) k ≡ Some t) × (t.entry ≡ x)
call_there n [] answers k x same at = absurd (none-some x at)
call_there n (y ∷ own) [] k x same at = absurd (omega (arith, same))
call_there n (y ∷ own) (a ∷ answers) zero x same at = (record { caller = n; entry = y; answer = a }, refl, same_Some y x at)
call_there n (y ∷ own) (a ∷ answers) (suc k) x same at = call_there n own answers k x (omega (arith, same)) at

-- an item weighs at most as much as all
weighs_in : {A : Type 0} (f : A → ℕ) (xs : List A) (i : ℕ) (x : A) → slice_get xs i ≡ Some x → f x ≤ total_weight f xs
weighs_in f [] i x at = absurd (none-some x at)
weighs_in f (y ∷ xs) zero x at = (let same : f y ≡ f x = ap f (same_Some y x at) in omega (arith, same))
weighs_in f (y ∷ xs) (suc i) x at = (let rest = weighs_in f xs i x at in omega (arith, rest))

local_at : (handed : List Handed) (i : ℕ) (g : Handed) → slice_get handed i ≡ Some g → slice_get (locals_of (seats_of handed)) i ≡ Some (seat_of g).known.local
local_at [] i g at = absurd (none-some g at)
local_at (h ∷ handed) zero g at = ap (λ (x : Handed). Some (seat_of x).known.local) (same_Some h g at)
local_at (h ∷ handed) (suc i) g at = local_at handed i g at

locals_long : (handed : List Handed) → length (locals_of (seats_of handed)) ≡ length handed
locals_long [] = refl
locals_long (h ∷ handed) = ap suc (locals_long handed)

module _ {O : Type 0} (r : Running O) where
  counted : (handed : List Handed) → All (IsHandedOf r) handed → total_weight busy handed ≡ 0 → total_weight (handed_calls (λ (t : AnsweredCall). 1)) handed ≡ length (all_own (locals_of (seats_of handed)))
  counted [] of idle = refl
  counted (g ∷ handed) of idle =
      let l = (seat_of g).known.local in
      let same = even r g (All-head (IsHandedOf r) g handed of) (omega (arith, idle)) in
      let here = all_answered l.number l.own l.answered same in
      let rest = counted handed (All-tail (IsHandedOf r) g handed of) (omega (arith, idle)) in
      omega (arith, here, rest, length-append l.own (all_own (locals_of (seats_of handed))))

  idle_at : (handed : List Handed) (i : ℕ) (g : Handed) → All (IsHandedOf r) handed → total_weight busy handed ≡ 0 → slice_get handed i ≡ Some g → IsHandedOf r g × (busy g ≡ 0)
  idle_at [] i g of idle at = absurd (none-some g at)
  idle_at (h ∷ handed) zero g of idle at = subst (λ (x : Handed). IsHandedOf r x × (busy x ≡ 0)) (same_Some h g at) (All-head (IsHandedOf r) h handed of, omega (arith, idle))
  idle_at (h ∷ handed) (suc i) g of idle at = idle_at handed i g (All-tail (IsHandedOf r) h handed of) (omega (arith, idle)) at

  -- where all callers are idle, each entry of the history is one of an answered call of theirs
  has_call : (place : ℕ) (history : List HistoryEntry) (handed : List Handed) → IsHistory place history (locals_of (seats_of handed)) → All (IsHandedOf r) handed → total_weight busy handed ≡ 0
      → (ticket : ℕ) → place ≤ ticket → ticket < place + length history → 1 ≤ total_weight (handed_calls (λ (t : AnsweredCall). one_at ticket t.entry.ticket)) handed
  has_call place history handed merged of idle ticket from below =
      let i = ticket - place in
      let e = item_below history i (omega (arith, from, below)) in
      let caller = e.0.caller in
      let by = merged.of_callers i e.0 e.1 in
      let g = item_below handed caller (let long = locals_long handed in omega (arith, by, long)) in
      let l = (seat_of g.0).known.local in
      let mine = has_own caller place history i e.0 e.1 refl in
      let x : OwnEntry = record { ticket = place + i; entry = e.0 } in
      let there : slice_get l.own mine.0 ≡ Some x = ap (λ (o : List OwnEntry). slice_get o mine.0) (merged.own caller l (local_at handed caller g.0 g.1)) ∙ mine.1 in
      let is = idle_at handed caller g.0 of idle g.1 in
      let t = call_there l.number l.own l.answered mine.0 x (even r g.0 is.0 is.1) there in
      let at : t.0.entry.ticket ≡ ticket = ap (λ (y : OwnEntry). y.ticket) t.2 ∙ omega (arith, from) in
      let one : one_at ticket t.0.entry.ticket ≡ 1 = ap (one_at ticket) at ∙ one_self ticket in
      let inner = weighs_in (λ (u : AnsweredCall). one_at ticket u.entry.ticket) (calls_of (seat_of g.0)) mine.0 t.0 t.1 in
      let outer = weighs_in (handed_calls (λ (u : AnsweredCall). one_at ticket u.entry.ticket)) handed caller g.0 g.1 in
      omega (arith, one, inner, outer)

  lengths : (calls : List (List Call)) → total_weight (λ (cs : List Call). length (entries_called cs)) calls ≡ total_weight (λ (cs : List Call). total_weight (λ (t : AnsweredCall). 1) (entries_called cs)) calls
  lengths [] = refl
  lengths (cs ∷ calls) = (let here = units AnsweredCall (entries_called cs) in let rest = lengths calls in omega (arith, here, rest))

  pub are_whole : (history : List HistoryEntry) (handed : List Handed) (clients : List Client) → IsHistory r.base.place history (locals_of (seats_of handed)) → AreCallsTold r (lents_of clients) handed
      → All (λ (c : Client). is_live c.lent.kept ≡ true) clients → (calls : List (List Call)) → AllZip (HasCalls r) clients calls → ((ticket : ℕ) → total_weight (answers_at ticket) calls ≤ 1) → AreWhole r.base.place history calls
  unfolding busy
  are_whole history handed clients merged are_told live calls are once =
      let idle : total_weight busy handed ≡ 0 = are_told.others busy (λ s. refl) ∙ none_busy clients live in
      let few = are_told.few (λ (n : ℕ). 1) in
      let stops = stops_busy handed in
      let all : (h : AnsweredCall → ℕ) → total_weight (λ (cs : List Call). total_weight h (entries_called cs)) calls ≡ total_weight (handed_calls h) handed = λ h. (
      let none = no_weight h are_told.untold (omega (arith, few, stops, idle)) in
      let same = weighs r h clients calls are in
      let account = are_told.calls h in
      omega (arith, none, same, account)) in
      record {
        all = λ ticket from below. (let one = once ticket in let has = has_call r.base.place history handed merged are_told.of idle ticket from below in let same = all (λ (t : AnsweredCall). one_at ticket t.entry.ticket) in omega (arith, one, has, same));
        count = (let long = lengths calls in let same = all (λ (t : AnsweredCall). 1) in let count = counted handed are_told.of idle in let own = own_count r.base.place history (locals_of (seats_of handed)) merged in omega (arith, long, same, count, own));
      }

-- the front of a caller that a client keeps is not past the history
module _ {O : Type 0} (r : Running O) (instance : Instance) (handed : List Handed) (remains : Remains) (clients : List Client) (place : instance.base.place ≡ r.base.place) (leaves : ClosingWitness r instance (seats_of handed) remains)
    (are_told : AreCallsTold r (lents_of clients) handed) where
  lent_at : (cs : List Client) (i : ℕ) (client : Client) → slice_get cs i ≡ Some client → slice_get (lents_of cs) i ≡ Some client.lent
  lent_at [] i client at = absurd (none-some client at)
  lent_at (c ∷ cs) zero client at = ap (λ (x : Client). Some x.lent) (same_Some c client at)
  lent_at (c ∷ cs) (suc i) client at = lent_at cs i client at

  pub front_within : (i : ℕ) (client : Client) (now : Seated) → slice_get clients i ≡ Some client → client.lent.kept ≡ Some (Idle now) → now.known.local.front ≤ r.base.place + length remains.trail.history
  front_within i client now at keeps =
      let front = now.known.local.front in
      let f : Handed → ℕ = λ g. one_at front (seat_of g).known.local.front in
      let here : lent_kept f client.lent ≡ f (Idle now) + 0 = ap (λ (k : Option Handed). total_weight f (kept_list k)) keeps in
      let one : f (Idle now) ≡ 1 = one_self front in
      let in_lents = weighs_in (lent_kept f) (lents_of clients) i client.lent (lent_at clients i client at) in
      let most = are_told.kept f in
      let g = found f handed (omega (arith, here, one, in_lents, most)) in
      let same = one_is front (seat_of g.1).known.local.front g.3 in
      let b = behind r instance handed remains leaves g.0 g.1 g.2 in
      let to = (leaves.state.fronts.each g.0 b.local b.there).to in
      let shows : b.local.front ≡ (seat_of g.1).known.local.front = ap (λ (l : Local). l.front) b.is in
      let long : length leaves.state.history ≡ length remains.trail.history = ap length leaves.history in
      omega (arith, same, shows, to, long, place)
