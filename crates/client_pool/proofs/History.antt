-- The calls of clients over the history of a closed service.
use Rattle.std.proofs.Common.{◌≡◌, ◌≤◌, ◌+◌, ⊎_elim, ℕ, zero, suc, List, [], ◌∷◌, map, sym, refl, ap, ◌∙◌, subst, arith, Option, Some, None, slice_get}
use Rattle.std.specs.Prelude.{All}
use Rattle.std.specs.List.{AllZip}
use Rattle.std.specs.Option.{option_map}
use Rattle.std.proofs.lemmas.Bool.{cases_eq}
use Rattle.std.proofs.lemmas.List.Elements.{All-cons, All-nil, All-weaker}
use Rattle.std.proofs.lemmas.Option.{none-some, same_Some, slice_get-map, slice_get_within}
use Rattle.core_replica.proofs.Places.{durable_within}
use Rattle.core_replica.proofs.ReplyLaws.{reply_own}
use Rattle.core_runs.proofs.Keeps.{bounds_of}
use Rattle.core_runs.specs.RealTime.{Operation}
use Rattle.core_runs.specs.RealTime.Operation.{Update, Read}
use Rattle.cx_core.proofs.MergeLemmas.{own_mine, own_other}
use Rattle.cx_core.specs.Merge.{IsLinked, own_of}
use Rattle.cx_core.specs.RootEvents.{reply_after}
use Rattle.cx_core.specs.Shown.{shown}
use Rattle.cx_core.specs.State.{Instance}
use Rattle.cx_core.specs.declared.entry.Entry.{Entry as HistoryEntry}
use Rattle.cx_core.specs.declared.local.Answer.{Answer}
use Rattle.cx_core.specs.declared.local.Linked.{Linked}
use Rattle.cx_core.specs.declared.local.Local.{Local}
use Rattle.cx_core.specs.declared.local.SeenRead.{SeenRead}
use Rattle.table_invariant.specs.Running.{Running}
use Rattle.table_invariant.specs.Seats.{Seated}
use Rattle.table_invariant.specs.declared.rule.Known.{Known}
use Rattle.cx_service.specs.ClosedOrder.{IsLinearizedBy}
use Rattle.cx_service.specs.Closes.{seat_of, seats_of}
use Rattle.cx_service.specs.declared.close.Handed.{Handed}
use Rattle.cx_table.specs.Remains.{ClosingWitness, locals_of}
use Rattle.cx_table.specs.declared.remains.Remains.{Remains}
use Rattle.seat_pool.specs.Gathering.{AreCallsTold, handed_calls, handed_reads, lent_calls, lent_reads, one_at}
use Rattle.seat_pool.specs.Pooling.{calls_from, calls_of, total_weight}
use Rattle.seat_pool.specs.declared.hand.AnsweredCall.{AnsweredCall}
use Rattle.client_pool.specs.Answers.{AreAnswered, IsCallOf, IsCallersCall, IsCallersEntry, IsCallersRead, IsEntryOf, IsReadOf, StandsIn}
use Rattle.client_pool.specs.Clients.{AreInTurn, HasCalls, entries_called, reads_called}
use Rattle.client_pool.specs.Pools.{lents_of}
use Rattle.client_pool.specs.declared.call.Call.{Call}
use Rattle.client_pool.specs.declared.call.Call.TheVariants.{Entry, Look}
use Rattle.client_pool.specs.declared.client.Client.{Client}
use Rattle.client_pool.proofs.Tickets.{once}
use Rattle.client_pool.proofs.Weights.{call_is, call_self, found, read_is, read_self, same_call, same_read}

-- a call of a caller has the entry and the answer at its place in the caller's lists
call_item : (n : ℕ) (own : List Linked) (answers : List Answer) (i : ℕ) (t : AnsweredCall) → slice_get (calls_from n own answers) i ≡ Some t
    → (t.caller ≡ n) × (slice_get own i ≡ Some t.entry) × (slice_get answers i ≡ Some t.answer)
call_item n [] answers i t at = absurd (none-some t at)
call_item n (x ∷ own) [] i t at = absurd (none-some t at)
call_item n (x ∷ own) (a ∷ answers) zero t at =
    let same = same_Some _ t at in
    (sym (ap (λ (u : AnsweredCall). u.caller) same), ap (λ (u : AnsweredCall). Some u.entry) same, ap (λ (u : AnsweredCall). Some u.answer) same)
call_item n (x ∷ own) (a ∷ answers) (suc i) t at = call_item n own answers i t at

-- each entry in the list of a caller's own entries is that caller's, where the first of the history is and those after it are
own_first : (caller ticket : ℕ) (e : HistoryEntry) (rest : List HistoryEntry) (i : ℕ) (x : Linked) → e.caller ≡ caller → ((k : ℕ) → slice_get (own_of caller (ticket + 1) rest) k ≡ Some x → x.entry.caller ≡ caller)
    → slice_get (record { ticket = ticket; entry = e } ∷ own_of caller (ticket + 1) rest) i ≡ Some x → x.entry.caller ≡ caller
own_first caller ticket e rest zero x is next at = sym (ap (λ (y : Linked). y.entry.caller) (same_Some _ x at)) ∙ is
own_first caller ticket e rest (suc k) x is next at = next k at

own_caller : (caller ticket : ℕ) (history : List HistoryEntry) (i : ℕ) (x : Linked) → slice_get (own_of caller ticket history) i ≡ Some x → x.entry.caller ≡ caller
own_caller caller ticket [] i x at = absurd (none-some x at)
own_caller caller ticket (e ∷ rest) i x at =
    ⊎_elim
    (λ is. own_first caller ticket e rest i x is (λ k there. own_caller caller (ticket + 1) rest k x there) (subst (λ (os : List Linked). slice_get os i ≡ Some x) (own_mine caller ticket e rest is) at))
    (λ ne. own_caller caller (ticket + 1) rest i x (subst (λ (os : List Linked). slice_get os i ≡ Some x) (own_other caller ticket e rest ne) at))
    (cases_eq e.caller caller)

some_of : (o : Option Local) (y : Local) → option_map shown o ≡ Some y → (l : Local) × (o ≡ Some l) × (shown l ≡ y)
some_of None y same = absurd (none-some y same)
some_of (Some l) y same = (l, refl, same_Some (shown l) y same)

module _ {O : Type 0} (r : Running O) (instance : Instance) (handed : List Handed) (remains : Remains) (leaves : ClosingWitness r instance (seats_of handed) remains) where
  abbrev history : List HistoryEntry
  history = leaves.state.history

  -- what the closing leaves of the caller that was handed in at the index `i`
  pub record Behind (i : ℕ) (g : Handed) : Type 0 where
    pub local : Local
    pub there : slice_get leaves.whole i ≡ Some local
    pub ends : slice_get remains.trail.locals i ≡ Some (seat_of g).known.local
    pub is : shown local ≡ (seat_of g).known.local

  pub behind : (i : ℕ) (g : Handed) → slice_get handed i ≡ Some g → Behind i g
  behind i g at =
      let seats : slice_get (seats_of handed) i ≡ Some (seat_of g) = slice_get-map seat_of handed i ∙ ap (option_map seat_of) at in
      let known : slice_get (map (λ (s : Seated). s.known) (seats_of handed)) i ≡ Some (seat_of g).known = slice_get-map (λ (s : Seated). s.known) (seats_of handed) i ∙ ap (option_map (λ (s : Seated). s.known)) seats in
      let locals : slice_get (locals_of (seats_of handed)) i ≡ Some (seat_of g).known.local = slice_get-map (λ (k : Known). k.local) (map (λ (s : Seated). s.known) (seats_of handed)) i ∙ ap (option_map (λ (k : Known). k.local)) known in
      let l = some_of (slice_get leaves.whole i) (seat_of g).known.local (sym (slice_get-map shown leaves.whole i) ∙ ap (λ (ls : List Local). slice_get ls i) leaves.shows ∙ locals) in
      record { local = l.0; there = l.1; ends = ap (λ (ls : List Local). slice_get ls i) leaves.locals ∙ locals; is = l.2 }

  -- the answered call at `j` of the caller handed in at `i` is an entry of the history with its reply, and stands in that caller's lists at the end
  entry_here : (i : ℕ) (g : Handed) (j : ℕ) (t : AnsweredCall) → slice_get handed i ≡ Some g → slice_get (calls_of (seat_of g)) j ≡ Some t → IsEntryOf instance history t × IsCallersEntry remains.trail.locals t
  entry_here i g j t at there =
      let b = behind i g at in
      let l = b.local in
      let s = (seat_of g).known.local in
      let item = call_item s.number s.own s.answered j t there in
      let answered : slice_get l.answered j ≡ Some t.answer = ap (λ (x : Local). slice_get x.answered j) b.is ∙ item.2 in
      let own : slice_get l.own j ≡ Some t.entry = ap (λ (x : Local). slice_get x.own j) b.is ∙ item.1 in
      let is = reply_own instance history leaves.words leaves.whole i l leaves.state.answers b.there leaves.state.tickets j t.answer answered in
      let same : t.entry ≡ record { ticket = t.answer.ticket; entry = is.entry } = same_Some t.entry _ (sym own ∙ is.own) in
      let entry : is.entry ≡ t.entry.entry = sym (ap (λ (x : Linked). x.entry) same) in
      let mine = own_caller i instance.base.place history j t.entry (ap (λ (xs : List Linked). slice_get xs j) (sym (leaves.state.tickets.merged.own i l b.there)) ∙ own) in
      let number : s.number ≡ i = sym (ap (λ (x : Local). x.number) b.is) ∙ (leaves.state.shape.each i l b.there).number in (
        record {
          ticket = ap (λ (x : Linked). x.ticket) same;
          caller = mine ∙ sym number ∙ sym item.0;
          linked = subst (λ (e : HistoryEntry). IsLinked instance.base.place history t.answer.ticket e) entry is.linked;
          reply = is.reply ∙ ap (λ (e : HistoryEntry). reply_after instance history t.answer.ticket e.op) entry;
        },
        record {
          local = s;
          of_caller = ap (slice_get remains.trail.locals) (item.0 ∙ number) ∙ b.ends;
          index = j;
          own = item.1;
          answered = item.2;
        },
      )

  -- the read at `j` of the caller handed in at `i` has the reply of the history at its place, and stands in the list of some caller's reads
  read_here : (i : ℕ) (g : Handed) (j : ℕ) (x : SeenRead) → slice_get handed i ≡ Some g → slice_get (seat_of g).known.local.seen_reads j ≡ Some x → IsReadOf instance history x × IsCallersRead remains.trail.locals x
  read_here i g j x at there =
      let b = behind i g at in
      let l = b.local in
      let is = (leaves.state.answers.each i l b.there).reads j x (ap (λ (y : Local). slice_get y.seen_reads j) b.is ∙ there) in
      let within = durable_within instance history leaves.words leaves.whole leaves.state.shape.some (bounds_of instance (record { words = leaves.words; locals = leaves.whole }) leaves.state) in (
        record { from = is.from; to = omega (arith, within, is.durable); reply = is.reply },
        record { caller = i; local = (seat_of g).known.local; of_caller = b.ends; index = j; seen = there },
      )

  -- a call is the history's, and a caller's
  abbrev Stands : Call → Type 0
  Stands call = IsCallOf instance history call × IsCallersCall remains.trail.locals call

  entry_is : (t : AnsweredCall) → same_call t t ≤ total_weight (handed_calls (same_call t)) handed → Stands (Entry t)
  entry_is t most =
      let g = found (handed_calls (same_call t)) handed (let self = call_self t in omega (arith, self, most)) in
      let u = found (same_call t) (calls_of (seat_of g.1)) g.3 in
      subst (λ (x : AnsweredCall). Stands (Entry x)) (sym (call_is t u.1 u.3)) (entry_here g.0 g.1 u.0 u.1 g.2 u.2)

  read_is_one : (x : SeenRead) → same_read x x ≤ total_weight (handed_reads (same_read x)) handed → Stands (Look x)
  read_is_one x most =
      let g = found (handed_reads (same_read x)) handed (let self = read_self x in omega (arith, self, most)) in
      let u = found (same_read x) (seat_of g.1).known.local.seen_reads g.3 in
      subst (λ (y : SeenRead). Stands (Look y)) (sym (read_is x u.1 u.3)) (read_here g.0 g.1 u.0 u.1 g.2 u.2)

  one_client : (cs : List Call) → ((h : AnsweredCall → ℕ) → total_weight h (entries_called cs) ≤ total_weight (handed_calls h) handed) → ((h : SeenRead → ℕ) → total_weight h (reads_called cs) ≤ total_weight (handed_reads h) handed) → All Stands cs
  one_client [] entries reads = All-nil Stands
  one_client (Entry t ∷ cs) entries reads =
      All-cons Stands (Entry t) cs (entry_is t (let most = entries (same_call t) in omega (arith, most))) (one_client cs (λ h. (let most = entries h in omega (arith, most))) reads)
  one_client (Look x ∷ cs) entries reads =
      All-cons Stands (Look x) cs (read_is_one x (let most = reads (same_read x) in omega (arith, most))) (one_client cs entries (λ h. (let most = reads h in omega (arith, most))))

  all_clients : (calls : List (List Call)) → ((h : AnsweredCall → ℕ) → total_weight (λ (cs : List Call). total_weight h (entries_called cs)) calls ≤ total_weight (handed_calls h) handed)
      → ((h : SeenRead → ℕ) → total_weight (λ (cs : List Call). total_weight h (reads_called cs)) calls ≤ total_weight (handed_reads h) handed) → All (All Stands) calls
  all_clients [] entries reads = All-nil (All Stands)
  all_clients (cs ∷ calls) entries reads =
      All-cons (All Stands) cs calls
      (one_client cs (λ h. (let most = entries h in omega (arith, most))) (λ h. (let most = reads h in omega (arith, most))))
      (all_clients calls (λ h. (let most = entries h in omega (arith, most))) (λ h. (let most = reads h in omega (arith, most))))

-- the calls of callers stand in the one order of the closing, as the operations that they are
module _ {O : Type 0} (r : Running O) (instance : Instance) (handed : List Handed) (remains : Remains) (leaves : ClosingWitness r instance (seats_of handed) remains) (order : IsLinearizedBy leaves) where
  abbrev operations : List Operation
  operations = order.one_order.order

  -- the local state behind one of the trail
  whole_of : (caller : ℕ) (l : Local) → slice_get remains.trail.locals caller ≡ Some l → (w : Local) × (slice_get leaves.whole caller ≡ Some w) × (shown w ≡ l)
  whole_of caller l at = some_of (slice_get leaves.whole caller) l (sym (slice_get-map shown leaves.whole caller) ∙ ap (λ (ls : List Local). slice_get ls caller) (leaves.shows ∙ sym leaves.locals) ∙ at)

  pub stands_in : (call : Call) → IsCallersCall remains.trail.locals call → StandsIn remains.trail.locals operations call
  stands_in (Entry call) is =
      let w = whole_of call.caller is.local is.of_caller in
      let own : slice_get w.0.own is.index ≡ Some call.entry = ap (λ (x : Local). slice_get x.own is.index) w.2 ∙ is.own in
      (is, order.one_order.is.each (Update call.caller is.index) (w.0, w.1, slice_get_within w.0.own is.index call.entry own))
  stands_in (Look read) is =
      let w = whole_of is.caller is.local is.of_caller in
      let seen : slice_get w.0.seen_reads is.index ≡ Some read = ap (λ (x : Local). slice_get x.seen_reads is.index) w.2 ∙ is.seen in
      (is, order.one_order.is.each (Read is.caller is.index) (w.0, w.1, slice_get_within w.0.seen_reads is.index read seen))

  pub all_stand_in : (calls : List (List Call)) → All (All (IsCallersCall remains.trail.locals)) calls → All (All (StandsIn remains.trail.locals operations)) calls
  all_stand_in calls all = All-weaker (All (IsCallersCall remains.trail.locals)) (All (StandsIn remains.trail.locals operations)) (λ cs all. All-weaker (IsCallersCall remains.trail.locals) (StandsIn remains.trail.locals operations) (λ call is. stands_in call is) cs all) calls all

-- what clients were told are the entries of their calls, and what they were shown has their reads
module _ {O : Type 0} (r : Running O) where
  pub weighs : (h : AnsweredCall → ℕ) (clients : List Client) (calls : List (List Call)) → AllZip (HasCalls r) clients calls → total_weight (λ (cs : List Call). total_weight h (entries_called cs)) calls ≡ total_weight (lent_calls h) (lents_of clients)
  weighs h [] [] are = refl
  weighs h [] (cs ∷ calls) are = absurd are
  weighs h (c ∷ clients) [] are = absurd are
  weighs h (c ∷ clients) (cs ∷ calls) are = (let here = ap (total_weight h) are.0.told_calls in let rest = weighs h clients calls are.1 in omega (arith, here, rest))

  reads_weigh_ : (h : SeenRead → ℕ) (clients : List Client) (calls : List (List Call)) → AllZip (HasCalls r) clients calls → total_weight (λ (cs : List Call). total_weight h (reads_called cs)) calls ≤ total_weight (lent_reads h) (lents_of clients)
  reads_weigh_ h [] [] are = omega arith
  reads_weigh_ h [] (cs ∷ calls) are = absurd are
  reads_weigh_ h (c ∷ clients) [] are = absurd are
  reads_weigh_ h (c ∷ clients) (cs ∷ calls) are = (let here = are.0.shown h in let rest = reads_weigh_ h clients calls are.1 in omega (arith, here, rest))

  in_turn : (clients : List Client) (calls : List (List Call)) → AllZip (HasCalls r) clients calls → All (AreInTurn r.base.place) calls
  in_turn [] [] are = All-nil (AreInTurn r.base.place)
  in_turn [] (cs ∷ calls) are = absurd are
  in_turn (c ∷ clients) [] are = absurd are
  in_turn (c ∷ clients) (cs ∷ calls) are = All-cons (AreInTurn r.base.place) cs calls are.0.in_turn (in_turn clients calls are.1)

  -- all that closing tells of the calls of clients
  pub are_answered : (instance : Instance) (handed : List Handed) (remains : Remains) (clients : List Client) → instance.base.place ≡ r.base.place → ClosingWitness r instance (seats_of handed) remains → AreCallsTold r (lents_of clients) handed
      → (calls : List (List Call)) → AllZip (HasCalls r) clients calls → AreAnswered instance remains.trail.history remains.trail.locals calls
  are_answered instance handed remains clients place leaves are_told calls are =
      let entries = λ (h : AnsweredCall → ℕ). (let all = are_told.calls h in let here = weighs h clients calls are in let most : total_weight (λ (cs : List Call). total_weight h (entries_called cs)) calls ≤ total_weight (handed_calls h) handed = omega (arith, all, here) in most) in
      let reads = λ (h : SeenRead → ℕ). (let all = are_told.reads h in let here = reads_weigh_ h clients calls are in let most : total_weight (λ (cs : List Call). total_weight h (reads_called cs)) calls ≤ total_weight (handed_reads h) handed = omega (arith, all, here) in most) in
      let stands : Call → Type 0 = λ call. IsCallOf instance leaves.state.history call × IsCallersCall remains.trail.locals call in
      let all = all_clients r instance handed remains leaves calls entries reads in
      record {
        each = subst (λ (history : List HistoryEntry). All (All (IsCallOf instance history)) calls) leaves.history (All-weaker (All stands) (All (IsCallOf instance leaves.state.history)) (λ cs all. All-weaker stands (IsCallOf instance leaves.state.history) (λ call both. both.0) cs all) calls all);
        callers = All-weaker (All stands) (All (IsCallersCall remains.trail.locals)) (λ cs all. All-weaker stands (IsCallersCall remains.trail.locals) (λ call both. both.1) cs all) calls all;
        once = λ ticket. (let most = entries (λ (t : AnsweredCall). one_at ticket t.entry.ticket) in let one = once ticket r.base.place remains.trail.history handed leaves.merged in omega (arith, most, one));
        in_turn = subst (λ (p : ℕ). All (AreInTurn p) calls) (sym place) (in_turn clients calls are);
      }
