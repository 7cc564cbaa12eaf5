-- No closed service leaves a client whose caller found no further ticket while commands are left, or that was answered with words of no reply.
use Rattle.std.proofs.Common.{◌≡◌, ◌∙◌, ◌+◌, ◌-◌, ◌<◌, ◌≤◌, ℕ, zero, suc, List, [], ◌∷◌, Some, ap, arith, length, length-append, refl, slice_get, subst, sym}
use Rattle.std.specs.Prelude.{All}
use Rattle.std.proofs.lemmas.Option.{none-some, same_Some}
use Rattle.cx_core.specs.Base.{LawfulBase}
use Rattle.cx_core.specs.Lawful.{Lawful}
use Rattle.cx_core.specs.Merge.{all_own}
use Rattle.cx_core.specs.State.{Instance, State}
use Rattle.cx_core.specs.declared.entry.Entry.{Entry as HistoryEntry}
use Rattle.cx_core.specs.declared.local.Local.{Local}
use Rattle.cx_lives.proofs.Images.{reply_at_is}
use Rattle.cx_lives.proofs.Lists.{all_at}
use Rattle.cx_lives.proofs.Totals.{entries_fewer}
use Rattle.client_pool.specs.Answers.{IsCallOf}
use Rattle.client_pool.specs.Clients.{entries_called}
use Rattle.client_pool.specs.declared.call.Call.{Call}
use Rattle.client_pool.specs.declared.call.Call.TheVariants.{Entry, Look}
use Rattle.life_records.proofs.TypedSteps.{TypedSteps}
use Rattle.life_records.specs.Records.{AreOfNoReply, OpHasWords, Life}
use Rattle.life_records.specs.Scripts.{own_ops}
use Rattle.pool_lives.proofs.Ghosts.{own_long}
use Rattle.pool_lives.specs.Ghosts.{local_of, locals_from}
use Rattle.pool_lives.specs.Working.{IsBadCall, op_of, reply_of}
use Rattle.seat_pool.specs.Pooling.{total_weight}

module _ {Op Reply Store : Type 0} (t : TypedSteps Op Reply Store) (instance : Instance) (step_is : instance.step ≡ t.step) (base : LawfulBase t.lines t.lawful instance.base) (s : State) (law : Lawful instance s) where
  not_bad : (calls : List Call) → IsBadCall t.meaning calls → All (IsCallOf instance law.history) calls → ⊥
  not_bad calls b all = at_call b.call (all_at (IsCallOf instance law.history) calls b.place b.call all b.there) b.is b.bad
    where
      at_call : (call : Call) → IsCallOf instance law.history call → OpHasWords t.meaning (op_of call) b.op → AreOfNoReply t.meaning (reply_of call) → ⊥
      at_call (Entry answered) is op bad = reply_at_is t instance step_is base s law (answered.answer.ticket - instance.base.place) answered.entry.entry.op b.op op (subst (AreOfNoReply t.meaning) is.reply bad)
      at_call (Look read) is op bad = reply_at_is t instance step_is base s law (read.place - instance.base.place) read.op b.op op (subst (AreOfNoReply t.meaning) is.reply bad)

  pub no_bad_call : (history : List HistoryEntry) → law.history ≡ history → (calls : List Call) → IsBadCall t.meaning calls → All (IsCallOf instance history) calls → ⊥
  no_bad_call history same calls b all = not_bad calls b (subst (λ (h : List HistoryEntry). All (IsCallOf instance h) calls) (sym same) all)

-- the lists of one client among those of the clients from `client` on
pub local_there : (client : ℕ) (calls : List (List Call)) (i : ℕ) (own : List Call) → slice_get calls i ≡ Some own → slice_get (locals_from client calls) i ≡ Some (local_of (client + i) own)
local_there client [] i own at = absurd (none-some own at)
local_there client (cs ∷ calls) zero own at = (let same : client ≡ client + 0 = omega arith in ap (λ (xs : List Call). Some (local_of client xs)) (same_Some cs own at) ∙ ap (λ n. Some (local_of n own)) same)
local_there client (cs ∷ calls) (suc i) own at = (let same : client + 1 + i ≡ client + suc i = omega arith in local_there (client + 1) calls i own at ∙ ap (λ n. Some (local_of n own)) same)

pub local_back : (client : ℕ) (calls : List (List Call)) (i : ℕ) (l : Local) → slice_get (locals_from client calls) i ≡ Some l → (own : List Call) × (slice_get calls i ≡ Some own) × (local_of (client + i) own ≡ l)
local_back client [] i l at = absurd (none-some l at)
local_back client (cs ∷ calls) zero l at = (let same : client + 0 ≡ client = omega arith in (cs, refl, ap (λ n. local_of n cs) same ∙ same_Some (local_of client cs) l at))
local_back client (cs ∷ calls) (suc i) l at =
    let same : client + suc i ≡ client + 1 + i = omega arith in
    let rest = local_back (client + 1) calls i l at in
    (rest.0, rest.1, ap (λ n. local_of n rest.0) same ∙ rest.2)

-- the lists of all clients have as many entries together as there are entries among all their calls
pub all_long : (client : ℕ) (calls : List (List Call)) → length (all_own (locals_from client calls)) ≡ total_weight (λ (cs : List Call). length (entries_called cs)) calls
all_long client [] = refl
all_long client (cs ∷ calls) =
    let l = local_of client cs in
    omega (arith, length-append l.own (all_own (locals_from (client + 1) calls)), own_long client cs, all_long (client + 1) calls)

-- where one client has fewer entries than commands, all clients together have fewer
pub fewer_in_all : {Op : Type 0} (life : Life Op) (calls : List (List Call)) (number : ℕ) (own : List Call) → ((i : ℕ) (cs : List Call) → slice_get calls i ≡ Some cs → length (entries_called cs) ≤ length (own_ops i life.commands)) → slice_get calls number ≡ Some own
    → length (entries_called own) < length (own_ops number life.commands) → total_weight (λ (cs : List Call). length (entries_called cs)) calls < length life.commands
fewer_in_all life calls number own few at less =
    let locals = locals_from 0 calls in
    let zero_ : 0 + number ≡ number = omega arith in
    let there : slice_get locals number ≡ Some (local_of number own) = local_there 0 calls number own at ∙ ap (λ n. Some (local_of n own)) zero_ in
    let all : (i : ℕ) (l : Local) → slice_get locals i ≡ Some l → length l.own ≤ length (own_ops (0 + i) life.commands) = λ i l got. (
    let back = local_back 0 calls i l got in
    let long : length l.own ≡ length (entries_called back.0) = ap (λ (x : Local). length x.own) (sym back.2) ∙ own_long (0 + i) back.0 in
    let here : 0 + i ≡ i = omega arith in
    let most : length (entries_called back.0) ≤ length (own_ops (0 + i) life.commands) = subst (λ k. length (entries_called back.0) ≤ length (own_ops k life.commands)) (sym here) (few i back.0 back.1) in
    omega (arith, long, most)) in
    let long = own_long number own in
    let fewer = entries_fewer life.commands locals number (local_of number own) all there (omega (arith, long, less)) in
    omega (arith, fewer, all_long 0 calls)
