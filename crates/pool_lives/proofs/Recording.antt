-- What the closing of a pool tells of its clients' lines.
use Rattle.std.proofs.Common.{◌≡◌, ◌∙◌, ◌+◌, ◌-◌, ◌<◌, ◌≤◌, inl, inr, ℕ, zero, suc, List, [], ◌∷◌, None, Some, ap, arith, filter, length, map, refl, slice_get, subst, sym}
use Rattle.std.specs.Prelude.{All, Contains}
use Rattle.std.specs.Option.{option_map}
use Rattle.std.proofs.lemmas.List.Elements.{All-cons, All-contains, All-head, All-nil, All-tail, Contains-get_or}
use Rattle.std.proofs.lemmas.Option.{get_or_from_slice_get, none-some, same_Some, slice_get-map, slice_get_within}
use Rattle.cx_core.specs.State.{Instance}
use Rattle.cx_core.specs.declared.entry.Entry.{Entry as HistoryEntry}
use Rattle.cx_core.specs.declared.local.Local.{Local}
use Rattle.cx_core.specs.declared.local.SeenRead.{SeenRead}
use Rattle.cx_lives.proofs.Lists.{all_at}
use Rattle.client_pool.proofs.Weights.{found, one_is}
use Rattle.client_pool.specs.Answers.{AreAnswered, AreWhole, IsCallOf, IsCallersCall, answers_at}
use Rattle.client_pool.specs.Clients.{AreInTurn as InTurn, entries_called, next_place_of, answer_place_of}
use Rattle.client_pool.specs.declared.call.Call.{Call}
use Rattle.client_pool.specs.declared.call.Call.TheVariants.{Entry, Look}
use Rattle.life_records.proofs.Lists.{Has, filter_has, has_contains, has_get, zip_has}
use Rattle.life_records.specs.Lives.{ClientAnswer, answers_of}
use Rattle.life_records.specs.Records.{JournalLine, Life, Meaning, ReadLine}
use Rattle.life_records.specs.Works.{IsLineOf, by_entry}
use Rattle.pool_lives.proofs.InTurn.{line_behind}
use Rattle.pool_lives.specs.Recorded.{AreAnswersInTurn, AreOfCallers, HaveTickets, IsCallersAnswer, IsEntryOfSomeCaller, IsReadOfSomeCaller}
use Rattle.pool_lives.proofs.Impossible.{all_long, local_back, local_there}
use Rattle.pool_lives.specs.Gathering.{HaveLines, IsLineAt}
use Rattle.pool_lives.specs.Ghosts.{answer_of, as_own, local_of, locals_from, seen_from}
use Rattle.seat_pool.specs.Gathering.{one_at}
use Rattle.seat_pool.specs.declared.hand.AnsweredCall.{AnsweredCall}

contains_at : {X : Type 0} (xs : List X) (i : ℕ) (x : X) → slice_get xs i ≡ Some x → Contains xs x
contains_at xs i x at = subst (Contains xs) (get_or_from_slice_get xs i x x at) (Contains-get_or xs i x (slice_get_within xs i x at))

-- what a client was answered is of callers
module _ (instance : Instance) (history : List HistoryEntry) (locals : List Local) (client : ℕ) where
  entries_are : (calls : List Call) → All (IsCallersCall locals) calls → All (IsEntryOfSomeCaller locals) (map (as_own client) (entries_called calls))
  entries_are [] all = All-nil (IsEntryOfSomeCaller locals)
  entries_are (Entry answered ∷ calls) all =
      let is = All-head (IsCallersCall locals) (Entry answered) calls all in
      All-cons (IsEntryOfSomeCaller locals) (as_own client answered) (map (as_own client) (entries_called calls)) (record { caller = answered.caller; local = is.local; of_caller = is.of_caller; entry = answered.entry; there = contains_at is.local.own is.index answered.entry is.own; ticket = refl; op = refl })
      (entries_are calls (All-tail (IsCallersCall locals) (Entry answered) calls all))
  entries_are (Look read ∷ calls) all = entries_are calls (All-tail (IsCallersCall locals) (Look read) calls all)

  answers_are : (calls : List Call) → All (IsCallOf instance history) calls → All (IsCallersCall locals) calls → All (IsCallersAnswer locals) (map answer_of (entries_called calls))
  answers_are [] each all = All-nil (IsCallersAnswer locals)
  answers_are (Entry answered ∷ calls) each all =
      let is = All-head (IsCallersCall locals) (Entry answered) calls all in
      let call = All-head (IsCallOf instance history) (Entry answered) calls each in
      All-cons (IsCallersAnswer locals) (answer_of answered) (map answer_of (entries_called calls)) (record { caller = answered.caller; local = is.local; of_caller = is.of_caller; there = contains_at is.local.answered is.index answered.answer is.answered; entry = answered.entry; linked = contains_at is.local.own is.index answered.entry is.own; at = call.ticket })
      (answers_are calls (All-tail (IsCallOf instance history) (Entry answered) calls each) (All-tail (IsCallersCall locals) (Entry answered) calls all))
  answers_are (Look read ∷ calls) each all = answers_are calls (All-tail (IsCallOf instance history) (Look read) calls each) (All-tail (IsCallersCall locals) (Look read) calls all)

  reads_are : (before : ℕ) (calls : List Call) → All (IsCallersCall locals) calls → All (IsReadOfSomeCaller locals) (seen_from before calls)
  reads_are before [] all = All-nil (IsReadOfSomeCaller locals)
  reads_are before (Entry answered ∷ calls) all = reads_are (before + 1) calls (All-tail (IsCallersCall locals) (Entry answered) calls all)
  reads_are before (Look read ∷ calls) all =
      let is = All-head (IsCallersCall locals) (Look read) calls all in
      let x : SeenRead = record { place = read.place; op = read.op; reply = read.reply; before = before } in
      All-cons (IsReadOfSomeCaller locals) x (seen_from before calls) (record { caller = is.caller; local = is.local; of_caller = is.of_caller; read = read; there = contains_at is.local.seen_reads is.index read is.seen; place = refl; op = refl; reply = refl })
      (reads_are before calls (All-tail (IsCallersCall locals) (Look read) calls all))

  are_callers : (calls : List Call) → All (IsCallOf instance history) calls → All (IsCallersCall locals) calls → AreOfCallers locals (local_of client calls)
  are_callers calls each all = record { entries = entries_are calls all; answers = answers_are calls each all; reads = reads_are 0 calls all }

-- the place below which no later answer holds is at or above that of the answer itself
next_from : (call : Call) → answer_place_of call ≤ next_place_of call
next_from (Entry answered) = omega arith
next_from (Look read) = omega arith

attempt_from : (floor : ℕ) (calls : List Call) (j : ℕ) (b : Call) → InTurn floor calls → slice_get calls j ≡ Some b → floor ≤ answer_place_of b
attempt_from floor [] j b turn at = absurd (none-some b at)
attempt_from floor (c ∷ calls) zero b turn at = subst (λ x. floor ≤ answer_place_of x) (same_Some c b at) turn.0
attempt_from floor (c ∷ calls) (suc j) b turn at = (let rest = attempt_from (next_place_of c) calls j b turn.1 at in let next = next_from c in omega (arith, turn.0, next, rest))

turns : (floor : ℕ) (calls : List Call) (i j : ℕ) (a b : Call) → InTurn floor calls → i < j → slice_get calls i ≡ Some a → slice_get calls j ≡ Some b → next_place_of a ≤ answer_place_of b
turns floor [] i j a b turn up at there = absurd (none-some a at)
turns floor (c ∷ calls) i zero a b turn up at there = absurd (omega (arith, up))
turns floor (c ∷ calls) zero (suc j) a b turn up at there = subst (λ x. next_place_of x ≤ answer_place_of b) (same_Some c a at) (attempt_from (next_place_of c) calls j b turn.1 there)
turns floor (c ∷ calls) (suc i) (suc j) a b turn up at there = turns (next_place_of c) calls i j a b turn.1 (omega (arith, up)) at there

module _ {Op Reply Store : Type 0} (m : Meaning Op Reply Store) (life : Life Op) (calls : List (List Call)) (entries : List (JournalLine Reply)) (reads : List (ReadLine Reply)) (lines : HaveLines m life calls entries reads) where
  -- an answer is that of the call behind its command
  answer_at : (a : ClientAnswer) → Contains (answers_of entries reads) a → IsLineAt calls a.client a.command a.at a.next
  answer_at a there = elim (line_behind entries reads a there) [
    | inl e ↦ subst (λ (x : ClientAnswer). IsLineAt calls x.client x.command x.at x.next) (sym e.3)
        (All-contains (λ (line : JournalLine Reply). IsLineAt calls line.client line.command line.ticket (line.ticket + 1)) entries e.0 lines.entries_at (has_contains entries e.0 e.1))
    | inr r ↦ subst (λ (x : ClientAnswer). IsLineAt calls x.client x.command x.at x.next) (sym r.2)
        (All-contains (λ (line : ReadLine Reply). IsLineAt calls line.client line.command line.place line.place) reads r.0 lines.reads_at (has_contains reads r.0 r.1))
  ]

  module _ (instance : Instance) (history : List HistoryEntry) (locals : List Local) (answered : AreAnswered instance history locals calls) (whole : AreWhole instance.base.place history calls) where
    pub in_turn : AreAnswersInTurn (answers_of entries reads)
    in_turn a b first second same up =
        let x = answer_at a first in
        let y = answer_at b second in
        let own : x.own ≡ y.own = same_Some x.own y.own (sym x.of_client ∙ ap (slice_get calls) same ∙ y.of_client) in
        let turn = all_at (InTurn instance.base.place) calls b.client y.own answered.in_turn y.of_client in
        let there : slice_get y.own (a.command - 1) ≡ Some x.is.call = ap (λ (cs : List Call). slice_get cs (a.command - 1)) (sym own) ∙ x.is.there in
        let less = turns instance.base.place y.own (a.command - 1) (b.command - 1) x.is.call y.is.call turn (omega (arith, x.is.some, up)) there y.is.there in
        omega (arith, less, x.is.behind, y.is.place)

    pub callers_are : (client : ℕ) (l : Local) → slice_get (locals_from 0 calls) client ≡ Some l → AreOfCallers locals l
    callers_are client l at =
        let back = local_back 0 calls client l at in
        subst (AreOfCallers locals) back.2
        (are_callers instance history locals (0 + client) back.0 (all_at (All (IsCallOf instance history)) calls client back.0 answered.each back.1) (all_at (All (IsCallersCall locals)) calls client back.0 answered.callers back.1))

    pub entries_long : length entries ≡ length history
    entries_long = omega (arith, lines.works.long, all_long 0 calls, whole.count)

    pub has_tickets : HaveTickets instance.base.place (length history) entries
    has_tickets i below =
        let place = instance.base.place in
        let ticket = place + i in
        let all = whole.all ticket (omega arith) (omega (arith, below)) in
        let c = found (answers_at ticket) calls (omega (arith, all)) in
        let t = found (λ (call : AnsweredCall). one_at ticket call.entry.ticket) (entries_called c.1) c.3 in
        let same : ticket ≡ t.1.entry.ticket = one_is ticket t.1.entry.ticket t.3 in
        let k = 0 + c.0 in
        let l = local_of k c.1 in
        let at : slice_get (locals_from 0 calls) c.0 ≡ Some l = local_there 0 calls c.0 c.1 c.2 in
        let x = as_own k t.1 in
        let own : Has l.own x = has_get l.own t.0 x (slice_get-map (as_own k) (entries_called c.1) t.0 ∙ ap (option_map (as_own k)) t.2) in
        let y = zip_has (IsLineOf m.encoding life c.0 l.answered None) l.own (filter (by_entry c.0) entries) x (lines.works.each c.0 l at).entry_lines own in
        (y.0, has_contains entries y.0 (filter_has (by_entry c.0) entries y.0 y.1), y.2.ticket ∙ sym same)
