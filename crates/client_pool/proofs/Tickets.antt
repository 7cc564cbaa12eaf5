-- No ticket is that of two entries of a history.
use Rattle.std.proofs.Common.{◌≡◌, ◌≤◌, ◌+◌, ⊎_elim, ℕ, suc, List, [], ◌∷◌, length, sym, refl, ap, ◌∙◌, arith, Some, slice_get}
use Rattle.std.specs.List.{range_with_len}
use Rattle.std.proofs.lemmas.Bool.{cases_eq}
use Rattle.cx_core.proofs.MergeLemmas.{own_mine, own_other}
use Rattle.cx_core.specs.Merge.{IsHistory, own_of}
use Rattle.cx_core.specs.declared.entry.Entry.{Entry as HistoryEntry}
use Rattle.cx_core.specs.declared.local.Answer.{Answer}
use Rattle.cx_core.specs.declared.local.Linked.{Linked}
use Rattle.cx_core.specs.declared.local.Local.{Local}
use Rattle.cx_service.specs.Closes.{seat_of, seats_of}
use Rattle.cx_service.specs.declared.close.Handed.{Handed}
use Rattle.cx_table.specs.Remains.{locals_of}
use Rattle.seat_pool.specs.Gathering.{handed_calls, one_at}
use Rattle.seat_pool.specs.Pooling.{calls_from, total_weight}
use Rattle.seat_pool.specs.declared.hand.AnsweredCall.{AnsweredCall}
use Rattle.seat_pool.proofs.Orderings.{one_else}
use Rattle.client_pool.proofs.Weights.{both_of, one_self, single}

-- how many of a caller's own entries have the ticket `k`
abbrev owns : ℕ → List Linked → ℕ
owns k own = total_weight (λ (x : Linked). one_at k x.ticket) own

calls_within : (k n : ℕ) (own : List Linked) (answers : List Answer) → total_weight (λ (t : AnsweredCall). one_at k t.entry.ticket) (calls_from n own answers) ≤ owns k own
calls_within k n [] answers = omega arith
calls_within k n (x ∷ own) [] = omega arith
calls_within k n (x ∷ own) (a ∷ answers) = (let rest = calls_within k n own answers in omega (arith, rest))

handed_within : (k : ℕ) (handed : List Handed) → total_weight (handed_calls (λ (t : AnsweredCall). one_at k t.entry.ticket)) handed ≤ total_weight (λ (l : Local). owns k l.own) (locals_of (seats_of handed))
handed_within k [] = omega arith
handed_within k (g ∷ handed) =
    (let here = calls_within k (seat_of g).known.local.number (seat_of g).known.local.own (seat_of g).known.local.answered in let rest = handed_within k handed in omega (arith, here, rest))

none_more : (xs : List ℕ) → total_weight (λ (c : ℕ). 0) xs ≡ 0
none_more [] = refl
none_more (x ∷ xs) = (let rest = none_more xs in omega (arith, rest))

-- the first entry of a history is one caller's
module _ (k ticket : ℕ) (e : HistoryEntry) (rest : List HistoryEntry) where
  abbrev mine : ℕ → ℕ
  mine c = both_of (one_at e.caller c) (one_at k ticket)

  first : (c : ℕ) → owns k (own_of c ticket (e ∷ rest)) ≡ mine c + owns k (own_of c (ticket + 1) rest)
  first c =
      ⊎_elim (λ is. (
      let all = ap (owns k) (own_mine c ticket e rest is) in
      let one : mine c ≡ one_at k ticket = ap (λ n. both_of n (one_at k ticket)) (ap (one_at e.caller) (sym is) ∙ one_self e.caller) in
      omega (arith, all, one)))
      (λ ne. (
      let all = ap (owns k) (own_other c ticket e rest ne) in
      let none : mine c ≡ 0 = ap (λ n. both_of n (one_at k ticket)) (one_else e.caller c (λ is. ne (sym is))) in
      omega (arith, all, none)))
      (cases_eq e.caller c)

  firsts : (cs : List ℕ) → total_weight (λ c. owns k (own_of c ticket (e ∷ rest))) cs ≡ total_weight mine cs + total_weight (λ c. owns k (own_of c (ticket + 1) rest)) cs
  firsts [] = refl
  firsts (c ∷ cs) = (let here = first c in let more = firsts cs in omega (arith, here, more))

  few : (a n : ℕ) → total_weight mine (range_with_len a n) ≤ one_at k ticket
  few a n =
      single mine e.caller (one_at k ticket) a n
      (λ c ne. ap (λ m. both_of m (one_at k ticket)) (one_else e.caller c ne))
      (let one : mine e.caller ≡ one_at k ticket = ap (λ m. both_of m (one_at k ticket)) (one_self e.caller) in omega (arith, one))

-- the `n` callers from `a` on own, of a history from `ticket` on, at most as many entries with the ticket `k` as there are tickets `k` in it
by_history : (k a n ticket : ℕ) (history : List HistoryEntry) → total_weight (λ c. owns k (own_of c ticket history)) (range_with_len a n) ≤ total_weight (one_at k) (range_with_len ticket (length history))
by_history k a n ticket [] = (let none = none_more (range_with_len a n) in omega (arith, none))
by_history k a n ticket (e ∷ rest) =
    (let all = firsts k ticket e rest (range_with_len a n) in let here = few k ticket e rest a n in let more = by_history k a n (ticket + 1) rest in omega (arith, all, here, more))

by_locals : (k a place : ℕ) (history : List HistoryEntry) (locals : List Local) → ((i : ℕ) (l : Local) → slice_get locals i ≡ Some l → l.own ≡ own_of (a + i) place history)
    → total_weight (λ (l : Local). owns k l.own) locals ≡ total_weight (λ c. owns k (own_of c place history)) (range_with_len a (length locals))
by_locals k a place history [] own = refl
by_locals k a place history (l ∷ locals) own =
    let zero_ : a + 0 ≡ a = omega arith in
    let here : owns k l.own ≡ owns k (own_of a place history) = ap (owns k) (own 0 l refl ∙ ap (λ c. own_of c place history) zero_) in
    let rest = by_locals k (a + 1) place history locals (λ i m at. (let next : a + suc i ≡ a + 1 + i = omega arith in own (suc i) m at ∙ ap (λ c. own_of c place history) next)) in
    omega (arith, here, rest)

pub once : (k place : ℕ) (history : List HistoryEntry) (handed : List Handed) → IsHistory place history (locals_of (seats_of handed)) → total_weight (handed_calls (λ (t : AnsweredCall). one_at k t.entry.ticket)) handed ≤ 1
once k place history handed merged =
    let locals = locals_of (seats_of handed) in
    let within = handed_within k handed in
    let all = by_locals k 0 place history locals (λ i l at. (let same : 0 + i ≡ i = omega arith in merged.own i l at ∙ ap (λ c. own_of c place history) (sym same))) in
    let most = by_history k 0 (length locals) place history in
    let one = single (one_at k) k 1 place (length history) (λ c ne. one_else k c ne) (let self = one_self k in omega (arith, self)) in
    omega (arith, within, all, most, one)
