-- What is told of a caller that is given back or kept.
use Rattle.std.proofs.Common.{◌≡◌, ◌≤◌, ◌⊎◌, inl, inr, ⊎_elim, ℕ, List, [], ◌∷◌, ◌++◌, append_assoc, drop, length, sym, refl, ap, ◌∙◌, subst, arith}
use Rattle.std.proofs.Math.Seq.{drop-append_seam}
use Rattle.std.proofs.lemmas.List.{append-nil}
use Rattle.std.proofs.lemmas.List.Elements.{All-nil, All-push}
use Rattle.cx_core.specs.declared.local.Answer.{Answer}
use Rattle.cx_core.specs.declared.local.Linked.{Linked}
use Rattle.cx_core.specs.declared.local.SeenRead.{SeenRead}
use Rattle.table_invariant.specs.Running.{Running}
use Rattle.table_invariant.specs.Seats.{Seated}
use Rattle.cx_service.specs.Callers.{IsCallerOf, IsStoppedOf, StoppedSeat}
use Rattle.cx_service.specs.Lookups.{ReadHalted}
use Rattle.cx_service.specs.Submits.{next_entry}
use Rattle.cx_service.specs.Updates.{HaltsLinked, HaltsUnlinked, UpdateDone, UpdateHalted}
use Rattle.cx_service.specs.declared.close.Handed.TheVariants.{Idle, Stopped}
use Rattle.seat_pool.specs.Gathering.{Gathers, IsHandedOf, StaysIdle}
use Rattle.seat_pool.specs.Pooling.{IsFirstOf, call_with, calls_from, calls_of, given_from, told_calls_after_giving, total_weight, with_given}
use Rattle.seat_pool.specs.declared.hand.LenderPass.{LenderPass}
use Rattle.seat_pool.specs.declared.hand.AnsweredCall.{AnsweredCall}
use Rattle.seat_pool.proofs.Poolings.{total_both}

-- where each own entry is answered, one entry `x` more with its answer `a` is one answered call more, behind the others
one_more_call : (n : ℕ) (own : List Linked) (answers : List Answer) (x : Linked) (a : Answer) → length own ≡ length answers → calls_from n (own ++ x ∷ []) (answers ++ a ∷ []) ≡ calls_from n own answers ++ call_with n x a ∷ []
one_more_call n [] [] x a same = refl
one_more_call n [] (b ∷ answers) x a same = absurd (omega (arith, same))
one_more_call n (y ∷ own) [] x a same = absurd (omega (arith, same))
one_more_call n (y ∷ own) (b ∷ answers) x a same = ap (λ (l : List AnsweredCall). call_with n y b ∷ l) (one_more_call n own answers x a (omega (arith, same)))

-- an entry without an answer is no answered call
no_more_calls : (n : ℕ) (own : List Linked) (answers : List Answer) (x : Linked) → length own ≡ length answers → calls_from n (own ++ x ∷ []) answers ≡ calls_from n own answers
no_more_calls n [] [] x same = refl
no_more_calls n [] (b ∷ answers) x same = absurd (omega (arith, same))
no_more_calls n (y ∷ own) [] x same = absurd (omega (arith, same))
no_more_calls n (y ∷ own) (b ∷ answers) x same = ap (λ (l : List AnsweredCall). call_with n y b ∷ l) (no_more_calls n own answers x (omega (arith, same)))

-- a list is the first ones and what is behind them
behind : {A : Type 0} (xs ys more : List A) → ys ≡ xs ++ more → ys ≡ xs ++ drop (length xs) ys
behind xs ys more are = are ∙ ap (λ l. xs ++ l) (sym (ap (drop (length xs)) are ∙ drop-append_seam xs more))

-- the calls of a caller are those of its lists
pub same_calls : (s : Seated) (n : ℕ) (own : List Linked) (answers : List Answer) → s.known.local.number ≡ n → s.known.local.own ≡ own → s.known.local.answered ≡ answers → calls_of s ≡ calls_from n own answers
same_calls s n own answers number own_is answers_are =
    ap (λ k. calls_from k s.known.local.own s.known.local.answered) number ∙ ap (λ l. calls_from n l s.known.local.answered) own_is ∙ ap (λ l. calls_from n own l) answers_are

module _ {O : Type 0} (r : Running O) where
  grown : (op : List ℕ) (before after : Seated) (answer : Answer) → IsCallerOf r before → UpdateDone r op before after answer
      → calls_of after ≡ calls_of before ++ call_with before.known.local.number (next_entry r before.known.local op answer.ticket) answer ∷ []
  grown op before after answer is done =
      let e = next_entry r before.known.local op answer.ticket in
      let n = before.known.local.number in
      let same : length before.known.local.own ≡ length before.known.local.answered = (let c = is.count in omega (arith, c)) in
      same_calls after n (before.known.local.own ++ e ∷ []) (before.known.local.answered ++ answer ∷ []) done.links.number done.links.own done.answered
      ∙ one_more_call n before.known.local.own before.known.local.answered e answer same

  -- a caller that an update answered is given back: the pass is told of the update's entry with its answer, and of no other call
  pub are_told : (op : List ℕ) (taken before after : Seated) (rest : List Seated) (answer : Answer) (v : LenderPass) → v.held ≡ taken ∷ rest → StaysIdle r taken before → UpdateDone r op before after answer
      → IsFirstOf v.held after × (told_calls_after_giving v after ≡ v.told_calls ++ call_with before.known.local.number (next_entry r before.known.local op answer.ticket) answer ∷ [])
  are_told op taken before after rest answer v holds idle done =
      let t = call_with before.known.local.number (next_entry r before.known.local op answer.ticket) answer in
      let more : calls_of after ≡ calls_of taken ++ t ∷ [] = grown op before after answer idle.caller done ∙ ap (λ (l : List AnsweredCall). l ++ t ∷ []) idle.calls in
      let new : drop (length (calls_of taken)) (calls_of after) ≡ t ∷ [] = ap (drop (length (calls_of taken))) more ∙ drop-append_seam (calls_of taken) (t ∷ []) in (
        subst (λ l. IsFirstOf l after) (sym holds) (record {
          number = done.links.number ∙ idle.number;
          limit = done.links.limit ∙ idle.limit;
          calls = more ∙ ap (λ l. calls_of taken ++ l) (sym new);
          reads = behind taken.known.local.seen_reads after.known.local.seen_reads idle.more (done.links.reads ∙ idle.reads);
        }),
        ap (λ l. (given_from v l after).told_calls) holds ∙ ap (λ l. v.told_calls ++ l) new,
      )

  -- a caller without answered calls since it was taken is given back
  pub are_shown : (taken now : Seated) (rest : List Seated) (v : LenderPass) → v.held ≡ taken ∷ rest → (idle : StaysIdle r taken now) → IsFirstOf v.held now × (told_calls_after_giving v now ≡ v.told_calls) × ((with_given v now).shown ≡ v.shown ++ idle.more)
  are_shown taken now rest v holds idle =
      let none : drop (length (calls_of taken)) (calls_of now) ≡ [] = ap (drop (length (calls_of taken))) (idle.calls ∙ sym (append-nil (calls_of taken))) ∙ drop-append_seam (calls_of taken) [] in
      let new : drop (length taken.known.local.seen_reads) now.known.local.seen_reads ≡ idle.more = ap (drop (length taken.known.local.seen_reads)) idle.reads ∙ drop-append_seam taken.known.local.seen_reads idle.more in (
        subst (λ l. IsFirstOf l now) (sym holds) (record {
          number = idle.number;
          limit = idle.limit;
          calls = behind (calls_of taken) (calls_of now) [] (idle.calls ∙ sym (append-nil (calls_of taken)));
          reads = behind taken.known.local.seen_reads now.known.local.seen_reads idle.more idle.reads;
        }),
        ap (λ l. (given_from v l now).told_calls) holds ∙ ap (λ l. v.told_calls ++ l) none ∙ append-nil v.told_calls,
        ap (λ l. (given_from v l now).shown) holds ∙ ap (λ l. v.shown ++ l) new,
      )

  -- a caller without answered calls since it was taken may be kept by its client
  pub idle_kept : (taken now : Seated) → StaysIdle r taken now → Gathers r (taken ∷ []) (Idle now ∷ [])
  idle_kept taken now idle = record {
    of = All-push (IsHandedOf r) [] (Idle now) (All-nil (IsHandedOf r)) idle.caller;
    numbers = λ h. (let same : h now.known.local.number ≡ h taken.known.local.number = ap h idle.number in omega (arith, same));
    untold = [];
    calls = λ h. (let same : total_weight h (calls_of now) ≡ total_weight h (calls_of taken) = ap (total_weight h) idle.calls in omega (arith, same));
    few = λ h. omega arith;
    reads = λ h. (let same : total_weight h now.known.local.seen_reads ≡ total_weight h (taken.known.local.seen_reads ++ idle.more) = ap (total_weight h) idle.reads in omega (arith, same, total_both h taken.known.local.seen_reads idle.more));
  }

  -- a stopped caller may be kept, with at most one answered call of which nobody was told, and with reads that nobody was shown
  stopped : (taken : Seated) (s : StoppedSeat) (untold : List AnsweredCall) (reads : List SeenRead) → IsStoppedOf r s.seat → s.seat.known.local.number ≡ taken.known.local.number → calls_of s.seat ≡ calls_of taken ++ untold
      → s.seat.known.local.seen_reads ≡ taken.known.local.seen_reads ++ reads → ((h : ℕ → ℕ) → total_weight (λ (t : AnsweredCall). h t.caller) untold ≤ h s.seat.known.local.number) → Gathers r (taken ∷ []) (Stopped s ∷ [])
  stopped taken s untold reads is number calls seen few = record {
    of = All-push (IsHandedOf r) [] (Stopped s) (All-nil (IsHandedOf r)) is;
    numbers = λ h. (let same : h s.seat.known.local.number ≡ h taken.known.local.number = ap h number in omega (arith, same));
    untold = untold;
    calls = λ h. (let same : total_weight h (calls_of s.seat) ≡ total_weight h (calls_of taken ++ untold) = ap (total_weight h) calls in omega (arith, same, total_both h (calls_of taken) untold));
    few = λ h. (let most = few h in omega (arith, most));
    reads = λ h. (let same : total_weight h s.seat.known.local.seen_reads ≡ total_weight h (taken.known.local.seen_reads ++ reads) = ap (total_weight h) seen in omega (arith, same, total_both h taken.known.local.seen_reads reads));
  }

  module _ (op : List ℕ) (taken before : Seated) (s : StoppedSeat) (idle : StaysIdle r taken before) where
    abbrev n : ℕ
    n = before.known.local.number

    same : length before.known.local.own ≡ length before.known.local.answered
    same = (let c = idle.caller.count in omega (arith, c))

    none : (reads : List SeenRead) → IsStoppedOf r s.seat → s.seat.known.local.number ≡ n → calls_of s.seat ≡ calls_of before → s.seat.known.local.seen_reads ≡ before.known.local.seen_reads ++ reads → Gathers r (taken ∷ []) (Stopped s ∷ [])
    none reads is number calls seen =
        stopped taken s [] (idle.more ++ reads) is (number ∙ idle.number) (calls ∙ idle.calls ∙ sym (append-nil (calls_of taken)))
        (seen ∙ ap (λ (l : List SeenRead). l ++ reads) idle.reads ∙ append_assoc taken.known.local.seen_reads idle.more reads) (λ h. omega arith)

    still : s.seat.known.local.seen_reads ≡ before.known.local.seen_reads → s.seat.known.local.seen_reads ≡ before.known.local.seen_reads ++ []
    still seen = seen ∙ sym (append-nil before.known.local.seen_reads)

    unlinked_ : UpdateHalted r op before s → HaltsUnlinked r op before s → Gathers r (taken ∷ []) (Stopped s ∷ [])
    unlinked_ halted u = none [] halted.caller halted.number (same_calls s.seat n before.known.local.own before.known.local.answered halted.number u.keeps.own u.keeps.answered) (still u.keeps.reads)

    linked_ : UpdateHalted r op before s → HaltsLinked r op before s → Gathers r (taken ∷ []) (Stopped s ∷ [])
    linked_ halted l =
        let e = next_entry r before.known.local op l.ticket in
        ⊎_elim
        (λ a. none [] halted.caller halted.number (same_calls s.seat n (before.known.local.own ++ e ∷ []) before.known.local.answered halted.number l.links.own a ∙ no_more_calls n before.known.local.own before.known.local.answered e same) (still l.links.reads))
        (λ a.
        let answer : Answer = record { ticket = l.ticket; reply = a.0 } in
        let t = call_with n e answer in
        stopped taken s (t ∷ []) idle.more halted.caller (halted.number ∙ idle.number)
        (same_calls s.seat n (before.known.local.own ++ e ∷ []) (before.known.local.answered ++ answer ∷ []) halted.number l.links.own a.1 ∙ one_more_call n before.known.local.own before.known.local.answered e answer same
        ∙ ap (λ (m : List AnsweredCall). m ++ t ∷ []) idle.calls)
        (l.links.reads ∙ idle.reads)
        (λ h. (let number_ : h s.seat.known.local.number ≡ h n = ap h halted.number in omega (arith, number_))))
        l.answered

    looked_ : ReadHalted r op before s → Gathers r (taken ∷ []) (Stopped s ∷ [])
    looked_ halted =
        let calls = same_calls s.seat n before.known.local.own before.known.local.answered halted.keeps.number halted.keeps.own halted.keeps.answered in
        ⊎_elim
        (λ a. none [] halted.caller halted.keeps.number calls (still a))
        (λ a. none (record { place = a.0; op = op; reply = a.1; before = length before.known.local.answered } ∷ []) halted.caller halted.keeps.number calls a.2)
        halted.reads

  -- a caller that an update or a read stopped may be kept by its client
  pub are_kept : (op : List ℕ) (taken before : Seated) (s : StoppedSeat) → StaysIdle r taken before → UpdateHalted r op before s ⊎ ReadHalted r op before s → Gathers r (taken ∷ []) (Stopped s ∷ [])
  are_kept op taken before s idle (inl halted) = ⊎_elim (unlinked_ op taken before s idle halted) (linked_ op taken before s idle halted) halted.lists
  are_kept op taken before s idle (inr halted) = looked_ op taken before s idle halted
