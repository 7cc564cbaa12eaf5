-- The part on tickets.
use Rattle.std.proofs.Common.{◌≡◌, ◌≢◌, ◌+◌, ◌^◌, ◌<◌, ◌≤◌, ℕ, nat_lt, true, false, cond, All, List, [], ◌∷◌, ◌++◌, length, map, take, set, slice_range, inl, inr, refl, ap, sym, subst, ◌∙◌, arith, Option, Some, None, length-append}
use Rattle.std.proofs.lemmas.List.{append-nil, length-set, length-map, length-take-le, map-append, take-append-le, take_more}
use Rattle.std.proofs.lemmas.List.Elements.{All-tail, All-take}
use Rattle.std.proofs.lemmas.Option.{get_or_from_slice_get, slice_get-map, slice_get_within}
use Rattle.std.specs.List.{slice_get}
use Rattle.std.specs.Option.{option_map}
use Rattle.cx_base.specs.Memory.{Words}
use Rattle.cx_core.specs.declared.entry.Entry.{Entry}
use Rattle.cx_core.specs.declared.local.Answer.{Answer}
use Rattle.cx_core.specs.declared.local.Linked.{Linked}
use Rattle.cx_core.specs.declared.local.Local.{Local}
use Rattle.cx_core.specs.QueueEvents.{CanLink, cell_of, entry_in, linked}
use Rattle.cx_core.specs.RootEvents.{answers_below, reply_after, unanswered}
use Rattle.cx_core.specs.Lawful.{CellShape, OwnTickets, Tickets}
use Rattle.cx_core.specs.Merge.{own_of}
use Rattle.cx_core.specs.Region.{slot_number}
use Rattle.cx_core.specs.State.{Instance}
use Rattle.cx_core.proofs.Locals.{EachLocal-set, item_after, own_of-other, own_of-push, own_of-same, slice_get-push}

own_same : (instance : Instance) (caller : ℕ) (l l' : Local) → OwnTickets instance caller l → l'.own ≡ l.own → l'.answered ≡ l.answered → OwnTickets instance caller l'
own_same instance caller l l' old own answered = record {
  numbers = λ i x at. old.numbers i x (subst (λ o. slice_get o i ≡ Some x) own at);
  ops = λ i x at. old.ops i x (subst (λ o. slice_get o i ≡ Some x) own at);
  answered = rw (own, answered) old.answered;
  one = rw (own, answered) old.one;
}

-- a local state put with the own list as before
tickets_put : (instance : Instance) (history : List Entry) (locals : List Local) (caller : ℕ) (l l' : Local) → Tickets instance history locals →
    slice_get locals caller ≡ Some l → l'.own ≡ l.own → OwnTickets instance caller l' → Tickets instance history (set locals caller l')
tickets_put instance history locals caller l l' tickets at own here = record {
  merged = record {
    own = EachLocal-set locals caller l l' (λ c x. x.own ≡ own_of c instance.base.place history) at tickets.merged.own (own ∙ tickets.merged.own caller l at);
    of_callers = λ i entry there. subst (λ n. entry.caller < n) (sym (length-set locals caller l')) (tickets.merged.of_callers i entry there);
  };
  below = tickets.below;
  each = EachLocal-set locals caller l l' (OwnTickets instance) at tickets.each here;
}

-- the framing law: tickets name no shared word, and of a local state the own list and the answers
pub tickets_framed : (instance : Instance) (history : List Entry) (locals : List Local) (caller : ℕ) (l l' : Local) → Tickets instance history locals →
    slice_get locals caller ≡ Some l → l'.own ≡ l.own → l'.answered ≡ l.answered → Tickets instance history (set locals caller l')
tickets_framed instance history locals caller l l' tickets at own answered =
    tickets_put instance history locals caller l l' tickets at own (own_same instance caller l l' (tickets.each caller l at) own answered)

-- the operation in a cell is 144 words
op_words : (ws : List ℕ) → length ws ≡ 145 → All (λ w. w < 2 ^ 64) ws → Words 144 (slice_range ws 1 145)
op_words [] long fit = absurd (omega arith)
op_words (x ∷ xs) long fit = record {
  long = length-take-le 144 xs (omega arith);
  fit = All-take (λ w. w < 2 ^ 64) 144 xs (All-tail (λ w. w < 2 ^ 64) x xs fit);
}

-- the own list and the answers after a link that won
own_linked : (instance : Instance) (caller : ℕ) (l : Local) (j : ℕ) → OwnTickets instance caller l → l.number ≡ caller → CellShape (cell_of l j) →
    CanLink instance.callers instance.base l j → OwnTickets instance caller (linked l j)
own_linked instance caller l j old number cell guard = record {
  numbers = λ i x at. elim (slice_get-push l.own (record { ticket = l.front; entry = entry_in l j }) i x at) [
    | inl a ↦ old.numbers i x a
    | inr b ↦ (
        let is : (entry_in l j).number ≡ x.entry.number = ap (λ (y : Linked). y.entry.number) b.1 in
        let named : (entry_in l j).number ≡ slot_number l.number instance.base.words + length l.own + 1 = guard.2 in
        sym is ∙ named ∙ ap (λ n. slot_number n instance.base.words + length l.own + 1) number ∙ ap (λ n. slot_number caller instance.base.words + n + 1) (sym b.0))
  ];
  ops = λ i x at. elim (slice_get-push l.own (record { ticket = l.front; entry = entry_in l j }) i x at) [
    | inl a ↦ old.ops i x a
    | inr b ↦ subst (λ (y : Linked). Words 144 y.entry.op) b.1 (op_words (cell_of l j).words cell.words cell.fit)
  ];
  answered = (
      let tickets = λ (x : Linked). x.ticket in
      let enough : length l.answered ≤ length (map tickets l.own) = omega (arith, length-map l.own tickets, guard.5) in
      old.answered
      ∙ sym (take-append-le (length l.answered) (map tickets l.own) (l.front ∷ []) enough)
      ∙ ap (take (length l.answered)) (sym (map-append tickets l.own (record { ticket = l.front; entry = entry_in l j } ∷ []))));
  one = (let same : length l.answered ≡ length l.own = guard.5 in simp length-append (omega arith));
}

-- a link that won at the end of the history
pub tickets_linked : (instance : Instance) (history : List Entry) (locals : List Local) (caller : ℕ) (l : Local) (j : ℕ) → Tickets instance history locals →
    slice_get locals caller ≡ Some l → l.number ≡ caller → CellShape (cell_of l j) → CanLink instance.callers instance.base l j → l.front ≡ instance.base.place + length history →
    Tickets instance (history ++ entry_in l j ∷ []) (set locals caller (linked l j))
tickets_linked instance history locals caller l j tickets at number cell guard end =
    let place = instance.base.place in
    let entry = entry_in l j in
    let l' = linked l j in
    record {
      merged = record {
        own = λ other x there. elim (item_after locals caller other l' x (slice_get_within locals caller l at) there) [
          | inl e ↦ (
              let is : x.own ≡ l.own ++ record { ticket = l.front; entry = entry } ∷ [] = ap (λ (y : Local). y.own) (sym e.1) in
              is
              ∙ ap (λ o. o ++ record { ticket = l.front; entry = entry } ∷ []) (tickets.merged.own caller l at)
              ∙ ap (λ t. own_of caller place history ++ record { ticket = t; entry = entry } ∷ []) end
              ∙ ap (λ o. own_of caller place history ++ o) (sym (own_of-same caller (place + length history) entry number))
              ∙ sym (own_of-push caller place history entry)
              ∙ ap (λ n. own_of n place (history ++ entry ∷ [])) (sym e.0))
          | inr ne ↦ (
              let apart : entry.caller ≢ other = λ same. ne.0 (sym same ∙ number) in
              tickets.merged.own other x ne.1
              ∙ sym (append-nil (own_of other place history))
              ∙ ap (λ o. own_of other place history ++ o) (sym (own_of-other other (place + length history) entry apart))
              ∙ sym (own_of-push other place history entry))
        ];
        of_callers = λ i x there. subst (λ n. x.caller < n) (sym (length-set locals caller l')) (
            elim (slice_get-push history entry i x there) [
              | inl a ↦ tickets.merged.of_callers i x a
              | inr b ↦ subst (λ n. n < length locals) (sym number ∙ ap (λ (y : Entry). y.caller) b.1) (slice_get_within locals caller l at)
            ]);
      };
      below = (let low : l.front < 2 ^ 40 = guard.3 in simp length-append (omega arith));
      each = EachLocal-set locals caller l l' (OwnTickets instance) at tickets.each (own_linked instance caller l j (tickets.each caller l at) number cell guard);
    }

-- the tickets of the answers after a raise are those of the first own entries still
answered_on : (instance : Instance) (history : List Entry) (place : ℕ) (l : Local) (next : Option Linked) → slice_get l.own (length l.answered) ≡ next →
    map (λ (x : Answer). x.ticket) l.answered ≡ take (length l.answered) (map (λ (x : Linked). x.ticket) l.own) →
    map (λ (x : Answer). x.ticket) (l.answered ++ answers_below instance history place next)
    ≡ take (length (l.answered ++ answers_below instance history place next)) (map (λ (x : Linked). x.ticket) l.own)
answered_on instance history place l None at old =
    subst (λ (given : List Answer). map (λ (x : Answer). x.ticket) given ≡ take (length given) (map (λ (x : Linked). x.ticket) l.own)) (sym (append-nil l.answered)) old
answered_on instance history place l (Some x) at old =
    let ticket = λ (y : Linked). y.ticket in
    let tickets = map ticket l.own in
    let answer : Answer = record { ticket = x.ticket; reply = reply_after instance history x.ticket x.entry.op } in
    let P : List Answer → Type 0 = λ given. map (λ (y : Answer). y.ticket) given ≡ take (length given) tickets in
    elim (nat_lt x.ticket place) as (λ b. P (l.answered ++ cond b (answer ∷ []) [])) [
      | true ↦ (
          let n = length l.answered in
          let within : n < length tickets = omega (arith, slice_get_within l.own n x at, length-map l.own ticket) in
          let there : slice_get tickets n ≡ Some x.ticket = slice_get-map ticket l.own n ∙ ap (λ o. option_map ticket o) at in
          map-append (λ (y : Answer). y.ticket) l.answered (answer ∷ [])
          ∙ ap (λ ts. ts ++ x.ticket ∷ []) old
          ∙ ap (λ t. take n tickets ++ t ∷ []) (sym (get_or_from_slice_get tickets n x.ticket 0 there))
          ∙ sym (take_more tickets n 0 within)
          ∙ ap (λ m. take m tickets) (sym (length-append l.answered (answer ∷ []))))
      | false ↦ subst P (sym (append-nil l.answered)) old
    ]

-- the part on tickets after a raise
pub tickets_raised : (instance : Instance) (history entries : List Entry) (locals : List Local) (caller place : ℕ) (l l' : Local) → Tickets instance history locals →
    slice_get locals caller ≡ Some l → l'.own ≡ l.own → l'.answered ≡ l.answered ++ answers_below instance entries place (unanswered l) →
    Tickets instance history (set locals caller l')
tickets_raised instance history entries locals caller place l l' tickets at own answered =
    let old = tickets.each caller l at in
    tickets_put instance history locals caller l l' tickets at own (record {
      numbers = λ i x there. old.numbers i x (subst (λ o. slice_get o i ≡ Some x) own there);
      ops = λ i x there. old.ops i x (subst (λ o. slice_get o i ≡ Some x) own there);
      answered = rw (own, answered) (answered_on instance entries place l (unanswered l) refl old.answered);
      one = rw (own, answered) (let few = old.one in simp length-append (omega arith));
    })
