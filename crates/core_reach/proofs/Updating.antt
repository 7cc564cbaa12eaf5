-- Updates to their answers.
use Rattle.std.proofs.Common.{◌≡◌, ◌∙◌, ◌+◌, ◌-◌, ◌^◌, ◌<◌, ◌≤◌, inl, inr, ℕ, suc, List, [], ◌∷◌, ◌++◌, Option, None, Some, length, map, ap, refl, sym, arith}
use Rattle.std.proofs.lemmas.Bool.{cases_eq}
use Rattle.std.proofs.lemmas.List.Elements.{All-cons}
use Rattle.std.proofs.lemmas.Option.{slice_get_within}
use Rattle.std.specs.List.{slice_get}
use Rattle.core_reach.proofs.KnownCells.{known_opening, known_run}
use Rattle.core_reach.proofs.Linking.{cell_written, idle_up, links, looks}
use Rattle.core_reach.proofs.OpeningCells.{opens}
use Rattle.core_reach.proofs.Settling.{answered_all, settles}
use Rattle.core_reach.proofs.Steps.{Here, Reached, andthen, stay}
use Rattle.core_reach.specs.Reaching.{AreOpWords, HasCellAndTicket, ReachesAnswers, ReachesUpdate, answer_to, history_in, entry_linked_next, next_ticket}
use Rattle.core_replica.proofs.OwnLaws.{own_linked}
use Rattle.core_runs.proofs.Keeps.{opening_lawful, run_kept}
use Rattle.cx_base.specs.Memory.{Words}
use Rattle.cx_core.proofs.MergeLemmas.{history_is, own_mine, own_other}
use Rattle.cx_core.specs.Events.{Run}
use Rattle.cx_core.specs.Free.{HoldsNone}
use Rattle.cx_core.specs.Lawful.{Lawful}
use Rattle.cx_core.specs.Merge.{own_of}
use Rattle.cx_core.specs.QueueEvents.{IsIdle, IsIdleAt, cell_of, next_number}
use Rattle.cx_core.specs.Region.{place_of, slot_number}
use Rattle.cx_core.specs.State.{Instance, State, opening_state}
use Rattle.cx_core.specs.declared.entry.Entry.{Entry}
use Rattle.cx_core.specs.declared.kinds.Event.{Event}
use Rattle.cx_core.specs.declared.local.Linked.{Linked}
use Rattle.cx_core.specs.declared.local.Local.{Local}

-- a caller has the entries `own`, each is answered, and it holds no replica
pub record Answered (own : List Linked) (l : Local) : Type 0 where
  pub linked : l.own ≡ own
  pub all : length l.answered ≡ length l.own
  pub rests : HoldsNone l

-- from a lawful state in which a caller has the entries `own`, some run leads to one in which each is answered, and it holds no replica
is_answered : (instance : Instance) (caller : ℕ) (history : List Entry) (own : List Linked) (s : State) (l : Local) → Here instance caller history s l → l.own ≡ own → 0 < length instance.base.words →
    Reached instance caller history s (λ _ l'. Answered own l')
is_answered instance caller history own s l here same some =
    andthen instance caller s history history (settles instance caller history s l here some) (λ s1 l1 here1 settled.
    stay instance caller s1 l1 history here1 (let end : Answered own l1 = record { linked = settled.same.own ∙ same; all = settled.all; rests = settled.rests } in end))

-- where some run answers each entry of a caller, each has the answer that the history gives
answers : (instance : Instance) (s : State) (caller : ℕ) (history : List Entry) (own : List Linked) → Reached instance caller history s (λ _ l'. Answered own l') → ReachesAnswers instance s caller history own
answers instance s caller history own run = record {
  events = run.events;
  to = run.to;
  ran = run.ran;
  of_history = run.here.of_history;
  after = run.after;
  of_caller = run.here.at;
  linked = run.holds.linked;
  answered = answered_all instance caller history run.to run.after run.here run.holds.all ∙ ap (map (answer_to instance history)) run.holds.linked;
  rests = run.holds.rests;
}

-- from a lawful state over a base with words, some run answers each linked entry of a caller, and leaves the history as it is
pub reaches_answers : (instance : Instance) (s : State) (caller : ℕ) (l : Local) → Lawful instance s → slice_get s.locals caller ≡ Some l → 0 < length instance.base.words →
    ReachesAnswers instance s caller (history_in instance s) l.own
reaches_answers instance s caller l law at some =
    let history = history_in instance s in
    answers instance s caller history l.own (is_answered instance caller history l.own s l (record { law = law; at = at; of_history = refl }) refl some)

-- a caller has no more entries in a history than the history has; `ticket` is the one of the first entry
own_short : (caller ticket : ℕ) (history : List Entry) → length (own_of caller ticket history) ≤ length history
own_short caller ticket [] = omega arith
own_short caller ticket (e ∷ es) =
    let rest = own_short caller (ticket + 1) es in
    elim (cases_eq e.caller caller) [
      | inl mine ↦ omega (arith, rest, ap length (own_mine caller ticket e es mine))
      | inr other ↦ omega (arith, rest, ap length (own_other caller ticket e es other))
    ]

-- the number of a caller's next entry is below 2^64, where its number in the base is at most the base's place
number_small : (instance : Instance) (s : State) (caller : ℕ) (l : Local) → Lawful instance s → slice_get s.locals caller ≡ Some l → slot_number caller instance.base.words ≤ instance.base.place →
    next_number instance.base l < 2 ^ 64
number_small instance s caller l law at numbered =
    let short = own_short caller instance.base.place law.history in
    let own = ap length (law.tickets.merged.own caller l at) in
    let mine = ap (λ n. slot_number n instance.base.words) (law.shape.each caller l at).number in
    let below = law.tickets.below in
    omega (arith, short, own, mine, below, numbered)

-- from a lawful state with a cell and a ticket for it (`room`), some run answers an update: the caller is settled, its cells are opened, and the
-- entry is written into cell `j`, linked and answered. `x` is the entry with its ticket, `longer` the history with it. `idle`: cell `j` may be
-- written; `same_number`: the number written is still the caller's next one; `all`: each of its entries is answered before the link.
pub reaches_update : (instance : Instance) (s : State) (caller : ℕ) (l : Local) (op : List ℕ) → Lawful instance s → slice_get s.locals caller ≡ Some l → HasCellAndTicket instance s l →
    0 < length instance.base.words → slot_number caller instance.base.words ≤ instance.base.place → AreOpWords op → ReachesUpdate instance s caller l op
reaches_update instance s caller l op law at room some numbered op_words =
    let history = history_in instance s in
    let number = next_number instance.base l in
    let j = room.cell in
    let x : Linked = entry_linked_next instance s caller l op in
    let longer = history ++ x.entry ∷ [] in
    let own = l.own ++ x ∷ [] in
    let small = number_small instance s caller l law at numbered in
    let fit : Words 145 (number ∷ op) = record { long = ap suc op_words.long; fit = All-cons (λ w. w < 2 ^ 64) number op small op_words.fit } in
    let here : Here instance caller history s l = record { law = law; at = at; of_history = refl } in
    let end_ = next_ticket instance s in
    answers instance s caller longer own
    (andthen instance caller s history longer (settles instance caller history s l here some) (λ s0 l0 here0 settled.
    andthen instance caller s0 history longer (opens instance caller history s0 l0 end_ here0 settled.seen (omega (arith, room.ticket))) (λ s1 l1 here1 swept.
    let idle : IsIdle l1 j = idle_up end_ l1.seen_free (cell_of l1 j).ticket swept.free (rw (swept.quiet.cells, settled.same.cells) room.known) in
    andthen instance caller s1 history longer (cell_written instance caller history s1 l1 here1 j room.within idle (number ∷ op) fit) (λ s2 l2 here2 writing.
    andthen instance caller s2 history longer (looks instance caller history l1 j room.within (number ∷ op) fit s2 l2 here2 writing) (λ s3 l3 here3 ended.
    let mine : l3.number ≡ l.number = (here3.law.shape.each caller l3 here3.at).number ∙ sym (law.shape.each caller l at).number in
    let before : l1.own ≡ l.own = swept.quiet.own ∙ settled.same.own in
    let same : l3.own ≡ l.own = ended.own ∙ before in
    let same_number : number ≡ next_number instance.base l3 =
    ap (λ n. slot_number n instance.base.words + length l.own + 1) (sym mine) ∙ ap (λ (xs : List Linked). slot_number l3.number instance.base.words + length xs + 1) (sym same) in
    let all : length l3.answered ≡ length l3.own = ap length (ended.answered ∙ swept.quiet.answered) ∙ settled.all ∙ ap length (sym (ended.own ∙ swept.quiet.own)) in
    andthen instance caller s3 longer longer (links instance caller history l1 j room.within number op op_words.long s3 l3 here3 ended same_number room.ticket all) (λ s4 l4 here4 linked.
    is_answered instance caller longer own s4 l4 here4 (linked ∙ ap (λ (xs : List Linked). xs ++ x ∷ []) before) some))))))

-- from a state that a run reaches from the opening one, over a base at its place whose numbers are at most that place, some run answers an update of
-- any caller, where there is a further ticket. It takes cell 0, which has no ticket, or one of the caller's own entries (`knows`), and so one of the
-- history (`known`).
pub reaches_every : (instance : Instance) (events : List Event) (s : State) (caller : ℕ) (l : Local) (op : List ℕ) → 1 ≤ instance.callers → instance.callers ≤ 8 → instance.base.place ≤ 2 ^ 40 →
    place_of instance.base.words ≡ instance.base.place → 0 < length instance.base.words → ((c : ℕ) → c < 8 → slot_number c instance.base.words ≤ instance.base.place) →
    Run instance (opening_state instance.callers instance.base) events s → slice_get s.locals caller ≡ Some l → next_ticket instance s < 2 ^ 40 → AreOpWords op → ReachesUpdate instance s caller l op
reaches_every instance events s caller l op one few place placed some numbers run at ticket op_words =
    let opening = opening_state instance.callers instance.base in
    let law = run_kept instance opening events s (opening_lawful instance one few place placed) run in
    let below : caller < 8 = omega (arith, slice_get_within s.locals caller l at, law.shape.count, few) in
    let knows = known_run instance events opening s (known_opening instance) run caller l at in
    let room : HasCellAndTicket instance s l = record {
      cell = 0;
      within = omega arith;
      known = known_idle (next_ticket instance s) (cell_of l 0).ticket (λ t is. (
          let own = knows.each 0 t is in
          let linked = own_linked instance law.history s.locals caller l law.tickets at own.i own.entry own.at in
          let within = slice_get_within law.history (own.entry.ticket - instance.base.place) own.entry.entry linked.1 in
          let same = ap length (history_is instance.base.place law.history s.locals law.tickets.merged) in
          omega (arith, linked.0, within, same, own.is)));
      ticket = ticket;
    } in
    reaches_update instance s caller l op law at room some (numbers caller below) op_words
  where
    -- a cell without a ticket, or with one below `end_`, may be written where FREE is `end_`; `o` is its ticket, if any
    known_idle : (end_ : ℕ) (o : Option ℕ) → ((t : ℕ) → o ≡ Some t → t < end_) → IsIdleAt end_ o
    known_idle end_ None below = tt
    known_idle end_ (Some t) below = below t refl
