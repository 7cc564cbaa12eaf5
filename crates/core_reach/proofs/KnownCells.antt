-- In each state that a run reaches from the opening one, the ticket of a caller's cell is one of the caller's entries.
use Rattle.std.proofs.Common.{◌≡◌, ◌∙◌, ◌==◌, ◌⊎◌, inl, inr, ℕ, nat_lt, cond, List, [], ◌∷◌, None, Some, length, get_or, replicate, set, ap, refl, sym, subst, arith}
use Rattle.std.proofs.lemmas.Bool.{cases_eq, cases_lt}
use Rattle.std.proofs.lemmas.List.{get_or-replicate, get_or-set_other, get_or-set_same, get_or_past, length-replicate, length-set}
use Rattle.std.proofs.lemmas.Option.{none-some, same_Some}
use Rattle.cx_core.proofs.ListLemmas.{slice_get-append_left}
use Rattle.cx_core.proofs.Locals.{EachLocal-set, slice_get-last}
use Rattle.cx_core.proofs.Putting.{either}
use Rattle.cx_core.proofs.StateLemmas.{opening_at}
use Rattle.cx_core.specs.Events.{Makes, Run, local_after, next}
use Rattle.cx_core.specs.LockEvents.{exclusive_mark, passing, refused_by, shared_by, taken}
use Rattle.cx_core.specs.Merge.{scene_of}
use Rattle.cx_core.specs.QueueEvents.{cell_of, entry_in, linked, lost, seen_word}
use Rattle.cx_core.specs.Rights.{is_at, shared_on}
use Rattle.cx_core.specs.RootEvents.{outrun, published}
use Rattle.cx_core.specs.SetEvents.{HasTicket, offer_of}
use Rattle.cx_core.specs.State.{EachLocal, Instance, Scene, State, blank_cell, one_more, opening_state}
use Rattle.cx_core.specs.declared.kinds.Event.{Event}
use Rattle.cx_core.specs.declared.kinds.Kind.{Kind}
use Rattle.cx_core.specs.declared.kinds.Kind.TheVariants.{BackOff, Link, Offer, Publish, TryExclusive, TryShared, WriteCell, WriteSet}
use Rattle.cx_core.specs.declared.local.Cell.{Cell}
use Rattle.cx_core.specs.declared.local.Linked.{Linked}
use Rattle.cx_core.specs.declared.local.Local.{Local}

-- each cell of `l` that has a ticket has that of one of its own entries
pub record Knows (l : Local) : Type 0 where
  pub each : (k ticket : ℕ) → (cell_of l k).ticket ≡ Some ticket → HasTicket l.own ticket

-- where `l'` has the cells of `l` with `cell` put at `j`, each of its cells `k` is `cell`, or as in `l`. `blank` stands for a cell past the last one.
put_cases : (l l' : Local) (j k : ℕ) (cell : Cell) → l'.cells ≡ set l.cells j cell → (cell_of l' k ≡ cell) ⊎ (cell_of l' k ≡ cell_of l k)
put_cases l l' j k cell cells =
    let blank : Cell = record { words = []; ticket = None; set = []; offer = 0 } in
    let is : cell_of l' k ≡ get_or (set l.cells j cell) k blank = ap (λ cs. get_or cs k blank) cells in
    elim (cases_eq k j) [
      -- the cell at `j`: it is put where the list has a cell `j`
      | inl e ↦ elim (cases_lt j (length l.cells)) [
        | inl within ↦ inl (is ∙ ap (λ n. get_or (set l.cells j cell) n blank) e ∙ get_or-set_same l.cells j cell blank within)
        | inr past ↦ inr (is ∙ get_or_past (set l.cells j cell) k blank (omega (arith, e, length-set l.cells j cell)) ∙ sym (get_or_past l.cells k blank (omega (arith, e))))
      ]
      -- another cell
      | inr ne ↦ inr (is ∙ get_or-set_other l.cells j k cell blank ne)
    ]

-- where each cell with a ticket has that of an own entry (`Knows l`), that stays so with the same cells and own entries
same_known : (l l' : Local) → Knows l → l'.own ≡ l.own → l'.cells ≡ l.cells → Knows l'
same_known l l' knows own cells = record {
  each = λ k ticket is. (
      let blank : Cell = record { words = []; ticket = None; set = []; offer = 0 } in
      let same : cell_of l' k ≡ cell_of l k = ap (λ (cs : List Cell). get_or cs k blank) cells in
      subst (λ xs. HasTicket xs ticket) (sym own) (knows.each k ticket (ap (λ (c : Cell). c.ticket) (sym same) ∙ is)));
}

-- where each cell with a ticket has that of an own entry (`Knows l`), that stays so after a cell is put that has no ticket, or one of an own entry
put_known : (l l' : Local) (j : ℕ) (cell : Cell) → Knows l → l'.own ≡ l.own → l'.cells ≡ set l.cells j cell → ((ticket : ℕ) → cell.ticket ≡ Some ticket → HasTicket l.own ticket) → Knows l'
put_known l l' j cell knows own cells here = record {
  each = λ k ticket is. subst (λ xs. HasTicket xs ticket) (sym own) (elim (put_cases l l' j k cell cells) [
    -- this cell is the one put, so its ticket is known by `here`
    | inl e ↦ here ticket (ap (λ (c : Cell). c.ticket) (sym e) ∙ is)
    -- this cell is as it was
    | inr e ↦ knows.each k ticket (ap (λ (c : Cell). c.ticket) (sym e) ∙ is)
  ]);
}

-- where each cell with a ticket has that of an own entry (`Knows l`), that stays so after the entry in cell `j` is linked. `x` is that entry with its
-- ticket.
link_known : (l : Local) (j : ℕ) → Knows l → Knows (linked l j)
link_known l j knows = record {
  each = λ k ticket is. (
      let x : Linked = record { ticket = l.front; entry = entry_in l j } in
      let cell : Cell = record (cell_of l j) { ticket = Some l.front } in
      elim (put_cases l (linked l j) j k cell refl) [
        -- the cell linked has the front as its ticket, which is that of the last own entry now
        | inl e ↦ (
            let same : l.front ≡ ticket = same_Some l.front ticket (ap (λ (c : Cell). c.ticket) (sym e) ∙ is) in
            record { i = length l.own; entry = x; at = slice_get-last l.own x; is = same })
        -- the cell is as it was, and its ticket that of an earlier own entry
        | inr e ↦ (
            let old = knows.each k ticket (ap (λ (c : Cell). c.ticket) (sym e) ∙ is) in
            record { i = old.i; entry = old.entry; at = slice_get-append_left l.own (x ∷ []) old.i old.entry old.at; is = old.is })
      ]);
}

-- where each cell with a ticket has that of an own entry (`Knows l`), that stays so after a step of any kind; `found` is the word that the step finds
known_next : (instance : Instance) (scene : Scene) (kind : Kind) (l : Local) (found : ℕ) → Knows l → Knows (next instance scene kind l found)
known_next instance scene (WriteCell j i v) l found knows =
    put_known l (next instance scene (WriteCell j i v) l found) j (record (cell_of l j) { words = set (cell_of l j).words i v; ticket = None }) knows refl refl (λ ticket is. absurd (none-some ticket is))
known_next instance scene (Link j) l found knows =
    either Knows (found == seen_word l.seen_slot) (linked l j) (lost instance.callers l found) (link_known l j knows) (same_known l (lost instance.callers l found) knows refl refl)
known_next instance scene (TryExclusive r) l found knows =
    either Knows (found == 0) (taken instance scene r l) (refused_by instance.callers r l found) (same_known l _ knows refl refl) (same_known l _ knows refl refl)
known_next instance scene (TryShared r) l found knows =
    either Knows (nat_lt found exclusive_mark) (shared_by r l found) (passing instance.callers r l found) (same_known l _ knows refl refl) (same_known l _ knows refl refl)
known_next instance scene (BackOff r) l found knows =
    let a = record l { shared = None; steps = one_more l.steps } in
    let b = record l { passer = None; steps = one_more l.steps } in
    let c = record l { downgraded = None; steps = one_more l.steps } in
    either Knows (is_at r (shared_on l)) a (cond (is_at r l.passer) b c) (same_known l a knows refl refl) (either Knows (is_at r l.passer) b c (same_known l b knows refl refl) (same_known l c knows refl refl))
known_next instance scene Publish l found knows =
    either Knows (found == l.seen_cur) (published instance.callers l) (outrun instance.callers l found) (same_known l _ knows refl refl) (same_known l _ knows refl refl)
known_next instance scene (WriteSet j i v) l found knows =
    put_known l (next instance scene (WriteSet j i v) l found) j (record (cell_of l j) { set = set (cell_of l j).set i v }) knows refl refl (knows.each j)
known_next instance scene (Offer j) l found knows =
    put_known l (next instance scene (Offer j) l found) j (record (cell_of l j) { offer = offer_of (cell_of l j).ticket (cell_of l j).offer }) knows refl refl (knows.each j)
known_next instance scene kind l found knows = same_known l (next instance scene kind l found) knows refl refl

-- each cell with a ticket, of any caller, has the ticket of one of that caller's entries
abbrev pub AllKnow : State → Type 0
AllKnow s = EachLocal s.locals (λ _ l. Knows l)

-- where each caller's cells have only tickets of its own entries, that stays so after an event
known_event : (instance : Instance) (event : Event) (before after : State) → AllKnow before → Makes instance event before after → AllKnow after
known_event instance event before after all made =
    let l' = local_after instance (scene_of instance before) event.kind made.local in
    subst (λ ls. EachLocal ls (λ _ l. Knows l)) (sym made.locals)
    (EachLocal-set before.locals event.caller made.local l' (λ _ l. Knows l) made.of_caller all (known_next instance (scene_of instance before) event.kind made.local _ (all event.caller made.local made.of_caller)))

-- where each caller's cells have only tickets of its own entries, that is so at the end of a run, too
pub known_run : (instance : Instance) (events : List Event) (from to : State) → AllKnow from → Run instance from events to → AllKnow to
known_run instance [] from to all run = subst AllKnow (sym run) all
known_run instance (event ∷ events) from to all run = known_run instance events run.0 to (known_event instance event from run.0 all run.1) run.2

-- in the opening state each caller's cells have only tickets of its own entries: no cell has a ticket
pub known_opening : (instance : Instance) → AllKnow (opening_state instance.callers instance.base)
known_opening instance caller l at =
    let is = (opening_at instance.callers instance.base.place caller l at).1 in
    subst Knows (sym is) (record {
      each = λ k ticket has. (
          let blank : Cell = record { words = []; ticket = None; set = []; offer = 0 } in
          let none : (get_or (replicate 16 blank_cell) k blank).ticket ≡ None = elim (cases_lt k 16) [
            | inl within ↦ ap (λ (c : Cell). c.ticket) (get_or-replicate 16 k blank_cell blank within)
            | inr past ↦ ap (λ (c : Cell). c.ticket) (get_or_past (replicate 16 blank_cell) k blank (omega (arith, length-replicate 16 blank_cell)))
          ] in
          absurd (none-some ticket (sym none ∙ has)));
    })
