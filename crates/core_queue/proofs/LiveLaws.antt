-- What a live ticket's cell gives: its entry, and no other live ticket.
use Rattle.std.proofs.Common.{◌≡◌, ◌+◌, ◌*◌, ◌%◌, ◌<◌, ◌≤◌, inl, inr, ℕ, ◌∷◌, slice_index, refl, ap, sym, subst, ◌∙◌, arith, Some}
use Rattle.std.proofs.lemmas.Bool.{cases_lt}
use Rattle.std.specs.List.{slice_get}
use Rattle.cx_base.specs.Codes.{link_cell_of}
use Rattle.cx_core.specs.declared.entry.Entry.{Entry}
use Rattle.cx_core.specs.declared.kinds.Kind.TheVariants.{ReadCell}
use Rattle.cx_core.specs.declared.local.Local.{Local}
use Rattle.cx_core.specs.Events.{Guard}
use Rattle.cx_core.specs.Layout.{cell_count, cell_at, free_at, link_at}
use Rattle.cx_core.specs.Lawful.{Lawful}
use Rattle.cx_core.specs.Merge.{IsLinked, scene_of}
use Rattle.cx_core.specs.State.{Instance, State}
use Rattle.core_queue.proofs.CellLinks.{Taken, named_once, names_small}
use Rattle.core_queue.proofs.LiveCells.{held_cell, seen_shown}
use Rattle.core_queue.proofs.QueueFrames.{queue_of}
use Rattle.core_queue.proofs.Pigeonhole.{pigeonhole}
use Rattle.core_queue.specs.Live.{HasLive, named_cell}

-- two live tickets with the same cell are one
pub live_apart : (instance : Instance) (s : State) (law : Lawful instance s) (t u : ℕ) (e f : Entry) → IsLinked instance.base.place law.history t e → IsLinked instance.base.place law.history u f →
    slice_index s.words free_at ≤ t → slice_index s.words free_at ≤ u → named_cell instance s t ≡ named_cell instance s u → t ≡ u
live_apart instance s law t u e f t_linked u_linked t_live u_live same =
    let a = law.cells.live t e t_linked t_live in
    let b = law.cells.live u f u_linked u_live in
    let k = 16 * e.caller + a.j in
    let one : Taken s.locals t k = record { d = e.caller; j = a.j; cell = a.cell; names = a.names; is = refl {a = 16 * e.caller + a.j} } in
    let two : Taken s.locals u k = record { d = f.caller; j = b.j; cell = b.cell; names = b.names; is = sym (held_cell instance s law.history (queue_of law) t e t_linked a).0 ∙ same ∙ (held_cell instance s law.history (queue_of law) u f u_linked b).0 } in
    named_once instance s.words s.locals t u k law.shape one two

-- a live ticket of a caller takes one of the caller's cells
own_cell : (instance : Instance) (s : State) (law : Lawful instance s) (caller ticket : ℕ) (entry : Entry) → IsLinked instance.base.place law.history ticket entry → slice_index s.words free_at ≤ ticket →
    entry.caller ≡ caller → (j : ℕ) × Taken s.locals ticket (16 * caller + j) × (j < 16)
own_cell instance s law caller ticket entry linked live own =
    let held = law.cells.live ticket entry linked live in (
      held.j,
      record { d = entry.caller; j = held.j; cell = held.cell; names = held.names; is = ap (λ (d : ℕ). 16 * d + held.j) (sym own) },
      names_small instance s.words s.locals entry.caller held.j ticket held.cell law.shape held.names,
    )

-- a caller has no more than 16 live tickets
pub few_live : (instance : Instance) (s : State) (law : Lawful instance s) (caller count : ℕ) → HasLive instance s law.history caller count → count ≤ 16
few_live instance s law caller count has =
    elim (cases_lt 16 count) [
      | inl more ↦ absurd (
          pigeonhole 16 (λ i j. Taken s.locals (has.ticket i) (16 * caller + j))
          (λ i within. (
          let inside : i < count = omega arith in
          own_cell instance s law caller (has.ticket i) (has.entry i) (has.live i inside).linked (has.live i inside).live (has.own i inside)))
          (λ i k j i_within k_within one other.
          has.apart i k (omega arith) (omega arith) (named_once instance s.words s.locals (has.ticket i) (has.ticket k) (16 * caller + j) law.shape one other)))
      | inr few ↦ omega arith
    ]

-- the word that a load of a cell finds for a live ticket is the history's at that ticket
pub read_gives : (instance : Instance) (s : State) (law : Lawful instance s) (caller : ℕ) (l : Local) (t k i : ℕ) → slice_get s.locals caller ≡ Some l → Guard instance (scene_of instance s) (ReadCell t k i) l →
    slice_index s.words free_at ≤ t → (e : Entry) → IsLinked instance.base.place law.history t e →
    slice_index s.words (cell_at instance.callers k i) ≡ slice_index (e.number ∷ e.op) i
read_gives instance s law caller l t k i at guard live e linked =
    let shown = seen_shown instance.callers l.seen_slot t k guard.2 in
    let x = shown.0 in
    let shows = shown.2 in
    let seen = law.cells.seen caller l at x shown.1 in
    let still : slice_index s.words (link_at instance.callers x.slot) ≡ x.word = seen.stands shows.1 (subst (λ u. slice_index s.words free_at ≤ u) (sym shows.2) live) in
    let held = law.cells.live t e linked live in
    let slot : slice_index s.words (link_at instance.callers (t % cell_count instance.callers)) ≡ x.word = ap (λ n. slice_index s.words (link_at instance.callers n)) (sym shows.0) ∙ still in
    let is : k ≡ 16 * e.caller + held.j = sym shows.3 ∙ ap (link_cell_of instance.callers) (sym slot) ∙ (held_cell instance s law.history (queue_of law) t e linked held).0 in
    let there = law.cells.shown e.caller held.names.local held.names.of_caller held.j held.cell held.names.at in
    ap (λ n. slice_index s.words (cell_at instance.callers n i)) is ∙ there.entry i guard.1 ∙ ap (λ ws. slice_index ws i) held.holds
