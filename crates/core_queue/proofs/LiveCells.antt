-- The cell of a live ticket, and what a slot that a caller looked at shows of a ticket that its protection keeps.
use Rattle.std.proofs.Common.{◌≡◌, ◌+◌, ◌-◌, ◌*◌, ◌%◌, ◌<◌, ◌≤◌, ℕ, List, slice_index, refl, ap, sym, subst, ◌∙◌, arith, Option, Some, None}
use Rattle.std.proofs.lemmas.Nat.{mod-mul-add}
use Rattle.std.specs.List.{slice_get}
use Rattle.cx_base.specs.Codes.{link_cell_of, link_code_of, link_ticket_of}
use Rattle.cx_core.specs.declared.entry.Entry.{Entry}
use Rattle.cx_core.specs.declared.local.Local.{Local}
use Rattle.cx_core.specs.declared.local.Protection.{Protection}
use Rattle.cx_core.specs.declared.local.Protection.TheVariants.{Unprotected, Stated, Confirmed}
use Rattle.cx_core.specs.declared.local.SeenSlot.{SeenSlot}
use Rattle.cx_core.specs.Layout.{cell_count, free_at, link_at}
use Rattle.cx_core.specs.Lawful.{IsLive, LinkWord}
use Rattle.cx_core.specs.Lawful.LinkWord.{Never, Names}
use Rattle.cx_core.specs.Merge.{IsLinked}
use Rattle.cx_core.specs.QueueEvents.{ShowsTicket}
use Rattle.cx_core.specs.RingEvents.{Protects}
use Rattle.cx_core.specs.State.{Instance, State}
use Rattle.core_queue.specs.Live.{named_cell}
use Rattle.core_queue.specs.Queue.{QueueLawful}
use Rattle.core_queue.proofs.CellLinks.{names_small}
use Rattle.core_queue.proofs.LinkLaws.{code_ticket}

-- a link code gives its cell back
code_cell : (callers ticket k : ℕ) → k < 16 * callers → link_cell_of callers (link_code_of callers ticket k) ≡ k
code_cell callers ticket k below =
    let w = 16 * callers in
    let one_off : ticket * w + k + 1 - 1 ≡ ticket * w + k = omega arith in
    ap (λ n. n % w) one_off ∙ mod-mul-add ticket w k below

-- each linked entry is of one of the callers
pub linked_callers : (instance : Instance) (history : List Entry) (words : List ℕ) (locals : List Local) → QueueLawful instance history words locals →
    (ticket : ℕ) (entry : Entry) → IsLinked instance.base.place history ticket entry → entry.caller < instance.callers
linked_callers instance history words locals law ticket entry linked =
    subst (λ n. entry.caller < n) law.shape.count (law.tickets.merged.of_callers (ticket - instance.base.place) entry linked.at)

-- the cell that the link slot of a live ticket names
pub held_cell : (instance : Instance) (s : State) (history : List Entry) (law : QueueLawful instance history s.words s.locals) (ticket : ℕ) (entry : Entry) →
    IsLinked instance.base.place history ticket entry → (held : IsLive instance history s.words s.locals ticket entry) →
    (named_cell instance s ticket ≡ 16 * entry.caller + held.j) × (16 * entry.caller + held.j < 16 * instance.callers)
held_cell instance s history law ticket entry linked held =
    let small = names_small instance s.words s.locals entry.caller held.j ticket held.cell law.shape held.names in
    let by = linked_callers instance history s.words s.locals law ticket entry linked in
    let within : 16 * entry.caller + held.j < 16 * instance.callers = omega (arith, small, by) in
    (ap (link_cell_of instance.callers) held.link ∙ code_cell instance.callers ticket (16 * entry.caller + held.j) within, within)

-- the slot that a guard speaks of was seen
pub seen_shown : (callers : ℕ) (seen : Option SeenSlot) (ticket cell : ℕ) → ShowsTicket callers seen ticket cell → (x : SeenSlot) × (seen ≡ Some x) × ShowsTicket callers (Some x) ticket cell
seen_shown callers None ticket cell shows = absurd shows
seen_shown callers (Some x) ticket cell shows = (x, refl, shows)

-- what protects a ticket is a protection that was confirmed at or below it
pub protects_parts : (ticket : ℕ) (o : Protection) → Protects ticket o → (p : ℕ) × (o ≡ Confirmed p) × (p ≤ ticket)
protects_parts ticket Unprotected protects = absurd protects
protects_parts ticket (Stated p) protects = absurd protects
protects_parts ticket (Confirmed p) protects = (p, refl, protects)

-- the ticket that a link word names is linked
named_linked : (instance : Instance) (s : State) (history : List Entry) → QueueLawful instance history s.words s.locals → (slot word t : ℕ) → LinkWord instance history slot word → 0 < word → link_ticket_of instance.callers word ≡ t →
    (e : Entry) × IsLinked instance.base.place history t e
named_linked instance s history law slot word t (Never none nought) some is = absurd (omega (arith, some, nought))
named_linked instance s history law slot word t (Names u e j greatest small code) some is =
    let by = linked_callers instance history s.words s.locals law u e greatest.linked in
    let within : 16 * e.caller + j < 16 * instance.callers = omega (arith, small, by) in
    let same : u ≡ t = sym (code_ticket instance.callers u (16 * e.caller + j) within) ∙ sym (ap (link_ticket_of instance.callers) code) ∙ is in
    (e, subst (λ n. IsLinked instance.base.place history n e) same greatest.linked)

-- the ticket is linked and live, and its link slot names the cell
pub record ShownLive (instance : Instance) (s : State) (history : List Entry) (k t : ℕ) : Type 0 where
  pub entry : Entry
  pub linked : IsLinked instance.base.place history t entry
  pub live : slice_index s.words free_at ≤ t
  pub named : named_cell instance s t ≡ k

-- a ticket that the slot last looked at shows is live where the caller's protection keeps it
pub shown_live : (instance : Instance) (s : State) (history : List Entry) → QueueLawful instance history s.words s.locals → (caller : ℕ) (l : Local) → slice_get s.locals caller ≡ Some l → (k t : ℕ) →
    ShowsTicket instance.callers l.seen_slot t k → Protects t l.protection → ShownLive instance s history k t
shown_live instance s history law caller l at k t shows_ticket protects =
    let shown = seen_shown instance.callers l.seen_slot t k shows_ticket in
    let x = shown.0 in
    let shows = shown.2 in
    let seen = law.cells.seen caller l at x shown.1 in
    let protection = protects_parts t l.protection protects in
    let open_ = (law.ring.each caller l at).kept protection.0 protection.1 in
    let live : slice_index s.words free_at ≤ t = omega (arith, open_, protection.2) in
    let still : slice_index s.words (link_at instance.callers x.slot) ≡ x.word = seen.stands shows.1 (subst (λ u. slice_index s.words free_at ≤ u) (sym shows.2) live) in
    let slot : slice_index s.words (link_at instance.callers (t % cell_count instance.callers)) ≡ x.word = ap (λ n. slice_index s.words (link_at instance.callers n)) (sym shows.0) ∙ still in
    let linked = named_linked instance s history law x.slot (slice_index s.words (link_at instance.callers x.slot)) t (law.links.each x.slot seen.slot) (subst (λ w. 0 < w) (sym still) shows.1) (ap (link_ticket_of instance.callers) still ∙ shows.2) in
    record { entry = linked.0; linked = linked.1; live = live; named = ap (link_cell_of instance.callers) slot ∙ shows.3 }
