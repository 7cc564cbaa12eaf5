-- What the rule of the table says of the word that a step found.
use Rattle.std.proofs.Common.{◌≡◌, ◌+◌, ◌-◌, ◌*◌, ◌/◌, ◌%◌, ◌<◌, ◌≤◌, inl, inr, ℕ, slice_index, refl, ap, sym, subst, ◌∙◌, arith, Option, Some, None}
use Rattle.std.proofs.lemmas.Nat.{div-mul-add, mod-mul-add, mod_below}
use Rattle.std.specs.List.{slice_get}
use Rattle.cx_base.specs.Codes.{link_cell_of, link_code_of, link_ticket_of, root_replica_of}
use Rattle.cx_core.specs.declared.entry.Entry.{Entry}
use Rattle.cx_core.specs.declared.kinds.Kind.{Kind}
use Rattle.cx_core.specs.declared.kinds.Kind.TheVariants.{Link, Look, ReadCell, LoadFree, LoadCur, Publish, Confirm, Scan, OpenFree, ReadSet}
use Rattle.cx_core.specs.declared.local.Local.{Local}
use Rattle.cx_core.specs.declared.local.SeenSlot.{SeenSlot}
use Rattle.cx_core.specs.declared.local.Protection.{Protection}
use Rattle.cx_core.specs.declared.local.Protection.TheVariants.{Unprotected, Stated, Confirmed}
use Rattle.cx_core.specs.Events.{Guard, found_by}
use Rattle.cx_core.specs.QueueEvents.{ShowsOpen, seen_word}
use Rattle.cx_core.specs.Layout.{cell_count, cur_at, free_at, link_at, need_at, set_at}
use Rattle.cx_core.specs.Lawful.{Lawful, LinkWord}
use Rattle.cx_core.specs.Lawful.LinkWord.{Never, Names}
use Rattle.cx_core.specs.Merge.{IsLinked, scene_of}
use Rattle.cx_core.specs.RingEvents.{Protects, need_word}
use Rattle.cx_core.specs.State.{Instance, State}
use Rattle.core_queue.proofs.CellLinks.{names_small}
use Rattle.core_queue.proofs.LinkLaws.{code_ticket}
use Rattle.core_queue.proofs.LiveCells.{linked_callers, seen_shown}
use Rattle.core_queue.proofs.QueueFrames.{queue_of}
use Rattle.core_queue.proofs.SetNotes.{read_count}
use Rattle.core_replica.proofs.Unheld.{current_unheld}
use Rattle.cx_core.proofs.Claims.{unheld_none}
use Rattle.cx_core.proofs.Locals.{linked_below}
use Rattle.table_invariant.specs.FoundWords.{KnownOfCur, KnownOfLink, KnownOfLook, NamesTicket, KnownOfLoad}

-- the slot that a guard speaks of was seen
open_seen : (callers : ℕ) (seen : Option SeenSlot) (ticket : ℕ) → ShowsOpen callers seen ticket → (x : SeenSlot) × (seen ≡ Some x) × (x.slot ≡ ticket % cell_count callers)
open_seen callers None ticket shows = absurd shows
open_seen callers (Some x) ticket shows = (x, refl, shows.0)

-- the word in the slot of a live ticket
held_word : (instance : Instance) (s : State) (law : Lawful instance s) (t : ℕ) (e : Entry) → slice_index s.words free_at ≤ t → IsLinked instance.base.place law.history t e →
    (j : ℕ) × (j < 16) × (slice_index s.words (link_at instance.callers (t % cell_count instance.callers)) ≡ link_code_of instance.callers t (16 * e.caller + j)) × (16 * e.caller + j < 16 * instance.callers)
held_word instance s law t e live linked =
    let held = law.cells.live t e linked live in
    let small = names_small instance s.words s.locals e.caller held.j t held.cell law.shape held.names in
    let by = linked_callers instance law.history s.words s.locals (queue_of law) t e linked in
    (held.j, small, held.link, omega (arith, small, by))

-- the cell that is read for a live ticket is of the entry's caller
pub cell_of_entry : (instance : Instance) (s : State) (law : Lawful instance s) (caller : ℕ) (l : Local) (t k i : ℕ) → slice_get s.locals caller ≡ Some l → Guard instance (scene_of instance s) (ReadCell t k i) l →
    slice_index s.words free_at ≤ t → (e : Entry) → IsLinked instance.base.place law.history t e → e.caller ≡ k / 16
cell_of_entry instance s law caller l t k i at guard live e linked =
    let shown = seen_shown instance.callers l.seen_slot t k guard.2 in
    let x = shown.0 in
    let shows = shown.2 in
    let seen = law.cells.seen caller l at x shown.1 in
    let still : slice_index s.words (link_at instance.callers x.slot) ≡ x.word = seen.stands shows.1 (subst (λ u. slice_index s.words free_at ≤ u) (sym shows.2) live) in
    let held = held_word instance s law t e live linked in
    let w = 16 * instance.callers in
    let cell = 16 * e.caller + held.0 in
    let within : cell < w = held.3 in
    let word : x.word ≡ link_code_of instance.callers t cell = sym still ∙ ap (λ n. slice_index s.words (link_at instance.callers n)) shows.0 ∙ held.2 in
    let one_off : t * w + cell + 1 - 1 ≡ t * w + cell = omega arith in
    let is : k ≡ cell = sym shows.3 ∙ ap (link_cell_of instance.callers) word ∙ ap (λ n. n % w) one_off ∙ mod-mul-add t w cell within in
    let turned : cell ≡ e.caller * 16 + held.0 = omega arith in
    sym (ap (λ n. n / 16) (is ∙ turned) ∙ div-mul-add e.caller 16 held.0 held.1)

-- a link word that is not 0 names a ticket of its slot
names_ticket : (instance : Instance) (s : State) (law : Lawful instance s) (slot word : ℕ) → LinkWord instance law.history slot word → 0 < word → NamesTicket instance slot word
names_ticket instance s law slot word (Never none zero) above = absurd (omega arith)
names_ticket instance s law slot word (Names ticket entry j greatest below is) above =
    let one = law.shape.some in
    let by = linked_callers instance law.history s.words s.locals (queue_of law) ticket entry greatest.linked in
    let within : 16 * entry.caller + j < 16 * instance.callers = omega arith in
    let same : link_ticket_of instance.callers word ≡ ticket = ap (link_ticket_of instance.callers) is ∙ code_ticket instance.callers ticket (16 * entry.caller + j) within in
    record {
      from = subst (λ t. instance.base.place ≤ t) (sym same) greatest.linked.from;
      slot = ap (λ t. t % cell_count instance.callers) same ∙ greatest.at;
      cell = mod_below (word - 1) (cell_count instance.callers) (omega arith);
    }

-- FREE is at most a ticket that a caller's confirmed protection keeps
kept_free : (free ticket : ℕ) (o : Protection) → ((p : ℕ) → o ≡ Confirmed p → free ≤ p) → Protects ticket o → free ≤ ticket
kept_free free ticket Unprotected kept protects = absurd protects
kept_free free ticket (Stated p) kept protects = absurd protects
kept_free free ticket (Confirmed p) kept protects = (let above = kept p refl in omega (arith, above, protects))

-- a cell is read for a ticket at or above FREE
pub guard_live : (instance : Instance) (s : State) (law : Lawful instance s) (caller : ℕ) (l : Local) (t k i : ℕ) → slice_get s.locals caller ≡ Some l → Guard instance (scene_of instance s) (ReadCell t k i) l →
    slice_index s.words free_at ≤ t
guard_live instance s law caller l t k i at guard = kept_free (slice_index s.words free_at) t l.protection (law.ring.each caller l at).kept guard.3

-- where a slot has a linked ticket, its word names one that is at least as late
greatest_named : (instance : Instance) (s : State) (law : Lawful instance s) (slot word t : ℕ) (e : Entry) → LinkWord instance law.history slot word → IsLinked instance.base.place law.history t e → t % cell_count instance.callers ≡ slot →
    (0 < word) × (t ≤ link_ticket_of instance.callers word)
greatest_named instance s law slot word t e (Never none zero) linked is_slot = absurd (none t e linked is_slot)
greatest_named instance s law slot word t e (Names ticket entry j greatest below is) linked is_slot =
    let by = linked_callers instance law.history s.words s.locals (queue_of law) ticket entry greatest.linked in
    let within : 16 * entry.caller + j < 16 * instance.callers = omega (arith, by, below) in
    let same : link_ticket_of instance.callers word ≡ ticket = ap (link_ticket_of instance.callers) is ∙ code_ticket instance.callers ticket (16 * entry.caller + j) within in
    let least = greatest.greatest t e linked is_slot in
    (omega (arith, is), omega (arith, same, least))

-- in a lawful state the rule says this of the word that a look at a slot finds
look_known : (instance : Instance) (s : State) (law : Lawful instance s) (caller : ℕ) (l : Local) (slot : ℕ) → slice_get s.locals caller ≡ Some l → slot < cell_count instance.callers →
    KnownOfLook instance slot l (slice_index s.words (link_at instance.callers slot))
look_known instance s law caller l slot at below = record {
  names = names_ticket instance s law slot (slice_index s.words (link_at instance.callers slot)) (law.links.each slot below);
  greatest = λ t from before is_slot. (
      let linked = linked_at t from before in
      greatest_named instance s law slot (slice_index s.words (link_at instance.callers slot)) t linked.0 (law.links.each slot below) linked.1 is_slot);
  live = λ t from before is_slot protects. (
      let linked = linked_at t from before in
      let free = kept_free (slice_index s.words free_at) t l.protection (law.ring.each caller l at).kept protects in
      let held = held_word instance s law t linked.0 free linked.1 in
      let cell = 16 * linked.0.caller + held.0 in
      let word : slice_index s.words (link_at instance.callers slot) ≡ link_code_of instance.callers t cell = ap (λ n. slice_index s.words (link_at instance.callers n)) (sym is_slot) ∙ held.2 in
      (omega (arith, word), ap (link_ticket_of instance.callers) word ∙ code_ticket instance.callers t cell held.3));
}
  where
    linked_at : (t : ℕ) → instance.base.place ≤ t → t < l.front → (e : Entry) × IsLinked instance.base.place law.history t e
    linked_at t from before = (let to = (law.fronts.each caller l at).to in linked_below instance.base.place law.history t from (omega arith))

-- in a lawful state the rule says this of the word that a link finds
link_known : (instance : Instance) (s : State) (law : Lawful instance s) (caller : ℕ) (l : Local) → slice_get s.locals caller ≡ Some l → ShowsOpen instance.callers l.seen_slot l.front →
    KnownOfLink instance l (slice_index s.words (link_at instance.callers (l.front % cell_count instance.callers)))
link_known instance s law caller l at shows =
    let one = law.shape.some in
    let q = cell_count instance.callers in
    let slot = l.front % q in
    let below : slot < q = mod_below l.front q (omega arith) in
    record {
      names = names_ticket instance s law slot (slice_index s.words (link_at instance.callers slot)) (law.links.each slot below);
      later = λ above apart. (
          let seen = open_seen instance.callers l.seen_slot l.front shows in
          let x = seen.0 in
          let word : seen_word l.seen_slot ≡ x.word = ap seen_word seen.1 in
          let here : link_at instance.callers slot ≡ link_at instance.callers x.slot = ap (link_at instance.callers) (sym seen.2) in
          let found = λ (at_slot : ℕ). slice_index s.words at_slot in
          elim ((law.cells.seen caller l at x seen.1).later (subst (λ w. 0 < w) word above)) [
            | inl there ↦ absurd (apart (ap found here ∙ there ∙ sym word))
            | inr past ↦ (
              subst (λ n. 0 < n) (sym (ap found here)) past.0,
              subst (λ n. link_ticket_of instance.callers (seen_word l.seen_slot) < link_ticket_of instance.callers n) (sym (ap found here))
                  (subst (λ w. link_ticket_of instance.callers w < link_ticket_of instance.callers (found (link_at instance.callers x.slot))) (sym word) past.1),
            )
          ]);
    }

-- the code in CUR
cur_known : (instance : Instance) (s : State) (law : Lawful instance s) (caller : ℕ) (l : Local) → slice_get s.locals caller ≡ Some l → KnownOfCur instance l (slice_index s.words cur_at)
cur_known instance s law caller l at =
    let r = root_replica_of instance.callers (slice_index s.words cur_at) in
    record {
      most = (law.root.each caller l at).seen.most;
      apart = λ held. unheld_none s.locals r (current_unheld instance.callers s.words s.locals law.shape.some law.locks).unheld caller l at held;
    }

-- the word of the caller's own need
own_need : (instance : Instance) (s : State) (law : Lawful instance s) (caller : ℕ) (l : Local) (d : ℕ) → slice_get s.locals caller ≡ Some l → d ≡ l.number → slice_index s.words (need_at d) ≡ need_word l.protection
own_need instance s law caller l d at own =
    let number = (law.shape.each caller l at).number in
    ap (λ c. slice_index s.words (need_at c)) (own ∙ number) ∙ (law.ring.each caller l at).need

-- word 0 of a set
count_known : (instance : Instance) (s : State) (law : Lawful instance s) (caller : ℕ) (l : Local) (k t i : ℕ) → slice_get s.locals caller ≡ Some l → i ≡ 0 → Guard instance (scene_of instance s) (ReadSet k t i) l →
    slice_index s.words (set_at instance.callers k i) ≤ 256
count_known instance s law caller l k t i at first guard =
    subst (λ n. slice_index s.words (set_at instance.callers k n) ≤ 256) (sym first)
    (read_count instance s law.history (queue_of law) caller l at k t (subst (λ n. Guard instance (scene_of instance s) (ReadSet k t n) l) first guard))

-- what a step tells of the word found
pub load_known : (instance : Instance) (kind : Kind) (s : State) (law : Lawful instance s) (caller : ℕ) (l : Local) → slice_get s.locals caller ≡ Some l → Guard instance (scene_of instance s) kind l →
    KnownOfLoad instance kind l (found_by instance kind l s.words)
load_known instance (Link j) s law caller l at guard = link_known instance s law caller l at guard.4
load_known instance (Look slot) s law caller l at guard = look_known instance s law caller l slot at guard
load_known instance LoadFree s law caller l at guard = (law.fronts.each caller l at).free
load_known instance LoadCur s law caller l at guard = cur_known instance s law caller l at
load_known instance Publish s law caller l at guard = (law.root.each caller l at).seen.most
load_known instance Confirm s law caller l at guard = (law.fronts.each caller l at).low
load_known instance (Scan d) s law caller l at guard = own_need instance s law caller l d at
load_known instance OpenFree s law caller l at guard = (law.fronts.each caller l at).free
load_known instance (ReadSet k t i) s law caller l at guard = λ first. count_known instance s law caller l k t i at first guard
load_known instance kind s law caller l at guard = tt
