-- A step apart from what these parts name keeps them all.
use Rattle.std.proofs.Common.{◌≡◌, ◌*◌, ◌<◌, ◌≤◌, inl, inr, ℕ, Bool, List, Option, set, slice_index, refl, sym, subst, ◌∙◌, arith, Some}
use Rattle.std.proofs.lemmas.List.{length-set, set-get_or}
use Rattle.std.specs.List.{slice_get}
use Rattle.cx_core.specs.declared.entry.Entry.{Entry}
use Rattle.cx_core.specs.declared.local.HeldDowngraded.{HeldDowngraded}
use Rattle.cx_core.specs.declared.local.HeldExclusive.{HeldExclusive}
use Rattle.cx_core.specs.declared.local.HeldShared.{HeldShared}
use Rattle.cx_core.specs.declared.local.Local.{Local}
use Rattle.cx_core.specs.declared.local.SeenLock.{SeenLock}
use Rattle.cx_core.specs.Layout.{lock_at, gaps_at}
use Rattle.cx_core.specs.Lawful.{Cells, Fronts, IsBehind, Lawful, LocalShape, Tickets}
use Rattle.cx_core.specs.LawfulRing.{Ring}
use Rattle.cx_core.specs.State.{Instance, State}
use Rattle.core_queue.specs.Frames.{OffCells, OffFronts, OffLinks, OffQueue, SameCells, SameQueue, SameTickets}
use Rattle.core_queue.specs.Queue.{QueueLawful}
use Rattle.cx_core.proofs.Locals.{EachLocal-set}
use Rattle.cx_core.proofs.Putting.{no_word}
use Rattle.core_queue.proofs.CellLaws.{cells_framed}
use Rattle.core_queue.proofs.FrontLaws.{fronts_framed, fronts_put}
use Rattle.core_queue.proofs.LinkLaws.{links_framed}
use Rattle.core_queue.proofs.RingLaws.{ring_framed}
use Rattle.core_queue.proofs.Shapes.{shape_kept, shape_same}
use Rattle.core_queue.proofs.TicketLaws.{tickets_framed}

off_links : (instance : Instance) (at : ℕ) → OffCells instance at → OffLinks instance at
off_links instance at off = elim off.1 [ inl a ↦ inl a | inr b ↦ inr (omega arith) ]

pub off_cells : (instance : Instance) (at : ℕ) → OffQueue instance at → OffCells instance at
off_cells instance at off = (let from = off.0 in omega arith, off.1)

pub off_fronts : (instance : Instance) (at : ℕ) → OffQueue instance at → OffFronts at
off_fronts instance at off = (let from = off.0 in inl (omega arith))

-- a lock word, or a word of a replica
pub off_lock : (instance : Instance) (r : ℕ) → r < 2 * instance.callers → OffQueue instance (lock_at instance.callers r)
off_lock instance r below = (omega arith, inl (omega arith))

pub off_region : (instance : Instance) (at : ℕ) → gaps_at instance.callers ≤ at → OffQueue instance at
off_region instance at behind = (omega arith, inr behind)

-- the fields that steps on locks, on replicas and on the root change beside what tickets and fronts name
pub same_but : (l : Local) (fresh : Bool) (refused : List ℕ) (seen_lock : Option SeenLock) (exclusive : Option HeldExclusive)
    (shared : Option HeldShared) (passer : Option ℕ) (downgraded : Option HeldDowngraded) (steps met : ℕ) →
    SameQueue l (record l {
      fresh = fresh;
      refused = refused;
      seen_lock = seen_lock;
      exclusive = exclusive;
      shared = shared;
      passer = passer;
      downgraded = downgraded;
      steps = steps;
      met = met;
    })
same_but l fresh refused seen_lock exclusive shared passer downgraded steps met = record {
  number = refl;
  tickets = record { own = refl; answered = refl };
  cells = record { cells = refl; seen_slot = refl; seen_offer = refl };
  front = record { front = refl; floor = refl; seen_cur = refl; seen_free = refl; seen_low = refl; raised = refl; won = refl };
  ring = record { protection = refl; scan = refl };
}

-- a step that touches nothing that links and cells name, with the parts on tickets, fronts and the ring after it
pub queue_with : (instance : Instance) (history : List Entry) (words : List ℕ) (locals : List Local) (at v caller : ℕ) (l l' : Local) → QueueLawful instance history words locals →
    slice_get locals caller ≡ Some l → OffCells instance at → l'.number ≡ l.number → SameCells l l' →
    Tickets instance history (set locals caller l') → Fronts instance history (set words at v) (set locals caller l') → Ring instance (set words at v) (set locals caller l') →
    QueueLawful instance history (set words at v) (set locals caller l')
queue_with instance history words locals at v caller l l' law there off number same tickets fronts ring = record {
  shape = shape_kept instance words locals at v caller l l' law.shape there (shape_same caller l l' (law.shape.each caller l there) number same.cells);
  tickets = tickets;
  links = links_framed instance history words at v law.links (off_links instance at off);
  cells = cells_framed instance history words locals at v caller l l' law.cells law.shape there off.0 off.1 same;
  fronts = fronts;
  ring = ring;
}

-- a step that touches nothing that these parts name
pub queue_put : (instance : Instance) (history : List Entry) (words : List ℕ) (locals : List Local) (at v caller : ℕ) (l l' : Local) → QueueLawful instance history words locals →
    slice_get locals caller ≡ Some l → OffQueue instance at → SameQueue l l' → QueueLawful instance history (set words at v) (set locals caller l')
queue_put instance history words locals at v caller l l' law there off same =
    queue_with instance history words locals at v caller l l' law there (off_cells instance at off) same.number same.cells
    (tickets_framed instance history locals caller l l' law.tickets there same.tickets.own same.tickets.answered)
    (fronts_framed instance history words locals at v caller l l' law.fronts there (off_fronts instance at off) same.front)
    (ring_framed instance words locals at v caller l l' law.shape law.ring there (inr off.0) same.ring)

-- a load, which links nothing, with what its caller knows after it
pub queue_loaded : (instance : Instance) (history : List Entry) (words : List ℕ) (locals : List Local) (place caller : ℕ) (l l' : Local) → QueueLawful instance history words locals →
    slice_get locals caller ≡ Some l → l'.number ≡ l.number → SameTickets l l' → l'.cells ≡ l.cells → Cells instance history words (set locals caller l') →
    IsBehind instance history words l' → Ring instance words (set locals caller l') → QueueLawful instance history (set words place (slice_index words place)) (set locals caller l')
queue_loaded instance history words locals place caller l l' law there number tickets same cells behind ring =
    subst (λ ws. QueueLawful instance history ws (set locals caller l')) (sym (set-get_or words place 0)) (record {
      shape = record {
        some = law.shape.some;
        few = law.shape.few;
        long = law.shape.long;
        count = length-set locals caller l' ∙ law.shape.count;
        each = EachLocal-set locals caller l l' LocalShape there law.shape.each (shape_same caller l l' (law.shape.each caller l there) number same);
      };
      tickets = tickets_framed instance history locals caller l l' law.tickets there tickets.own tickets.answered;
      links = law.links;
      cells = cells;
      fronts = fronts_put instance history history words words locals caller l l' law.fronts there (omega arith) (record { dur = refl; low = refl; free = refl }) behind;
      ring = ring;
    })

-- a lawful state is lawful in all that concerns the queue
pub queue_of : {instance : Instance} {s : State} (law : Lawful instance s) → QueueLawful instance law.history s.words s.locals
queue_of law = record { shape = law.shape; tickets = law.tickets; links = law.links; cells = law.cells; fronts = law.fronts; ring = law.ring }

-- where no word was put
pub queue_local : (instance : Instance) (history : List Entry) (words : List ℕ) (locals : List Local) (caller : ℕ) (l l' : Local) → QueueLawful instance history words locals →
    slice_get locals caller ≡ Some l → SameQueue l l' → QueueLawful instance history words (set locals caller l')
queue_local instance history words locals caller l l' law there same =
    let far = gaps_at instance.callers in
    no_word (λ ws. QueueLawful instance history ws (set locals caller l')) words far
    (queue_put instance history words locals far (slice_index words far) caller l l' law there (off_region instance far (omega arith)) same)

-- where the word was put that was found, and what is named of the local state stays
pub queue_found : (instance : Instance) (history : List Entry) (words : List ℕ) (locals : List Local) (place caller : ℕ) (l l' : Local) → QueueLawful instance history words locals →
    slice_get locals caller ≡ Some l → SameQueue l l' → QueueLawful instance history (set words place (slice_index words place)) (set locals caller l')
queue_found instance history words locals place caller l l' law there same =
    subst (λ ws. QueueLawful instance history ws (set locals caller l')) (sym (set-get_or words place 0)) (queue_local instance history words locals caller l l' law there same)
