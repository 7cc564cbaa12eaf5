-- The write set of another's entry, as a caller takes it: word by word from the cell that the slot last looked at shows.
use Rattle.std.specs.Prelude.{◌≡◌, ◌≢◌, ◌⊎◌, ◌+◌, ◌*◌, ◌<◌, ◌==◌, ◌↔◌, true, false, ℕ, IsTrue, Bool, List, [], ◌∷◌, ◌++◌, length, slice_index, Option, Some, if◌then◌else◌}
use Rattle.cx_base.specs.declared.object.Object.{Ghosts}
use Rattle.cx_core.specs.declared.kinds.Kind.TheVariants.{ReadSet}
use Rattle.cx_core.specs.declared.local.SeenOffer.{SeenOffer}
use Rattle.cx_core.specs.Events.{Guard}
use Rattle.cx_core.specs.QueueEvents.{ShowsTicket}
use Rattle.cx_core.specs.RingEvents.{Protects}
use Rattle.cx_core.specs.SetEvents.{ShowsOffer}
use Rattle.cx_core.specs.State.{one_more}
use Rattle.core_queue.specs.declared.notes.SetNoted.{SetNoted}
use Rattle.core_queue.specs.NotedSets.{IsNotedSet}
use Rattle.table_invariant.specs.Fitting.{Fitting}
use Rattle.table_invariant.specs.Running.{IsSeatOf, Running, instance_at}
use Rattle.table_invariant.specs.Seats.{IsAtLimit, Seated, StepsOn, unseen}

-- the offer of the entry with a ticket may be looked at in a cell: the slot last looked at shows it there, and a protection keeps it
pub record MayTakeSet {O : Type 0} (r : Running O) (cell ticket : ℕ) (seat : Seated) : Type 0 where
  pub of : IsSeatOf r seat
  pub linked : ticket < seat.known.local.front
  pub shows : ShowsTicket r.callers seat.known.local.seen_slot ticket cell
  pub protected : Protects ticket seat.known.local.protection

-- each word of the set of the entry with a ticket may be read in a cell: the entry was seen to be offered
pub record MayReadSet {O : Type 0} (o : Ghosts O) (r : Running O) (cell ticket : ℕ) (seat : Seated) : Type 0 where
  pub of : IsSeatOf r seat
  pub guard : (i : ℕ) → i < 513 → Guard (instance_at r o.step o.only_reads) unseen (ReadSet cell ticket i) seat.known.local

-- the notes of words of the set of a ticket, from an index on
abbrev pub set_notes : ℕ → ℕ → List ℕ → List SetNoted
set_notes ticket i [] = []
set_notes ticket i (w ∷ words) = record { ticket = ticket; index = i; word = w } ∷ set_notes ticket (i + 1) words

-- the seat after this number of steps, where this offer was seen last and these words of sets were noted beside the others
abbrev pub with_notes : Option SeenOffer → ℕ → List SetNoted → Seated → Seated
with_notes seen steps notes s = record s { known = record s.known { local = record s.known.local { seen_offer = seen; steps = steps }; sets = s.known.sets ++ notes } }

-- words of a set were read, from an index on, and noted, and nothing else changed but the steps
pub record ReadsSetWords {O : Type 0} (o : Ghosts O) (r : Running O) (ticket from : ℕ) (words : List ℕ) (before after : Seated) : Type 0 where
  pub seat : after ≡ with_notes before.known.local.seen_offer after.known.local.steps (set_notes ticket from words) before
  pub fits : Fitting r.lines (o.lawful r.object) r.base (o.step r.object) before.known → Fitting r.lines (o.lawful r.object) r.base (o.step r.object) after.known

-- how many sets were read: of each the number of its pairs, word 0, is noted once
unfoldable pub sets_read : List SetNoted → ℕ
sets_read [] = 0
sets_read (n ∷ notes) = (if n.index == 0 then 1 else 0) + sets_read notes

-- one set more was read where one was taken, and else nothing more is noted of sets
abbrev pub CountsTaken : Seated → Seated → Bool → Type 0
CountsTaken before after true = sets_read after.known.sets ≡ sets_read before.known.sets + 1
CountsTaken before after false = after.known.sets ≡ before.known.sets

-- nothing changed but the steps, of which none is taken back, and the offer last seen, and there may be more notes of sets
pub record KeepsTaking {O : Type 0} (r : Running O) (before after : Seated) : Type 0 where
  pub notes : List SetNoted
  pub seat : after ≡ with_notes after.known.local.seen_offer after.known.local.steps notes before
  pub of : IsSeatOf r after
  pub since : StepsOn before after

-- A set was taken, exactly where the entry was seen to be offered: the set is noted whole with the ticket. What really is there then fits what
-- its caller knows.
pub record Takes {O : Type 0} (o : Ghosts O) (r : Running O) (cell ticket : ℕ) (set : List ℕ) (after : Seated) (taken : Bool) : Type 0 where
  pub offered : IsTrue taken ↔ ShowsOffer after.known.local.seen_offer cell ticket
  pub noted : IsTrue taken → IsNotedSet after.known.sets ticket set
  pub fits : IsTrue taken → Fitting r.lines (o.lawful r.object) r.base (o.step r.object) after.known

-- The offer word of a cell was loaded for a ticket, by one step, which the limit allowed, and is another than the ticket plus 1. Nothing else
-- changed.
pub record FindsUnoffered (cell ticket : ℕ) (before after : Seated) : Type 0 where
  pub allowed : ¬ IsAtLimit before.known.local
  pub word : ℕ
  pub other : word ≢ ticket + 1
  pub seat : after ≡ record before { known = record before.known { local = record before.known.local { seen_offer = Some (record { cell = cell; ticket = ticket; word = word }); steps = one_more before.known.local.steps } } }

-- the limit allowed a step, and where no set was taken, the one step made found no offer
abbrev pub LooksForOffer : ℕ → ℕ → Seated → Seated → Bool → Type 0
LooksForOffer cell ticket before after true = ¬ IsAtLimit before.known.local
LooksForOffer cell ticket before after false = FindsUnoffered cell ticket before after

-- A set was taken or not, each with what was looked at and how many sets were read.
pub record TakesOffered {O : Type 0} (o : Ghosts O) (r : Running O) (cell ticket : ℕ) (set : List ℕ) (before after : Seated) (took : Bool) : Type 0 where
  pub taken : Takes o r cell ticket set after took
  pub looked : LooksForOffer cell ticket before after took
  pub counted : CountsTaken before after took

-- fewer words of a set than this number were read, from an index on, and noted, and nothing else changed but the steps
pub record ReadsFewer (ticket from count : ℕ) (before after : Seated) : Type 0 where
  pub words : List ℕ
  pub fewer : length words < count
  pub seat : after ≡ with_notes before.known.local.seen_offer after.known.local.steps (set_notes ticket from words) before

-- the limit was reached among the words of a set
pub record HaltsReadingSet (ticket from count : ℕ) (before after : Seated) : Type 0 where
  pub limit : IsAtLimit after.known.local
  pub due : ReadsFewer ticket from count before after

-- A further word of a set is to be read: the entry was seen to be offered in this call, and fewer words were noted than the set has.
pub record IsReadingSet (cell ticket : ℕ) (before after : Seated) : Type 0 where
  pub offered : ShowsOffer after.known.local.seen_offer cell ticket
  pub words : List ℕ
  pub fewer : length words < 2 * slice_index words 0 + 1
  pub seat : after ≡ with_notes after.known.local.seen_offer after.known.local.steps (set_notes ticket 0 words) before

-- a further step is due in taking a set: no step was made, or a word of the set is to be read
abbrev pub IsTakingSet : ℕ → ℕ → Seated → Seated → Type 0
IsTakingSet cell ticket before after = (after ≡ before) ⊎ IsReadingSet cell ticket before after

-- the limit was reached where a further step is due in taking a set
pub record HaltsTakingSet (cell ticket : ℕ) (before after : Seated) : Type 0 where
  pub limit : IsAtLimit after.known.local
  pub due : IsTakingSet cell ticket before after
