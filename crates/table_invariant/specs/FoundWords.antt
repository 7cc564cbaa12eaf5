-- What the rule of the table says of the word that a step found.
use Rattle.std.specs.Prelude.{◌≡◌, ◌≢◌, ◌%◌, ◌<◌, ◌≤◌, ℕ, Some}
use Rattle.cx_base.specs.Codes.{link_cell_of, link_ticket_of, root_replica_of}
use Rattle.cx_core.specs.declared.kinds.Kind.{Kind}
use Rattle.cx_core.specs.declared.kinds.Kind.TheVariants.{Link, Look, LoadFree, LoadCur, Publish, Confirm, Scan, OpenFree, ReadSet}
use Rattle.cx_core.specs.declared.local.Local.{Local}
use Rattle.cx_core.specs.QueueEvents.{seen_word}
use Rattle.cx_core.specs.Layout.{cell_count}
use Rattle.cx_core.specs.Rights.{exclusive_on}
use Rattle.cx_core.specs.RingEvents.{Protects, need_word}
use Rattle.cx_core.specs.State.{Instance}

-- a link word names a ticket of its slot from the base's place on, and a cell
pub record NamesTicket (instance : Instance) (s word : ℕ) : Type 0 where
  pub from : instance.base.place ≤ link_ticket_of instance.callers word
  pub slot : link_ticket_of instance.callers word % cell_count instance.callers ≡ s
  pub cell : link_cell_of instance.callers word < cell_count instance.callers

-- the word of a slot that was looked at. The tickets below the front are linked: the slot has none that is below one of them, and
-- one that the caller's confirmed protection keeps still stands there.
pub record KnownOfLook (instance : Instance) (s : ℕ) (l : Local) (found : ℕ) : Type 0 where
  pub names : 0 < found → NamesTicket instance s found
  pub greatest : (t : ℕ) → instance.base.place ≤ t → t < l.front → t % cell_count instance.callers ≡ s → (0 < found) × (t ≤ link_ticket_of instance.callers found)
  pub live : (t : ℕ) → instance.base.place ≤ t → t < l.front → t % cell_count instance.callers ≡ s → Protects t l.protection → (0 < found) × (link_ticket_of instance.callers found ≡ t)

-- the word that a link found. Where it is not the one seen, it names a later ticket.
pub record KnownOfLink (instance : Instance) (l : Local) (found : ℕ) : Type 0 where
  pub names : 0 < found → NamesTicket instance (l.front % cell_count instance.callers) found
  pub later : 0 < seen_word l.seen_slot → found ≢ seen_word l.seen_slot →
      (0 < found) × (link_ticket_of instance.callers (seen_word l.seen_slot) < link_ticket_of instance.callers found)

-- the code found in CUR: CUR never falls, and nobody holds the replica that it names exclusively
pub record KnownOfCur (instance : Instance) (l : Local) (found : ℕ) : Type 0 where
  pub most : l.seen_cur ≤ found
  pub apart : exclusive_on l ≡ Some (root_replica_of instance.callers found) → ⊥

-- FREE, LOW and CUR never fall, the caller's own need is the one that it stated, and word 0 of a write set is the number of its pairs
abbrev pub KnownOfLoad : Instance → Kind → Local → ℕ → Type 0
KnownOfLoad instance (Link j) l found = KnownOfLink instance l found
KnownOfLoad instance (Look s) l found = KnownOfLook instance s l found
KnownOfLoad instance LoadFree l found = l.seen_free ≤ found
KnownOfLoad instance LoadCur l found = KnownOfCur instance l found
KnownOfLoad instance Publish l found = l.seen_cur ≤ found
KnownOfLoad instance Confirm l found = l.seen_low ≤ found
KnownOfLoad instance (Scan d) l found = d ≡ l.number → found ≡ need_word l.protection
KnownOfLoad instance OpenFree l found = l.seen_free ≤ found
KnownOfLoad instance (ReadSet k t i) l found = i ≡ 0 → found ≤ 256
KnownOfLoad instance _ l found = Unit {0}
