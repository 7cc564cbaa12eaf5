-- Live tickets, which are the linked ones at or above FREE, and those that a protection keeps live.
use Rattle.std.specs.Prelude.{◌≡◌, ◌%◌, ◌<◌, ◌≤◌, ℕ, List, Some, slice_get, slice_index}
use Rattle.cx_base.specs.Codes.{link_cell_of}
use Rattle.cx_core.specs.declared.entry.Entry.{Entry}
use Rattle.cx_core.specs.declared.local.Local.{Local}
use Rattle.cx_core.specs.Events.{Guard}
use Rattle.cx_core.specs.Layout.{cell_at, cell_count, free_at, link_at}
use Rattle.cx_core.specs.Merge.{IsLinked, scene_of}
use Rattle.cx_core.specs.RingEvents.{Protects}
use Rattle.cx_core.specs.State.{Instance, State}
use Rattle.cx_core.specs.declared.kinds.Kind.TheVariants.{ReadCell}

-- the ticket is live, with this entry
pub record IsLiveIn (instance : Instance) (s : State) (history : List Entry) (ticket : ℕ) (entry : Entry) : Type 0 where
  pub linked : IsLinked instance.base.place history ticket entry
  pub live : slice_index s.words free_at ≤ ticket

-- the cell that the link slot of a ticket names
abbrev pub named_cell : Instance → State → ℕ → ℕ
named_cell instance s ticket = link_cell_of instance.callers (slice_index s.words (link_at instance.callers (ticket % cell_count instance.callers)))

-- this number of live tickets of one caller, no two the same
pub record HasLive (instance : Instance) (s : State) (history : List Entry) (caller count : ℕ) : Type 0 where
  pub ticket : ℕ → ℕ
  pub entry : ℕ → Entry
  pub live : (i : ℕ) → i < count → IsLiveIn instance s history (ticket i) (entry i)
  pub own : (i : ℕ) → i < count → (entry i).caller ≡ caller
  pub apart : (i k : ℕ) → i < count → k < count → ticket i ≡ ticket k → i ≡ k

-- a caller may load word i of cell k for the ticket
pub record MayReadWord (instance : Instance) (s : State) (caller ticket k i : ℕ) : Type 0 where
  pub local : Local
  pub of_caller : slice_get s.locals caller ≡ Some local
  pub guard : Guard instance (scene_of instance s) (ReadCell ticket k i) local

-- a caller keeps a ticket by a protection that it confirmed at or below it
pub record KeepsTicket (s : State) (caller ticket : ℕ) : Type 0 where
  pub local : Local
  pub of_caller : slice_get s.locals caller ≡ Some local
  pub protects : Protects ticket local.protection

-- after a step the link slot of a ticket, and each word of the cell that it named before, are what they were
pub record CellStays (instance : Instance) (before after : State) (ticket : ℕ) : Type 0 where
  pub link : slice_index after.words (link_at instance.callers (ticket % cell_count instance.callers)) ≡ slice_index before.words (link_at instance.callers (ticket % cell_count instance.callers))
  pub words : (i : ℕ) → i < 145 →
      slice_index after.words (cell_at instance.callers (named_cell instance before ticket) i) ≡ slice_index before.words (cell_at instance.callers (named_cell instance before ticket) i)
