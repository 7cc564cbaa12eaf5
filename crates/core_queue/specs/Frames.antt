-- What a step has to leave so that it keeps a part of the queue: the words and the fields that the part names.
use Rattle.std.specs.Prelude.{◌≡◌, ◌≢◌, ◌≤◌, ◌⊎◌, ℕ}
use Rattle.cx_core.specs.declared.local.Local.{Local}
use Rattle.cx_core.specs.Frames.{IsOff}
use Rattle.cx_core.specs.Layout.{cell_count, cur_at, dur_at, free_at, link_at, lock_at, need_at, gaps_at}
use Rattle.cx_core.specs.State.{Instance}

-- no link word
abbrev pub OffLinks : Instance → ℕ → Type 0
OffLinks instance at = IsOff (link_at instance.callers 0) (link_at instance.callers (cell_count instance.callers)) at

-- neither FREE nor a word of links, cells, offers and sets
abbrev pub OffCells : Instance → ℕ → Type 0
OffCells instance at = (at ≢ free_at) × IsOff (link_at instance.callers 0) (gaps_at instance.callers) at

-- neither DUR, LOW nor FREE, which stand between CUR and the first NEED
abbrev pub OffFronts : ℕ → Type 0
OffFronts at = (need_at 0 ≤ at) ⊎ (at ≡ cur_at)

-- neither CUR, LOW, FREE nor the need of a caller, of which the last stands in front of the first lock word
abbrev pub OffRing : Instance → ℕ → Type 0
OffRing instance at = (at ≡ dur_at) ⊎ (lock_at instance.callers 0 ≤ at)

-- the fields that the part on tickets names
pub record SameTickets (l l' : Local) : Type 0 where
  pub own : l'.own ≡ l.own
  pub answered : l'.answered ≡ l.answered

-- the fields that the part on cells names
pub record SameCells (l l' : Local) : Type 0 where
  pub cells : l'.cells ≡ l.cells
  pub seen_slot : l'.seen_slot ≡ l.seen_slot
  pub seen_offer : l'.seen_offer ≡ l.seen_offer

-- the fields that the part on fronts names
pub record SameFront (l l' : Local) : Type 0 where
  pub front : l'.front ≡ l.front
  pub floor : l'.floor ≡ l.floor
  pub seen_cur : l'.seen_cur ≡ l.seen_cur
  pub seen_free : l'.seen_free ≡ l.seen_free
  pub seen_low : l'.seen_low ≡ l.seen_low
  pub raised : l'.raised ≡ l.raised
  pub won : l'.won ≡ l.won

-- the fields that the part on the ring names
pub record SameRing (l l' : Local) : Type 0 where
  pub protection : l'.protection ≡ l.protection
  pub scan : l'.scan ≡ l.scan

-- a word that none of these parts names
abbrev pub OffQueue : Instance → ℕ → Type 0
OffQueue instance at = (lock_at instance.callers 0 ≤ at) × IsOff (link_at instance.callers 0) (gaps_at instance.callers) at

-- the fields that these parts and the shape name
pub record SameQueue (l l' : Local) : Type 0 where
  pub number : l'.number ≡ l.number
  pub tickets : SameTickets l l'
  pub cells : SameCells l l'
  pub front : SameFront l l'
  pub ring : SameRing l l'
