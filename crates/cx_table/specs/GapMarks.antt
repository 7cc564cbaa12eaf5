-- The lines that entries changed, marked by pieces, and what reading them from the ring leaves of the seat.
use Rattle.std.specs.Prelude.{true, ◌≡◌, ◌+◌, ◌/◌, ◌<◌, ◌≤◌, ◌⊎◌, ℕ, Bool, List, [], ◌∷◌, ◌++◌, Some, slice_get}
use Rattle.std.specs.List.{Contains}
use Rattle.cx_base.specs.declared.object.Object.{Ghosts}
use Rattle.cx_core.specs.Gaps.{AreWalked, Walk}
use Rattle.cx_core.specs.State.{Instance}
use Rattle.table_invariant.specs.declared.rule.Known.{Known}
use Rattle.table_invariant.specs.declared.rule.Noted.{Noted}
use Rattle.table_invariant.specs.Fitting.{Fitting}
use Rattle.table_invariant.specs.Listed.{HasGap}
use Rattle.table_invariant.specs.Running.{IsSeatOf, Running}
use Rattle.table_invariant.specs.Seats.{Seated, StepsOn}

-- gaps are noted and read in a table with these callers and lines
abbrev pub AreKept : ℕ → ℕ → Type 0
AreKept callers lines = (2 ≤ callers) × (4096 ≤ lines)

-- the piece is marked
abbrev pub IsMarked : List Bool → ℕ → Type 0
IsMarked marks piece = slice_get marks piece ≡ Some true

-- each of some lines is in a marked piece
abbrev pub AreMarked : List Bool → List ℕ → Type 0
AreMarked marks lines = (n : ℕ) → Contains lines n → IsMarked marks ((n + 7) / 8)

-- gaps of a ticket were loaded that lead over all lines but these, which are marked
pub record MarksTicket (instance : Instance) (lines ticket : ℕ) (marks : List Bool) (known : Known) : Type 0 where
  pub list : List ℕ
  pub walked : Walk (HasGap instance known) ticket 0 list lines
  pub marked : AreMarked marks list

-- of each ticket from one place to below another, gaps were loaded that lead over all lines but those of a list, which are marked
pub record MarksChanged (instance : Instance) (lines from to : ℕ) (marks : List Bool) (known : Known) : Type 0 where
  pub lists : ℕ → List ℕ
  pub walked : AreWalked (HasGap instance known) lines from to lists
  pub marked : (ticket : ℕ) → from ≤ ticket → ticket < to → AreMarked marks (lists ticket)

-- the notes of words of a slot
abbrev pub gap_notes : ℕ → List ℕ → List Noted
gap_notes slot [] = []
gap_notes slot (w ∷ words) = record { ticket = slot; caller = 0; index = 145; word = w } ∷ gap_notes slot words

-- the seat with this count of steps, where these were noted more
abbrev pub with_gaps : ℕ → List Noted → Seated → Seated
with_gaps steps notes s = record s { known = record s.known { local = record s.known.local { steps = steps }; noted = s.known.noted ++ notes } }

-- Nothing changed but the steps, of which none is taken back, and there may be more notes: of what really is there some fits what is known.
pub record KeepsLoads {O : Type 0} (o : Ghosts O) (r : Running O) (before after : Seated) : Type 0 where
  pub notes : List Noted
  pub seat : after ≡ with_gaps after.known.local.steps notes before
  pub of : IsSeatOf r after
  pub since : StepsOn before after
  pub fits : (after ≡ before) ⊎ Fitting r.lines (o.lawful r.object) r.base (o.step r.object) after.known
