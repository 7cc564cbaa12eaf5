-- The kinds of step of the queue: when a cell may be written or linked, and what their caller learns.
use Rattle.std.specs.Prelude.{◌≡◌, ◌+◌, ◌*◌, ◌%◌, ◌^◌, ◌<◌, ◌⊎◌, ◌==◌, ℕ, max, if◌then◌else◌, List, [], ◌∷◌, ◌++◌, length, slice_range, slice_index, slice_index_or, slice_set, Option, Some, None}
use Rattle.cx_base.specs.Codes.{link_code_of, link_ticket_of, link_cell_of}
use Rattle.cx_core.specs.declared.entry.Base.{Base}
use Rattle.cx_core.specs.declared.entry.Entry.{Entry}
use Rattle.cx_core.specs.declared.local.Cell.{Cell}
use Rattle.cx_core.specs.declared.local.Local.{Local}
use Rattle.cx_core.specs.declared.local.SeenSlot.{SeenSlot}
use Rattle.cx_core.specs.Layout.{cell_count}
use Rattle.cx_core.specs.Region.{slot_number}
use Rattle.cx_core.specs.State.{one_more}

-- a caller's cell, of which there are 16
abbrev pub cell_of : Local → ℕ → Cell
cell_of l j = slice_index_or l.cells j (record { words = []; ticket = None; set = []; offer = 0 })

-- a cell may be written: it was never linked since it was last written, or its ticket is below FREE
abbrev pub IsIdleAt : ℕ → Option ℕ → Type 0
IsIdleAt free None = Unit {0}
IsIdleAt free (Some ticket) = ticket < free

-- a caller's cell may be written, as far as the caller has seen FREE
abbrev pub IsIdle : Local → ℕ → Type 0
IsIdle l j = IsIdleAt l.seen_free (cell_of l j).ticket

-- the entry that stands in a caller's cell
abbrev pub entry_in : Local → ℕ → Entry
entry_in l j = record { caller = l.number; number = slice_index (cell_of l j).words 0; op = slice_range (cell_of l j).words 1 145 }

-- the number of a caller's next entry: its numbers go on from the one in the base
abbrev pub next_number : Base → Local → ℕ
next_number base l = slot_number l.number base.words + length l.own + 1

-- the slot last looked at shows that this ticket can be linked: its slot was never used, or has the ticket before in it
abbrev pub ShowsOpen : ℕ → Option SeenSlot → ℕ → Type 0
ShowsOpen callers None ticket = ⊥
ShowsOpen callers (Some seen) ticket =
    (seen.slot ≡ ticket % cell_count callers)
    × ((seen.word ≡ 0) ⊎ ((0 < seen.word) × (link_ticket_of callers seen.word + cell_count callers ≡ ticket)))

-- the slot last looked at shows this ticket in this cell
abbrev pub ShowsTicket : ℕ → Option SeenSlot → ℕ → ℕ → Type 0
ShowsTicket callers None ticket cell = ⊥
ShowsTicket callers (Some seen) ticket cell =
    (seen.slot ≡ ticket % cell_count callers)
    × (0 < seen.word)
    × (link_ticket_of callers seen.word ≡ ticket)
    × (link_cell_of callers seen.word ≡ cell)

-- the word that was seen in the slot last looked at, 0 where none was
abbrev pub seen_word : Option SeenSlot → ℕ
seen_word None = 0
seen_word (Some seen) = seen.word

-- a caller may try to link the entry in its cell: the cell is idle and has the caller's next number, the front is below
-- 2^40 and its slot was seen open, and each own entry is answered (own entries are answered in order, so their counts say
-- it)
abbrev pub CanLink : ℕ → Base → Local → ℕ → Type 0
CanLink callers base l j =
    (j < 16)
    × IsIdle l j
    × (slice_index (cell_of l j).words 0 ≡ next_number base l)
    × (l.front < 2 ^ 40)
    × ShowsOpen callers l.seen_slot l.front
    × (length l.answered ≡ length l.own)

-- a link is a compare-exchange from the word seen to the link code of the front and the cell
abbrev pub exchanged : ℕ → Local → ℕ → ℕ → ℕ
exchanged callers l j found = if found == seen_word l.seen_slot then link_code_of callers l.front (16 * l.number + j) else found

-- a front after a link word was found: the ticket in it is linked, and so is each one before it
abbrev pub raised_front : ℕ → ℕ → ℕ → ℕ
raised_front callers front found = if found == 0 then front else max front (link_ticket_of callers found + 1)

-- the cells after a word was written into one, whose old ticket is forgotten
abbrev pub written : Local → ℕ → ℕ → ℕ → List Cell
written l j i v = slice_set l.cells j (record (cell_of l j) { words = slice_set (cell_of l j).words i v; ticket = None })

-- the local state after a link that won: the entry in the cell is linked at the front
abbrev pub linked : Local → ℕ → Local
linked l j = record l {
  front = l.front + 1;
  own = l.own ++ record { ticket = l.front; entry = entry_in l j } ∷ [];
  cells = slice_set l.cells j (record (cell_of l j) { ticket = Some l.front });
  steps = one_more l.steps;
}

-- the local state after a link that was lost to the ticket found
abbrev pub lost : ℕ → Local → ℕ → Local
lost callers l found = record l { front = raised_front callers l.front found; steps = one_more l.steps }
