-- What the tests speak of.
use Rattle.std.specs.Prelude.{◌≡◌, ◌+◌, ◌⊎◌, ℕ, List, [], ◌∷◌, None}
use Rattle.cx_core.specs.declared.entry.Entry.{Entry}
use Rattle.cx_core.specs.declared.local.Linked.{Linked}
use Rattle.cx_core.specs.declared.local.Local.{Local}
use Rattle.cx_core.specs.QueueEvents.{IsIdle}
use Rattle.cx_table.specs.Running.{IsSeatOf, Running}
use Rattle.cx_table.specs.Seats.{Seated}
use Rattle.mutation_queue.specs.declared.links.LinkTried.{LinkTried}
use Rattle.mutation_queue.specs.declared.links.LinkTried.TheVariants.{Again, Linked as LinkedAt, Worn}

-- a caller without entries, whose cell 0 is idle and which scans nothing
pub record IsNew (l : Local) : Type 0 where
  pub idle : IsIdle l 0
  pub scan : l.scan ≡ None
  pub own : l.own ≡ []
  pub answered : l.answered ≡ []

-- the two seats of a table of two callers
pub record IsPairOf {O : Type 0} (r : Running O) (first second : Seated) : Type 0 where
  pub callers : r.callers ≡ 2
  pub first_of : IsSeatOf r first
  pub second_of : IsSeatOf r second
  pub zero : first.known.local.number ≡ 0
  pub one : second.known.local.number ≡ 1

-- a caller's first entry since the table was made, with a ticket: its number is the one after the base's
abbrev pub first_entry : Seated → ℕ → List ℕ → Linked
first_entry seat ticket op = record { ticket = ticket; entry = record { caller = seat.known.local.number; number = seat.before + 1; op = op } }

-- the caller has one entry, of this operation, with this ticket
abbrev pub HasLinked : Seated → ℕ → List ℕ → Type 0
HasLinked seat ticket op = seat.known.local.own ≡ first_entry seat ticket op ∷ []

-- where a try linked, the caller has that entry and no other
abbrev pub HasTried : Seated → List ℕ → LinkTried → Type 0
HasTried seat op (LinkedAt ticket) = HasLinked seat ticket op
HasTried seat op Again = seat.known.local.own ≡ []
HasTried seat op Worn = seat.known.local.own ≡ []

-- a history from a place on has these two entries, in this order, and no others
pub record AreInOrder (place : ℕ) (history : List Entry) (a b : Linked) : Type 0 where
  pub entries : history ≡ a.entry ∷ b.entry ∷ []
  pub first : a.ticket ≡ place
  pub next : b.ticket ≡ place + 1

-- a history from a place on has each of these entries once, at the first two tickets, and no others
abbrev pub OneOfEach : ℕ → List Entry → Linked → Linked → Type 0
OneOfEach place history a b = AreInOrder place history a b ⊎ AreInOrder place history b a
