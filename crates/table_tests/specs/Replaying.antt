-- Callers in the tests of replicas: which have no right, and what a step leaves of one.
use Rattle.std.specs.Prelude.{◌≡◌, ◌<◌, ℕ, [], None, Result, Ok, Err}
use Rattle.cx_core.specs.declared.local.Local.{Local}
use Rattle.cx_core.specs.declared.local.Protection.TheVariants.{Unprotected}
use Rattle.cx_core.specs.QueueEvents.{IsIdle}
use Rattle.table_invariant.specs.Running.{IsSeatOf, Running}
use Rattle.table_invariant.specs.Seats.{Seated}
use Rattle.cx_table.specs.Right.{Right, WonRight}
use Rattle.cx_table.specs.Tokens.{IsDowngradedOf}
use Rattle.mutation_queue.specs.declared.links.LinkTried.{LinkTried}
use Rattle.mutation_queue.specs.declared.links.LinkTried.TheVariants.{Again, Linked, Worn}

-- a caller has no right on a replica
pub record HasNoRight (l : Local) : Type 0 where
  pub exclusive : l.exclusive ≡ None
  pub shared : l.shared ≡ None
  pub passer : l.passer ≡ None
  pub downgraded : l.downgraded ≡ None
  pub won : l.won ≡ None

-- a seat is of a caller of the table `r` without entries, rights or a protection, whose cell 0 may be written
pub record IsNew {O : Type 0} (r : Running O) (seat : Seated) : Type 0 where
  pub of : IsSeatOf r seat
  pub idle : IsIdle seat.known.local 0
  pub own : seat.known.local.own ≡ []
  pub answered : seat.known.local.answered ≡ []
  pub free : HasNoRight seat.known.local
  pub protection : seat.known.local.protection ≡ Unprotected

-- a seat is of a caller of the table `r` without rights or a protection
pub record IsFree {O : Type 0} (r : Running O) (seat : Seated) : Type 0 where
  pub of : IsSeatOf r seat
  pub free : HasNoRight seat.known.local
  pub protection : seat.known.local.protection ≡ Unprotected

-- where a try to link gave a ticket, the caller knows that the entry with it is linked: it is before the tail that the caller knows
abbrev pub KnowsLinked : Seated → LinkTried → Type 0
KnowsLinked seat (Linked ticket) = ticket < seat.known.local.front
KnowsLinked seat Again = Unit {0}
KnowsLinked seat Worn = Unit {0}

-- from the seat `before` to the seat `after` the tail that the caller knows, the replica that it has downgraded, and its protection stay
pub record Keeps (before after : Seated) : Type 0 where
  pub front : after.known.local.front ≡ before.known.local.front
  pub downgraded : after.known.local.downgraded ≡ before.known.local.downgraded
  pub protection : after.known.local.protection ≡ before.known.local.protection

-- a publication gave either a win, or the right on the downgraded replica back, which the caller still has
abbrev pub GivenBack : ℕ → Seated → Result WonRight Right → Type 0
GivenBack callers seat (Ok won) = Unit {0}
GivenBack callers seat (Err held) = IsDowngradedOf callers seat held
