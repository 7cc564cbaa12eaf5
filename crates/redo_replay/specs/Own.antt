-- The caller's own entry is done on a replica held exclusively, and its write set offered, or kept by the caller.
use Rattle.std.specs.Prelude.{◌≡◌, ℕ, List, [], map}
use Rattle.cx_base.specs.declared.object.Object.{Ghosts}
use Rattle.cx_core.specs.declared.local.Cell.{Cell}
use Rattle.table_invariant.specs.Running.{IsSeatOf, Running}
use Rattle.table_invariant.specs.Seats.{Seated, StepsOn}
use Rattle.cx_table.specs.Right.{Right}
use Rattle.replica.specs.Held.{unchanged_by_access}
use Rattle.replica.specs.Replays.{IsReady, ShowsReply}

-- the replica is the image after this place, and has this reply for a caller
pub record HasApplied {O : Type 0} (o : Ghosts O) (r : Running O) (held : Right) (at caller : ℕ) (reply : List ℕ) (seat : Seated) : Type 0 where
  pub ready : IsReady o r held at seat
  pub replied : ShowsReply (o.line_count r.object) (o.lawful r.object) r.base (o.step r.object) seat.known caller reply

-- a cell but for its write set and its offer
abbrev pub except_set : Cell → Cell
except_set c = record { words = c.words; ticket = c.ticket; set = []; offer = 0 }

-- what no such work changes: the seat but for the steps, the sets and the offers of the caller's cells, the sets that it keeps, and what is noted of the replica
abbrev pub unchanged_by_own_set : ℕ → Seated → Seated
unchanged_by_own_set replica s = (let b = unchanged_by_access replica s in record b { known = record b.known { local = record b.known.local { cells = map except_set s.known.local.cells }; kept = [] } })

-- whatever was made of it, the seat is one of the table, what no such work changes is as it was, and no step is taken back
pub record KeepsOwn {O : Type 0} (r : Running O) (replica : ℕ) (before after : Seated) : Type 0 where
  pub seat : IsSeatOf r after
  pub rest : unchanged_by_own_set replica after ≡ unchanged_by_own_set replica before
  pub since : StepsOn before after
