use Rattle.std.proofs.Common.{◌+◌, ◌<◌, ℕ, length, take}
use Rattle.cx_core.specs.RegionEvents.{CanLoad}
use Rattle.table_invariant.specs.Running.{IsSeatOf}
use Rattle.cx_table.specs.Runs.{Runs, loads_from}
use Rattle.replica.proofs.words.load_each.Given as goal

-- the first words were loaded, and the others may be
abbrev pub invariant-loop-i : goal.invariant-loop-i
invariant-loop-i g l = record {
  run : Runs l.shared g.O.Object.step g.O.Object.only_reads (g.O.Object.lawful l.shared.object) (loads_from l.r l.from) (take l.i l.into) l.fn.seat l.seat;
  of : IsSeatOf l.shared l.seat;
  may : (i : ℕ) → i < length l.into → CanLoad l.shared.callers (length l.shared.base.words) l.r (l.from + i) l.seat.known.local;
}
