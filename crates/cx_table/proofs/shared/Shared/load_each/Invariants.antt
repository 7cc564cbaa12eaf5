use Rattle.std.proofs.Common.{◌≡◌, ◌*◌, length}
use Rattle.table_invariant.specs.Running.{instance_at}
use Rattle.cx_table.specs.Runs.{AreLoaded}
use Rattle.cx_table.proofs.shared.Shared.load_each.Given as goal

-- eight words were loaded by each turn so far, and the others may be
abbrev pub invariant-loop-i : goal.invariant-loop-i
invariant-loop-i g l = record {
  table : l.seat.table_id ≡ l.self.table;
  loaded : AreLoaded (instance_at l.self g.O.Object.step g.O.Object.only_reads) l.r l.from l.fn.seat.me (8 * l.i) l.into l.seat.me;
  length : length l.into ≡ length l.fn.into;
}
