use Rattle.std.proofs.Common.{◌≡◌, ◌∷◌, [], length, take}
use Rattle.table_invariant.specs.Running.{instance_at}
use Rattle.table_invariant.specs.Seats.{known_of}
use Rattle.cx_table.specs.Gaps.{gaps_from}
use Rattle.cx_table.specs.Runs.{TeachesRun}
use Rattle.cx_table.proofs.shared.Shared.load_gaps_each.Given as goal

-- the words so far were loaded
abbrev pub invariant-loop-i : goal.invariant-loop-i
invariant-loop-i g l = record {
  table : l.seat.table_id ≡ l.self.table;
  one : l.seat.me ≡ (known_of l.seat.me.0 ∷ [], []);
  taught : TeachesRun (instance_at l.self g.O.Object.step g.O.Object.only_reads) (gaps_from l.s l.from) (take l.i l.into) l.fn.seat.me l.seat.me;
  length : length l.into ≡ length l.fn.into;
}
