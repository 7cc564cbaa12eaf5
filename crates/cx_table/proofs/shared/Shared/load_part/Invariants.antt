use Rattle.std.proofs.Common.{◌≡◌, ◌+◌, List, ℕ, length}
use Rattle.atomic_table.specs.Table.{Me}
use Rattle.table_invariant.specs.declared.rule.Known.{Known}
use Rattle.table_invariant.specs.Running.{instance_at}
use Rattle.cx_table.specs.Runs.{AreLoaded}
use Rattle.cx_table.proofs.shared.Shared.load_part.Given as goal

-- more of the words were loaded
abbrev pub invariant-loop-j : goal.invariant-loop-j
invariant-loop-j g l =
    let instance = instance_at l.self g.O.Object.step g.O.Object.only_reads in record {
      table : l.seat.table_id ≡ l.self.table;
      loaded : (begun : Me ℕ (List Known)) → AreLoaded instance l.r l.from begun l.at l.fn.into l.fn.seat.me → AreLoaded instance l.r l.from begun (l.at + l.j) l.into l.seat.me;
      length : length l.into ≡ length l.fn.into;
    }
