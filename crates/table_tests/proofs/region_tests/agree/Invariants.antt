use Rattle.std.proofs.Common.{◌-◌}
use Rattle.replica.specs.Stepping.{IsSteppable}
use Rattle.table_tests.proofs.region_tests.agree.Given as goal

-- before the entry `k`, a full step of each entry that is left can be done on both memories
abbrev pub invariant-loop-k : goal.invariant-loop-k
invariant-loop-k g l = record {
  mem : IsSteppable (g.O.Object.line_count l.object) (g.O.Object.lawful l.object) (g.M.Memory.size l.mem) (g.M.Memory.writable l.mem) (g.M.Memory.stands l.mem) (l.count - l.k);
  plain : IsSteppable (g.O.Object.line_count l.object) (g.O.Object.lawful l.object) (g.N.Memory.size l.plain) (g.N.Memory.writable l.plain) (g.N.Memory.stands l.plain) (l.count - l.k);
}
