use Rattle.std.proofs.Common.{◌≡◌}
use Rattle.cx_base.specs.Memory.{Becomes}
use Rattle.table_tests.proofs.region_tests.same_words.Given as goal

-- the loads so far changed neither memory
abbrev pub invariant-loop-at : goal.invariant-loop-at
invariant-loop-at g l = record {
  mem : Becomes (g.M.Memory.stands l.fn.mem) (g.M.Memory.stands l.mem) ◌≡◌;
  other : Becomes (g.N.Memory.stands l.fn.other) (g.N.Memory.stands l.other) ◌≡◌;
  size : g.M.Memory.size l.mem ≡ g.M.Memory.size l.fn.mem;
  writable : g.M.Memory.writable l.mem ≡ g.M.Memory.writable l.fn.mem;
  other_size : g.N.Memory.size l.other ≡ g.N.Memory.size l.fn.other;
  other_writable : g.N.Memory.writable l.other ≡ g.N.Memory.writable l.fn.other;
}
