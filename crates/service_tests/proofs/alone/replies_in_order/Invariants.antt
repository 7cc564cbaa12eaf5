use Rattle.std.proofs.Common.{◌≡◌, ◌*◌, IsTrue}
use Rattle.cx_base.specs.Memory.{Always}
use Rattle.service_tests.proofs.alone.replies_in_order.Given as goal

abbrev pub invariant-loop : goal.invariant-loop
invariant-loop g l = record {
  size : g.M.Memory.size l.mem ≡ 8 * g.O.Object.line_count l.object;
  can_store : IsTrue (g.M.Memory.writable l.mem);
  lawful : Always (g.M.Memory.stands l.mem) (g.O.Object.lawful l.object);
}
