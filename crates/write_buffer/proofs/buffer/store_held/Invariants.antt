use Rattle.cx_base.specs.Memory.{Becomes, Framed}
use Rattle.write_buffer.specs.Buffering.{Covers}
use Rattle.write_buffer.proofs.buffer.store_held.Given as goal

abbrev pub invariant-loop-i : goal.invariant-loop-i
invariant-loop-i g l = record {
  done : Becomes (g.M.Memory.stands l.fn.mem) (g.M.Memory.stands l.mem) (Covers l.i l.held.places l.held.values);
  framed : Framed g.M.Memory.size g.M.Memory.fixed g.M.Memory.writable g.M.Memory.left l.fn.mem l.mem;
}
