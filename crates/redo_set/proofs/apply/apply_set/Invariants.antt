use Rattle.std.proofs.Common.{◌≡◌, ◌≤◌, slice_index}
use Rattle.cx_base.specs.Memory.{Becomes, Framed}
use Rattle.cx_core.specs.WriteSet.{stored}
use Rattle.redo_set.proofs.apply.apply_set.Given as goal

abbrev pub invariant-loop-m : goal.invariant-loop-m
invariant-loop-m g l = record {
  end : l.m-end ≡ slice_index l.fn.set 0;
  few : l.m-end ≤ 256;
  done : Becomes (g.M.Memory.stands l.fn.mem) (g.M.Memory.stands l.mem) (λ before now. now ≡ stored l.m l.set before);
  framed : Framed g.M.Memory.size g.M.Memory.fixed g.M.Memory.writable g.M.Memory.left l.fn.mem l.mem;
}
