use Rattle.std.proofs.Common.{◌-◌}
use Rattle.cx_base.specs.Memory.{Becomes, Framed}
use Rattle.avl_words.specs.Lines.{IsPartLength}
use Rattle.avl_words.specs.Mending.{Mending}
use Rattle.avl_words.proofs.replacement.mend.Given as goal

abbrev pub invariant-loop-i : goal.invariant-loop-i
invariant-loop-i g l = record {
  done : Becomes (g.M.Memory.stands l.fn.mem) (g.M.Memory.stands l.mem) (Mending l.way.nodes l.way.sides l.way.depth l.settled l.fn.tree.root l.fn.tree.height (l.way.depth - l.i) l.top.root l.top.height);
  sized : IsPartLength (g.M.Memory.size l.mem);
  framed : Framed g.M.Memory.size g.M.Memory.fixed g.M.Memory.writable g.M.Memory.left l.fn.mem l.mem;
}
