use Rattle.std.proofs.Common.{◌≡◌, ◌+◌}
use Rattle.cx_base.specs.Packing.{unpacked}
use Rattle.cx_base.specs.Memory.{Becomes, Framed, Reads}
use Rattle.avl_words.specs.Lines.{IsPartLength}
use Rattle.word_index.specs.Walk.{OnSomeWay}
use Rattle.word_index.proofs.walk.reach.Given as goal

abbrev pub invariant-loop-depth : goal.invariant-loop-depth
invariant-loop-depth g l = record {
  done : Reads (g.M.Memory.stands l.fn.mem) (g.M.Memory.stands l.mem) (OnSomeWay l.past (unpacked l.key.len l.key.words) l._depth l.node l.above);
  counted : l.visits ≡ l.fn.visits + l._depth;
  kept : Becomes (g.M.Memory.stands l.fn.mem) (g.M.Memory.stands l.mem) ◌≡◌;
  sized : IsPartLength (g.M.Memory.size l.mem);
  framed : Framed g.M.Memory.size g.M.Memory.fixed g.M.Memory.writable g.M.Memory.left l.fn.mem l.mem;
}
