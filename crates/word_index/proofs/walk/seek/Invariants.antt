use Rattle.std.proofs.Common.{◌≡◌, ◌+◌, length}
use Rattle.cx_base.specs.Packing.{unpacked}
use Rattle.cx_base.specs.Memory.{Becomes, Framed, Reads}
use Rattle.avl_words.specs.Lines.{IsPartLength}
use Rattle.word_index.specs.Walk.{OnWay}
use Rattle.word_index.proofs.walk.seek.Given as goal

abbrev pub invariant-loop-depth : goal.invariant-loop-depth
invariant-loop-depth g l = record {
  done : Reads (g.M.Memory.stands l.fn.mem) (g.M.Memory.stands l.mem) (OnWay l.past (unpacked l.key.len l.key.words) l.way.nodes l.way.sides l.depth l.node l.above);
  counted : l.visits ≡ l.fn.visits + l.depth;
  nodes_long : length l.way.nodes ≡ 64;
  sides_long : length l.way.sides ≡ 64;
  kept : Becomes (g.M.Memory.stands l.fn.mem) (g.M.Memory.stands l.mem) ◌≡◌;
  sized : IsPartLength (g.M.Memory.size l.mem);
  framed : Framed g.M.Memory.size g.M.Memory.fixed g.M.Memory.writable g.M.Memory.left l.fn.mem l.mem;
}
