use Rattle.std.proofs.Common.{◌≡◌}
use Rattle.cx_base.specs.Memory.{Becomes, Framed, Reads}
use Rattle.avl_words.specs.Lines.{IsPartLength}
use Rattle.word_index.proofs.KeyWords.{Begun}
use Rattle.word_index.proofs.nodes.order_at.Given as goal

abbrev pub invariant-loop-at : goal.invariant-loop-at
invariant-loop-at g l = record {
  done : Reads (g.M.Memory.stands l.fn.mem) (g.M.Memory.stands l.mem) (Begun l.node l.first l.at l.key.words);
  kept : Becomes (g.M.Memory.stands l.fn.mem) (g.M.Memory.stands l.mem) ◌≡◌;
  sized : IsPartLength (g.M.Memory.size l.mem);
  framed : Framed g.M.Memory.size g.M.Memory.fixed g.M.Memory.writable g.M.Memory.left l.fn.mem l.mem;
}
