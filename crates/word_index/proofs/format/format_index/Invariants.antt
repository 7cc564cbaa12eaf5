use Rattle.std.proofs.Common.{IsTrue}
use Rattle.cx_base.specs.Memory.{Becomes, Framed}
use Rattle.avl_words.specs.Lines.{IsPartLength}
use Rattle.word_index.proofs.Arrangements.{EmptySoFar}
use Rattle.word_index.proofs.format.format_index.Given as goal

abbrev pub invariant-loop-at : goal.invariant-loop-at
invariant-loop-at g l = record {
  done : Becomes (g.M.Memory.stands l.fn.mem) (g.M.Memory.stands l.mem) (EmptySoFar l.version l.at);
  sized : IsPartLength (g.M.Memory.size l.mem);
  can_store : IsTrue (g.M.Memory.writable l.mem);
  framed : Framed g.M.Memory.size g.M.Memory.fixed g.M.Memory.writable g.M.Memory.left l.fn.mem l.mem;
}
