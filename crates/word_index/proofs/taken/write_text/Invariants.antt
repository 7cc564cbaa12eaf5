use Rattle.std.proofs.Common.{◌≡◌, ◌-◌, IsTrue}
use Rattle.cx_base.specs.Memory.{Becomes, Framed}
use Rattle.avl_words.specs.Lines.{IsPartLength}
use Rattle.word_index.proofs.Writing.{WrittenSoFar}
use Rattle.word_index.specs.Exact.{with_text}
use Rattle.word_index.proofs.taken.write_text.Given as goal

abbrev pub invariant-loop-j : goal.invariant-loop-j
invariant-loop-j g l = record {
  done : Becomes (g.M.Memory.stands l.fn.mem) (g.M.Memory.stands l.mem) (WrittenSoFar l.words l.count l.j l.next);
  exact : Becomes (g.M.Memory.stands l.fn.mem) (g.M.Memory.stands l.mem) (λ x y. with_text l.words (l.count - l.j) l.next y ≡ with_text l.words l.count 0 x);
  sized : IsPartLength (g.M.Memory.size l.mem);
  can_store : IsTrue (g.M.Memory.writable l.mem);
  framed : Framed g.M.Memory.size g.M.Memory.fixed g.M.Memory.writable g.M.Memory.left l.fn.mem l.mem;
}
