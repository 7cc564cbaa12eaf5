use Rattle.std.proofs.Common.{◌≡◌, ◌-◌, ◌*◌, IsTrue}
use Rattle.cx_base.specs.Memory.{Always, Becomes, Framed}
use Rattle.avl_words.specs.Lines.{IsPartLength}
use Rattle.word_index.specs.Exact.{with_chain_filled}
use Rattle.word_index.specs.Rewriting.{HasLines}
use Rattle.word_index.proofs.chain_words.fill_chain.Given as goal

abbrev pub invariant-loop-j : goal.invariant-loop-j
invariant-loop-j g l = record {
  there : Always (g.M.Memory.stands l.mem) (λ ws. HasLines ws l.line (l.count - l.j));
  exact : Becomes (g.M.Memory.stands l.fn.mem) (g.M.Memory.stands l.mem) (λ x y. with_chain_filled l.words (l.count - l.j) (7 * l.j) l.line y ≡ with_chain_filled l.words l.count 0 l.first x);
  sized : IsPartLength (g.M.Memory.size l.mem);
  can_store : IsTrue (g.M.Memory.writable l.mem);
  framed : Framed g.M.Memory.size g.M.Memory.fixed g.M.Memory.writable g.M.Memory.left l.fn.mem l.mem;
}
