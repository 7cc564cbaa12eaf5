use Rattle.std.proofs.Common.{◌≡◌, ◌-◌, IsTrue}
use Rattle.cx_base.specs.Memory.{Becomes, Framed}
use Rattle.avl_words.specs.Lines.{IsPartLength}
use Rattle.word_index.proofs.Giving.{ChainSoFar}
use Rattle.word_index.specs.Exact.{with_chain_given}
use Rattle.word_index.proofs.given_back.give_chain.Given as goal

abbrev pub invariant-loop : goal.invariant-loop
invariant-loop g l = record {
  done : Becomes (g.M.Memory.stands l.fn.mem) (g.M.Memory.stands l.mem) (ChainSoFar l.first l.count l.counter l.line);
  exact : Becomes (g.M.Memory.stands l.fn.mem) (g.M.Memory.stands l.mem) (λ x y. with_chain_given (l.count - l.counter) l.line y ≡ with_chain_given l.count l.first x);
  sized : IsPartLength (g.M.Memory.size l.mem);
  can_store : IsTrue (g.M.Memory.writable l.mem);
  framed : Framed g.M.Memory.size g.M.Memory.fixed g.M.Memory.writable g.M.Memory.left l.fn.mem l.mem;
}
