use Rattle.std.proofs.Common.{◌≡◌, ◌≤◌, ◌%◌, ℕ, get_or, length}
use Rattle.cx_base.specs.Memory.{Becomes, Framed, Reads}
use Rattle.avl_words.specs.Lines.{IsPartLength}
use Rattle.index_validation.proofs.BlockReads.{ReadSoFar}
use Rattle.word_index.proofs.blocks.read_words.Given as goal

abbrev pub invariant-loop-i : goal.invariant-loop-i
invariant-loop-i g l = record {
  done : Reads (g.M.Memory.stands l.fn.mem) (g.M.Memory.stands l.mem) (ReadSoFar l.first l.count l.i l.line l.into);
  place : l.place ≡ l.i % 7;
  rest : (k : ℕ) → l.i ≤ k → get_or l.into k 0 ≡ 0;
  room : l.count ≤ length l.into;
  kept : Becomes (g.M.Memory.stands l.fn.mem) (g.M.Memory.stands l.mem) ◌≡◌;
  sized : IsPartLength (g.M.Memory.size l.mem);
  framed : Framed g.M.Memory.size g.M.Memory.fixed g.M.Memory.writable g.M.Memory.left l.fn.mem l.mem;
}
