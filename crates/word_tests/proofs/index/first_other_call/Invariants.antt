use Rattle.std.proofs.Common.{◌≡◌, IsTrue}
use Rattle.cx_base.specs.Memory.{Always}
use Rattle.index_validation.specs.Layout.{IsIndex}
use Rattle.word_tests.proofs.index.first_other_call.Given as goal

-- The memory has 512 words, it may be stored to, and all that it may hold is a lawful index.
abbrev pub invariant-loop-i : goal.invariant-loop-i
invariant-loop-i g l = record {
  size : g.M.Memory.size l.memory ≡ 512;
  writable : IsTrue (g.M.Memory.writable l.memory);
  lawful : Always (g.M.Memory.stands l.memory) IsIndex;
}
