use Rattle.std.proofs.Common.{◌≡◌, ◌*◌, IsTrue}
use Rattle.cx_base.specs.Memory.{Always}
use Rattle.doc_store.specs.ExactStep.{IsImageOfStore}
use Rattle.word_tests.proofs.revisions.are_answered_in.Given as goal

-- The memory has as many words as the lines of the store, it may be stored to, and all that it may hold is a lawful image of the store.
abbrev pub invariant-loop-row : goal.invariant-loop-row
invariant-loop-row g l = record {
  size : g.M.Memory.size l.mem ≡ 8 * l.store.lines;
  can_store : IsTrue (g.M.Memory.writable l.mem);
  lawful : Always (g.M.Memory.stands l.mem) (IsImageOfStore l.store.lines);
}
