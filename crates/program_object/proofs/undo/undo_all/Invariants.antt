use Rattle.std.proofs.Common.{◌≡◌, ◌-◌, IsTrue}
use Rattle.cx_base.specs.Memory.{Becomes, Framed}
use Rattle.program_object.specs.Run.{undone}
use Rattle.program_object.proofs.undo.undo_all.Given as goal

-- putting back the stores that are left, from the words as they are, leads to what putting back all of them leads to
abbrev pub invariant-loop-turn : goal.invariant-loop-turn
invariant-loop-turn g l = record {
  done : Becomes (g.M.Memory.stands l.fn.mem) (g.M.Memory.stands l.mem)
      (λ before now. undone l.words (l.undo.count - l.turn) l.undo.places l.undo.words now ≡ undone l.words l.undo.count l.undo.places l.undo.words before);
  size : g.M.Memory.size l.mem ≡ l.words;
  writable : IsTrue (g.M.Memory.writable l.mem);
  framed : Framed g.M.Memory.size g.M.Memory.fixed g.M.Memory.writable g.M.Memory.left l.fn.mem l.mem;
}
