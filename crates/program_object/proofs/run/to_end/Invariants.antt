use Rattle.std.proofs.Common.{◌≡◌, ◌-◌, ◌≤◌, IsTrue, IsFalse}
use Rattle.cx_base.specs.Memory.{Becomes, Framed}
use Rattle.program_object.specs.Run.{RunsOn, setting}
use Rattle.program_object.proofs.run.to_end.Given as goal

-- the part of the run that is left, from the machine and the words as they are, ends as the whole run does
abbrev pub invariant-loop-turn : goal.invariant-loop-turn
invariant-loop-turn g l = record {
  done : Becomes (g.M.Memory.stands l.fn.mem) (g.M.Memory.stands l.mem)
      (λ before now. RunsOn (setting l.code l.constants l.words l.request l.writes) l.fuel (l.fuel - l.turn) l.fn.machine l.fn.undo before l.machine l.undo now);
  kept : IsFalse l.writes → Becomes (g.M.Memory.stands l.fn.mem) (g.M.Memory.stands l.mem) ◌≡◌;
  size : g.M.Memory.size l.mem ≡ l.words;
  writable : IsTrue l.writes → IsTrue (g.M.Memory.writable l.mem);
  few : l.undo.count ≤ 256;
  framed : Framed g.M.Memory.size g.M.Memory.fixed g.M.Memory.writable g.M.Memory.left l.fn.mem l.mem;
}
