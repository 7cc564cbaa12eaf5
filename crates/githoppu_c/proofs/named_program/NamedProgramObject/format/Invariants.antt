use Rattle.std.proofs.Common.{◌≡◌, ◌*◌, IsTrue, take}
use Rattle.cx_base.specs.Memory.{Becomes, Framed}
use Rattle.program_object.specs.Meaning.{opening}
use Rattle.githoppu_c.proofs.named_program.NamedProgramObject.format.Given as goal

-- the words that are stored so far, below `at`, are those of the opening image; the memory has 8 words for each line, and is writable
abbrev pub invariant-loop-at : goal.invariant-loop-at
invariant-loop-at g l = record {
  done : Becomes (g.M.Memory.stands l.fn.mem) (g.M.Memory.stands l.mem) (λ _ now. take l.at now ≡ take l.at (opening l.self.lines l.self.version));
  size : g.M.Memory.size l.mem ≡ 8 * l.self.lines;
  writable : IsTrue (g.M.Memory.writable l.mem);
  framed : Framed g.M.Memory.size g.M.Memory.fixed g.M.Memory.writable g.M.Memory.left l.fn.mem l.mem;
}
