use Rattle.std.proofs.Common.{◌≡◌, ◌*◌, take}
use Rattle.cx_base.specs.Memory.{Becomes, Framed, overwritten}
use Rattle.cx_base.proofs.accesses.store_words.Given as goal

abbrev pub invariant-loop-turn : goal.invariant-loop-turn
invariant-loop-turn g l = record {
  done : Becomes (g.M.Memory.stands l.fn.mem) (g.M.Memory.stands l.mem) (λ before now. now ≡ overwritten l.at (take (144 * l.turn) l.words) before);
  framed : Framed g.M.Memory.size g.M.Memory.fixed g.M.Memory.writable g.M.Memory.left l.fn.mem l.mem;
}
