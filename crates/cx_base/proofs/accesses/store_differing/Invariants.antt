use Rattle.std.proofs.Common.{◌≡◌, ◌+◌, ◌-◌, ◌<◌, ◌≤◌, ℕ, length, take, slice_index}
use Rattle.cx_base.specs.Memory.{Becomes, Framed, overwritten}
use Rattle.cx_base.proofs.accesses.store_differing.Given as goal

-- the first words were put, and the others are still those that were there
abbrev pub invariant-loop-next : goal.invariant-loop-next
invariant-loop-next g l = record {
  within : l.next ≤ length l.words;
  done : Becomes (g.M.Memory.stands l.fn.mem) (g.M.Memory.stands l.mem)
      (λ before now. (now ≡ overwritten l.at (take l.next l.words) before) × ((j : ℕ) → l.next ≤ j → j < length l.there → slice_index now (l.at + j) ≡ slice_index l.there j));
  framed : Framed g.M.Memory.size g.M.Memory.fixed g.M.Memory.writable g.M.Memory.left l.fn.mem l.mem;
}

abbrev pub decreases-loop-next : goal.decreases-loop-next
decreases-loop-next g l = length l.words - l.next
