use Rattle.std.proofs.Common.{◌≡◌, ◌+◌, ◌<◌, ℕ, length, slice_index}
use Rattle.cx_base.specs.Memory.{Framed, Reads}
use Rattle.cx_base.proofs.memory.Memory.load_words.Given as goal

-- the first words were given, and they are there in all the words that may be there
abbrev pub invariant-loop-i : goal.invariant-loop-i
invariant-loop-i g l = record {
  read : Reads (g.Self.Memory.stands l.fn.self) (g.Self.Memory.stands l.self) (λ now. (i : ℕ) → i < l.i → slice_index now (l.at + i) ≡ slice_index l.into i);
  framed : Framed g.Self.Memory.size g.Self.Memory.fixed g.Self.Memory.writable g.Self.Memory.left l.fn.self l.self;
  length : length l.into ≡ length l.fn.into;
}
