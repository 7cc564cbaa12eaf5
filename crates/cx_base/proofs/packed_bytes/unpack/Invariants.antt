use Rattle.std.proofs.Common.{◌≡◌, ◌<◌, ℕ, get_or}
use Rattle.cx_base.specs.Packing.{byte_at}
use Rattle.cx_base.proofs.packed_bytes.unpack.Given as goal

abbrev pub invariant-loop-i : goal.invariant-loop-i
invariant-loop-i l = (k : ℕ) → k < l.i → get_or l.into k 0 ≡ byte_at l.words k
