use Rattle.std.proofs.Common.{◌≡◌, ◌*◌, ◌<◌, ℕ, get_or, drop}
use Rattle.cx_base.specs.Packing.{packed_at}
use Rattle.cx_base.proofs.packed_bytes.pack_front.Given as goal

abbrev pub invariant-loop-k : goal.invariant-loop-k
invariant-loop-k l = record {
  written : (k : ℕ) → k < l.k → get_or l.into k 0 ≡ packed_at l.bytes k;
  rest : l.rest ≡ drop (8 * l.k) l.bytes;
}
