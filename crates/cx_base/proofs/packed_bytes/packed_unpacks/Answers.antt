use Rattle.std.proofs.Common.{ℕ, ◌<◌, get_or, arith}
use Rattle.cx_base.proofs.PackingLemmas.{packed_byte, packed_fit, unpacked-packed}
use Rattle.cx_base.proofs.packed_bytes.packed_unpacks.Goals as goal

pub returns : goal.returns
returns c =
    let bytes = c.args.bytes.now in
    let small : (i : ℕ) → get_or bytes i 0 < 256 = λ i. (let byte = c.type_inv.bytes i in omega arith) in
    record {
      places = λ i below. packed_byte c.args.words i bytes small below;
      fit = packed_fit c.args.words bytes small;
      back = unpacked-packed c.args.words bytes small c.requires;
    }
