use Rattle.std.proofs.Common.{refl, arith}
use Rattle.std.specs.Int.{trailing_zeros, w64}
use Rattle.std.specs.Int.Bits.{bit_xor}
use Rattle.word_index.proofs.WordsApart.{lowest, bytes_alike, bytes_apart}
use Rattle.word_index.proofs.texts.first_apart.Goals as goal

pub returns-clause-below : goal.returns-clause-below
returns-clause-below c =
    let t = trailing_zeros w64 (bit_xor c.args.left c.args.right) in
    let bit = lowest c.args.left c.args.right t c.requires (omega arith) (omega arith) refl in
    omega (arith, bit.0)

pub returns-clause-alike : goal.returns-clause-alike
returns-clause-alike c =
    let t = trailing_zeros w64 (bit_xor c.args.left c.args.right) in
    let bit = lowest c.args.left c.args.right t c.requires (omega arith) (omega arith) refl in
    bytes_alike c.args.left c.args.right t bit.2 bit.1

pub returns-clause-apart : goal.returns-clause-apart
returns-clause-apart c =
    let t = trailing_zeros w64 (bit_xor c.args.left c.args.right) in
    let bit = lowest c.args.left c.args.right t c.requires (omega arith) (omega arith) refl in
    bytes_apart c.args.left c.args.right t bit.2 bit.1
