use Rattle.std.proofs.Common.{arith}
use Rattle.cx_base.proofs.PackingLemmas.{packed-unpacked}
use Rattle.cx_base.proofs.packed_bytes.unpacked_packs.Goals as goal

pub returns : goal.returns
returns c = packed-unpacked c.args.words.now (λ i. let word = c.type_inv.words i in omega arith)
