use Rattle.std.proofs.Common.{arith}
use Rattle.word_index.proofs.Putting.{length_unpacked}
use Rattle.word_index.proofs.insertion.lines_of_pair.Goals as goal

pub returns : goal.returns
returns c =
    let key = c.args.key.now in
    let doc = c.args.doc.now in
    omega (arith, c.div_ceil.ensures, c.div_ceil-2.ensures, length_unpacked key.len key.words, length_unpacked doc.len doc.words.now)
