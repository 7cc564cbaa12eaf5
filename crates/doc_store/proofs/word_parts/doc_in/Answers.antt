use Rattle.std.proofs.Common.{get_or, take, drop, refl}
use Rattle.doc_store.proofs.OpParts.{document_fits}
use Rattle.doc_store.proofs.word_parts.doc_in.Goals as goal

pub invariant_of-result : goal.invariant_of-result
invariant_of-result c =
    let op = c.args.op.now in
    record { packed = document_fits op c.requires.op (get_or op 2 0) (take 128 (drop 16 op)) c.requires.is refl refl }
