use Rattle.std.proofs.Common.{get_or, refl}
use Rattle.doc_store.proofs.OpParts.{key_short}
use Rattle.doc_store.proofs.word_parts.key_in.Goals as goal

pub invariant_of-result : goal.invariant_of-result
invariant_of-result c = record { short = key_short c.args.op.now (get_or c.args.op.now 1 0) c.requires refl }
