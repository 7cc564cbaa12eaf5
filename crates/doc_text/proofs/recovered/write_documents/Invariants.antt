use Rattle.std.proofs.Common.{◌≡◌, ◌++◌, flat_map, take}
use Rattle.doc_text.specs.Recovered.{document_text}
use Rattle.doc_text.proofs.recovered.write_documents.Given as goal

abbrev pub invariant-loop-pair : goal.invariant-loop-pair
invariant-loop-pair l = l.out.items ≡ l.initial.out.items ++ flat_map document_text (take l.pair-index l.documents)
