use Rattle.std.proofs.Common.{subst, sym}
use Rattle.cx_base.specs.Packing.{unpacked}
use Rattle.cx_base.specs.Store.{IsKey, IsDocument}
use Rattle.word_index.proofs.Afterwards.{index_after_insert}
use Rattle.cx_base.proofs.MemoryLemmas.{always_after}
use Rattle.word_tests.proofs.index.put.Goals as goal

-- Unless the put halts, all that the memory may hold is a lawful index: an insertion of a key and a document leads from a lawful index to one.
pub returns-clause-lawful : goal.returns-clause-lawful
returns-clause-lawful g c =
    -- the packed words stand for the bytes of a key
    let key : IsKey (unpacked c.key_of.result.len c.key_of.result.words) = subst IsKey (sym c.key_of.ensures.is) c.requires.key in
    -- the packed words stand for the bytes of a document
    let document : IsDocument (unpacked c.pack_document-len.result c.pack_document-len.new.words) = subst IsDocument (sym c.pack_document-len.ensures.is) c.requires.document in
    always_after c.requires.lawful c.in_ok-done.ensures.changes.done (λ x y i r. index_after_insert x y _ _ key document i r.1)
