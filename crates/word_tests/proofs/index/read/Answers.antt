use Rattle.std.proofs.Common.{subst, rules}
use Rattle.cx_base.specs.Packing.{unpacked}
use Rattle.word_index.specs.Answers.{IsFound}
use Rattle.word_index.proofs.Afterwards.{found_node}
use Rattle.cx_base.proofs.ReadLemmas.{always_read}
use Rattle.avl_words.proofs.Memories.{always_kept}
use Rattle.word_tests.proofs.index.read.Goals as goal

-- before the document is read, the node that was found is a node of the index, in all words that the memory may hold
pub read_document-requires-clause-memory : goal.read_document-requires-clause-memory
read_document-requires-clause-memory g c =
    let key = unpacked c.key_of.result.len c.key_of.result.words in
    record {
      sized = search rules;
      all = always_read c.requires.lawful c.in_ok-found.ensures.finds.done (λ ws i r. found_node ws key c.in-Some.node i
          (λ version store s. subst (λ o. IsFound ws key o store) c.in-Some.is (r.node version store s)));
    }

-- where the key is missing, all that the memory may hold is a lawful index still: a search changes nothing
pub returns-in_default-clause-lawful : goal.returns-in_default-clause-lawful
returns-in_default-clause-lawful g c = always_kept c.requires.lawful c.in_ok-found.ensures.finds.kept

-- where the document was read, all that the memory may hold is a lawful index still: a search and a read change nothing
pub returns-clause-lawful : goal.returns-clause-lawful
returns-clause-lawful g c = always_read (always_kept c.requires.lawful c.in_ok-found.ensures.finds.kept) c.in_ok-read_document.ensures.done (λ ws i r. i)
