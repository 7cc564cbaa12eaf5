-- Words that stand for a store go on doing so.
use Rattle.std.proofs.Common.{◌≡◌, ℕ, List, Some, subst, sym}
use Rattle.cx_base.specs.Store.{Store, IsKey, IsDocument}
use Rattle.doc_model.specs.Meaning.{with_pair, without_key}
use Rattle.index_validation.specs.Layout.{StandsFor, IsIndex}
use Rattle.word_index.specs.Answers.{IsFound}
use Rattle.word_index.specs.Exact.{with_document, with_key_removed}
use Rattle.word_index.specs.Insertion.{Inserts}
use Rattle.word_index.specs.Walk.{HasNode}
use Rattle.word_index.specs.declared.insertion.Inserted.{Inserted}
use Rattle.word_index.specs.declared.insertion.Inserted.TheVariants.{New, Replaced, NoRoom}
use Rattle.word_index.proofs.ExactChanges.{removed_is}
use Rattle.word_index.proofs.Inserting.{inserted_is}

-- whichever an insertion does, to find no room, to add or to replace, the words after it stand for a store
after_insert : (inserted : Inserted) (x y key document : List ℕ) → IsIndex x → Inserts key document inserted x y → IsIndex y
after_insert NoRoom x y key document i r = subst IsIndex (sym (r i.store i.stands).1) i
after_insert New x y key document i r = record { store = with_pair key document i.store; stands = (r i.store i.stands).2 }
after_insert Replaced x y key document i r = record { store = with_pair key document i.store; stands = (r i.store i.stands).2 }

-- words that stand for a store do so after the document of a key was put in
pub index_after_insert : (x y key document : List ℕ) → IsKey key → IsDocument document → IsIndex x → y ≡ with_document key document x → IsIndex y
index_after_insert x y key document k d i e = subst IsIndex (sym e) (after_insert _ x _ key document i (inserted_is key document x k d))

-- words that stand for a store do so after a key was removed
pub index_after_remove : (x y key : List ℕ) → IsIndex x → y ≡ with_key_removed key x → IsIndex y
index_after_remove x y key i e = subst IsIndex (sym e) (record { store = without_key key i.store; stands = (removed_is key x i.store i.stands).after })

pub found_node : (ws key : List ℕ) (node : ℕ) → IsIndex ws → ((version : ℕ) (store : Store) → StandsFor ws version store → IsFound ws key (Some node) store) → HasNode ws node
found_node ws key node i r = (let f = r 2 i.store i.stands in record { pair = (key, f.0); is = f.2 })
