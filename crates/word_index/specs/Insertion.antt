-- A pair is put in.
use Rattle.std.specs.Prelude.{◌≡◌, ◌≢◌, ◌+◌, ◌*◌, ◌≤◌, ℕ, Bool, true, false, List, [], length, is_some}
use Rattle.cx_base.specs.Store.{Store, IsKey, IsDocument, pair_lines, lines_of}
use Rattle.doc_model.specs.Meaning.{document_at, with_pair, has_room}
use Rattle.avl_words.specs.Tree.{Tree}
use Rattle.avl_words.specs.Lines.{line_count}
use Rattle.avl_words.specs.Words.{IsNode}
use Rattle.index_validation.specs.Layout.{PairLayout, lines_at, IsAt, RevisionHead, IsLaidOut, StandsFor, IsIndex}
use Rattle.word_index.specs.Answers.{IsNodeOf}
use Rattle.word_index.specs.Exact.{with_added, with_replaced, inserted_in, with_document}
use Rattle.word_index.specs.Rewriting.{CanExchange}
use Rattle.word_index.specs.Walk.{AtSpot}
use Rattle.word_index.specs.Fresh.{HasRoom}
use Rattle.word_index.specs.declared.insertion.Inserted.{Inserted}
use Rattle.word_index.specs.declared.insertion.Inserted.TheVariants.{New, Replaced, NoRoom}

-- The store has the document at the key afterwards; or it has no room for it, and nothing has changed.
abbrev pub IsInserted : List ℕ → List ℕ → Store → List ℕ → List ℕ → Inserted → Type 0
IsInserted before now store key document NoRoom = (has_room (line_count before) (with_pair key document store) ≡ false) × (now ≡ before)
IsInserted before now store key document New =
    (has_room (line_count before) (with_pair key document store) ≡ true) × (is_some (document_at key store) ≡ false) × StandsFor now 2 (with_pair key document store)
IsInserted before now store key document Replaced =
    (has_room (line_count before) (with_pair key document store) ≡ true) × (is_some (document_at key store) ≡ true) × StandsFor now 2 (with_pair key document store)

-- of each store that the words before stand for in version 2, the document is put at the key, or nothing changed for want of room
abbrev pub Inserts : List ℕ → List ℕ → Inserted → List ℕ → List ℕ → Type 0
Inserts key document inserted before now = (store : Store) → StandsFor before 2 store → IsInserted before now store key document inserted

-- the lines of the pair of a node, 0 where there is no node
pub record LinesAt (node n : ℕ) (words : List ℕ) : Type 0 where
  pub none : node ≡ 0 → n ≡ 0
  pub some : node ≢ 0 → (pair : List ℕ × List ℕ) → IsNodeOf words node pair → n ≡ pair_lines pair

-- a pair stands at a new place, with a revision, whose node is a leaf, beside the tree
pub record IsPairWritten (before now : List ℕ) (head : RevisionHead) (store : Store) (tree : Tree ℕ) (places : List PairLayout) (pair : List ℕ × List ℕ) (revision node : ℕ) : Type 0 where
  pub given : List ℕ
  pub place : PairLayout
  pub here : node ≡ place.node
  pub revised : place.revision ≡ revision
  pub arranged : IsLaidOut now head store tree places given (lines_at place)
  pub is : IsAt now place pair
  pub leaf : IsNode now node 0 0 1
  pub long : length now ≡ length before

-- whatever pairs stood before, with room for one more, the pair stands now at a new place beside their tree, and its node is a leaf
abbrev pub PairWritten : List ℕ × List ℕ → ℕ → ℕ → List ℕ → List ℕ → Type 0
PairWritten pair revision node old now =
    (head : RevisionHead) (store : Store) (tree : Tree ℕ) (places : List PairLayout) (given : List ℕ) → IsLaidOut old head store tree places given [] → HasRoom old places [] (pair_lines pair) → IsPairWritten old now head store tree places pair revision node

-- there is room for a pair whose key is not there, at the place where the walk to its key ended at nothing
pub record CanAdd (words nodes sides : List ℕ) (depth : ℕ) (pair : List ℕ × List ℕ) : Type 0 where
  pub above : ℕ
  pub spot : AtSpot false pair.0 nodes sides depth 0 above words
  pub index : IsIndex words
  pub room : lines_of index.store + pair_lines pair + 1 ≤ line_count words
  pub is_key : IsKey pair.0
  pub is_document : IsDocument pair.1

-- where the walk to a pair's key ended at nothing, and there was room for the pair, the words now are those with the pair added
abbrev pub Adds : List ℕ → List ℕ → ℕ → List ℕ × List ℕ → ℕ → List ℕ → List ℕ → Type 0
Adds nodes sides depth pair revision before now =
    (above : ℕ) → AtSpot false pair.0 nodes sides depth 0 above before → (i : IsIndex before) → lines_of i.store + pair_lines pair + 1 ≤ line_count before → IsKey pair.0 → IsDocument pair.1 →
    now ≡ with_added pair revision before

-- a pair can be put in where the walk to its key ended at nothing, and else its document in place of that of the node there
pub record CanWrite (words nodes sides : List ℕ) (depth node : ℕ) (alike : Bool) (pair : List ℕ × List ℕ) : Type 0 where
  pub new : node ≡ 0 → CanAdd words nodes sides depth pair
  pub over : node ≢ 0 → CanExchange words node alike pair.1

-- a pair with a revision was added where the walk to its key ended at nothing, and else its document and revision replaced those of the node there
pub record WritesAt (nodes sides : List ℕ) (depth node : ℕ) (pair : List ℕ × List ℕ) (revision : ℕ) (inserted : Inserted) (before now : List ℕ) : Type 0 where
  pub new : node ≡ 0 → (inserted ≡ New) × Adds nodes sides depth pair revision before now
  pub over : node ≢ 0 → (inserted ≡ Replaced) × (now ≡ with_replaced pair.1 node revision before)

-- what is known before a document is put at a key: where the walk to it ended, how many lines are in use and how many of them at its end
pub record IsInsertKnown (key nodes sides : List ℕ) (depth node above used old lines : ℕ) (ws : List ℕ) : Type 0 where
  pub index : IsIndex ws
  pub spot : AtSpot false key nodes sides depth node above ws
  pub in_use : (version : ℕ) (store : Store) → StandsFor ws version store → used ≡ lines_of store
  pub here : LinesAt node old ws
  pub long : length ws ≡ 8 * lines

-- the answer is what was done with the document, and the words now are those with the document put at the key
abbrev pub PutsDocument : List ℕ → List ℕ → Inserted → List ℕ → List ℕ → Type 0
PutsDocument key document inserted before now = (inserted ≡ inserted_in key document before) × (now ≡ with_document key document before)
