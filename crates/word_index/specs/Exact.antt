-- The words that each change leaves, as a function of the words before it.
use Rattle.std.specs.Prelude.{◌+◌, ◌-◌, ◌*◌, ◌/◌, ◌==◌, ℕ, zero, suc, Bool, List, [], ◌∷◌, ◌++◌, length, map, drop, replicate, slice_index, is_some, if◌then◌else◌}
use Rattle.std.specs.List.{range_with_len}
use Rattle.std.specs.declared.cmp.Ordering.{Ordering}
use Rattle.cx_base.specs.Memory.{overwritten}
use Rattle.cx_base.specs.Store.{blocks, key_cmp}
use Rattle.cx_base.specs.Packing.{packed}
use Rattle.doc_model.specs.Meaning.{document_at, with_pair, has_room}
use Rattle.doc_model.specs.Revisions.{next_revision}
use Rattle.avl_words.specs.Ways.{spot, with_new}
use Rattle.avl_words.specs.Removal.{without}
use Rattle.avl_words.specs.Exact.{tree_in, with_tree}
use Rattle.avl_words.specs.Words.{root}
use Rattle.index_validation.specs.Reading.{text_at, store_in}
use Rattle.avl_words.specs.Lines.{with_word, word_of, line_count}
use Rattle.word_index.specs.Changes.{with_line_given}
use Rattle.word_index.specs.declared.insertion.Inserted.{Inserted}
use Rattle.word_index.specs.declared.insertion.Inserted.TheVariants.{New, Replaced, NoRoom}

-- the header of the empty index, and the words behind it as they were
unfoldable pub with_empty_header : ℕ → List ℕ → List ℕ
with_empty_header version words = (version ∷ 0 ∷ 0 ∷ 1 ∷ replicate 4 0) ++ drop 8 words

-- a chain of the given number of lines is given back
abbrev pub with_chain_given : ℕ → ℕ → List ℕ → List ℕ
with_chain_given zero line words = words
with_chain_given (suc n) line words = with_chain_given n (word_of words line 0) (with_line_given line words)

-- the blocks that a node names are given back
unfoldable pub with_text_given : ℕ → ℕ → List ℕ → List ℕ
with_text_given node at words = with_chain_given ((word_of words node (at + 1) + 55) / 56) (word_of words node at) words

-- a node is given back, after the blocks of its document and of its key
unfoldable pub with_pair_given : ℕ → List ℕ → List ℕ
with_pair_given node words = with_line_given node (with_text_given node 3 (with_text_given node 5 words))

-- the line that is taken next: the first given-back one, or else the first never given
unfoldable pub line_to_take : List ℕ → ℕ
line_to_take words = if word_of words 0 2 == 0 then word_of words 0 3 else word_of words 0 2

-- the next line is taken: out of the given-back ones, or else the first never given
unfoldable pub with_line_taken : List ℕ → List ℕ
with_line_taken words =
    if word_of words 0 2 == 0
    then with_word 0 3 (word_of words 0 3 + 1) words
    else with_word 0 4 (word_of words 0 4 - 1) (with_word 0 2 (word_of words (word_of words 0 2) 0) words)

-- the words of a block: the next line, and seven words of a text
unfoldable pub block_words : ℕ → List ℕ → ℕ → List ℕ
block_words next text from = next ∷ map (λ i. slice_index text (from + i)) (range_with_len 0 7)

-- The first blocks of a text, as many as given, are written into lines taken for them, the last of them first, in front of a
-- chain; with the first line of the chain.
abbrev pub with_text : List ℕ → ℕ → ℕ → List ℕ → ℕ × List ℕ
with_text text zero next words = (next, words)
with_text text (suc n) next words = with_text text n (line_to_take words) (overwritten (8 * line_to_take words) (block_words next text (7 * n)) (with_line_taken words))

-- a pair is written into new lines, its node first, as a leaf, with a revision; with the node
unfoldable pub with_new_pair : List ℕ × List ℕ → ℕ → List ℕ → ℕ × List ℕ
with_new_pair pair revision words =
    let node = line_to_take words in
    let key = with_text (packed 8 pair.0) (blocks pair.0) 0 (with_line_taken words) in
    let document = with_text (packed 128 pair.1) (blocks pair.1) 0 key.1 in
    (node, overwritten (8 * node) (0 ∷ 0 ∷ 1 ∷ key.0 ∷ length pair.0 ∷ document.0 ∷ length pair.1 ∷ revision ∷ []) document.1)

-- how the key of a node compares with a key
abbrev pub order_in : List ℕ → List ℕ → ℕ → Ordering
order_in key words node = key_cmp (text_at node 3 words) key

-- the header counts one pair more
unfoldable pub with_one_more : List ℕ → List ℕ
with_one_more words = with_word 0 5 (word_of words 0 5 + 1) words

-- the header counts one pair less
unfoldable pub with_one_less : List ℕ → List ℕ
with_one_less words = with_word 0 5 (word_of words 0 5 - 1) words

-- a new pair: its node goes where the walk to its key ends
unfoldable pub with_added : List ℕ × List ℕ → ℕ → List ℕ → List ℕ
with_added pair revision words =
    let new = with_new_pair pair revision words in
    with_one_more (with_tree (with_new (order_in pair.0 words) new.0 (tree_in words)) new.1)

-- the node at which the walk to a key ends
unfoldable pub node_at : List ℕ → List ℕ → ℕ
node_at key words = root (spot (order_in key words) [] (tree_in words)).1

-- the node of a key is taken out of the tree
unfoldable pub with_node_cut : List ℕ → List ℕ → List ℕ
with_node_cut key words = with_one_less (with_tree (without (order_in key words) (tree_in words)) words)

-- the blocks of a chain get the words of a text, from one on; each goes on naming the next
abbrev pub with_chain_filled : List ℕ → ℕ → ℕ → ℕ → List ℕ → List ℕ
with_chain_filled text zero from line words = words
with_chain_filled text (suc n) from line words = with_chain_filled text n (from + 7) (word_of words line 0) (overwritten (8 * line) (block_words (word_of words line 0) text from) words)

-- the blocks that a node's document takes
unfoldable pub document_blocks : ℕ → List ℕ → ℕ
document_blocks node words = (word_of words node 6 + 55) / 56

-- A document takes another's place at a node, in the same blocks.
unfoldable pub with_refilled : List ℕ → ℕ → List ℕ → List ℕ
with_refilled document node words = with_word node 6 (length document) (with_chain_filled (packed 128 document) (blocks document) 0 (word_of words node 5) words)

-- a node without its document's blocks, which are given back
unfoldable pub with_emptied : ℕ → List ℕ → List ℕ
with_emptied node words = with_chain_given (document_blocks node words) (word_of words node 5) (with_word node 6 0 (with_word node 5 0 words))

-- A document takes another's place at a node, in new blocks, after the old ones are given back.
unfoldable pub with_renewed : List ℕ → ℕ → List ℕ → List ℕ
with_renewed document node words =
    let text = with_text (packed 128 document) (blocks document) 0 (with_emptied node words) in
    with_word node 6 (length document) (with_word node 5 text.0 text.1)

-- A document takes another's place: in the same blocks where it needs as many, and else in new ones.
unfoldable pub with_rewritten : List ℕ → ℕ → List ℕ → List ℕ
with_rewritten document node words =
    if document_blocks node words == blocks document then with_refilled document node words else with_renewed document node words

-- whether a key is there
unfoldable pub is_key_in : List ℕ → List ℕ → Bool
is_key_in key words = is_some (document_at key (store_in words))

-- a document takes another's place, and the pair gets a revision
unfoldable pub with_replaced : List ℕ → ℕ → ℕ → List ℕ → List ℕ
with_replaced document node revision words = with_word node 7 revision (with_rewritten document node words)

-- a document with a revision is put at a key
unfoldable pub with_written : List ℕ → List ℕ → ℕ → List ℕ → List ℕ
with_written key document revision words =
    if is_key_in key words then with_replaced document (node_at key words) revision words else with_added (key, document) revision words

-- a document is put at a key, where there is room, with the next revision, which becomes the last one given
unfoldable pub with_document : List ℕ → List ℕ → List ℕ → List ℕ
with_document key document words =
    if has_room (line_count words) (with_pair key document (store_in words))
    then with_word 0 6 (next_revision (word_of words 0 6)) (with_written key document (next_revision (word_of words 0 6)) words)
    else words

-- what putting a document at a key answers
unfoldable pub inserted_in : List ℕ → List ℕ → List ℕ → Inserted
inserted_in key document words =
    if has_room (line_count words) (with_pair key document (store_in words))
    then (if is_key_in key words then Replaced else New)
    else NoRoom

-- a key is taken out, where it is there, and its lines are given back
unfoldable pub with_key_removed : List ℕ → List ℕ → List ℕ
with_key_removed key words =
    if is_key_in key words then with_pair_given (node_at key words) (with_node_cut key words) else words
