-- The tree that words stand for, and words with the links of a tree.
use Rattle.std.specs.Prelude.{◌/◌, ◌%◌, ◌==◌, ℕ, zero, suc, List, length, map, slice_index, if◌then◌else◌}
use Rattle.std.specs.List.{range_with_len}
use Rattle.avl_words.specs.Tree.{Tree, Empty, Node, height}
use Rattle.avl_words.specs.Lines.{word_of, with_word}
use Rattle.avl_words.specs.Words.{root}

-- the tree below a link, at most so high
abbrev pub tree_at : ℕ → ℕ → List ℕ → Tree ℕ
tree_at zero line words = Empty
tree_at (suc n) line words =
    if line == 0 then Empty else Node (tree_at n (word_of words line 0) words) line (tree_at n (word_of words line 1) words)

-- the tree that words stand for
unfoldable pub tree_in : List ℕ → Tree ℕ
tree_in words = tree_at 64 (word_of words 0 1) words

-- a word of a node with these children and this height
abbrev pub node_word : ℕ → ℕ → ℕ → ℕ → ℕ → ℕ
node_word left right high zero old = left
node_word left right high (suc zero) old = right
node_word left right high (suc (suc zero)) old = high
node_word left right high (suc (suc (suc i))) old = old

-- word i of a line, where a tree stands, and the old word where it says nothing
abbrev pub link_of : Tree ℕ → ℕ → ℕ → ℕ → ℕ
link_of Empty line i old = old
link_of (Node l x r) line i old =
    if x == line then node_word (root l) (root r) (height (Node l x r)) i old else link_of l line i (link_of r line i old)

-- words with the links and heights of a tree's nodes, and the others as they were
unfoldable pub with_links : Tree ℕ → List ℕ → List ℕ
with_links t words = map (λ p. link_of t (p / 8) (p % 8) (slice_index words p)) (range_with_len 0 (length words))

-- words with a tree's links, whose root header word 1 names
unfoldable pub with_tree : Tree ℕ → List ℕ → List ℕ
with_tree t words = with_word 0 1 (root t) (with_links t words)
