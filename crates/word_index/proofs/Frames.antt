-- Lines that a change leaves: what stands in them goes on standing.
use Rattle.std.proofs.Common.{◌≡◌, ◌≢◌, ◌+◌, ◌*◌, ◌/◌, ◌%◌, ◌<◌, ◌≤◌, ℕ, cond, eqb, List, [], ◌∷◌, ◌++◌, length, get_or, count_by, inl, inr, refl, sym, ap, subst, ◌∙◌, arith}
use Rattle.std.specs.List.{flat_map, All}
use Rattle.std.proofs.lemmas.Bool.Decides.{nat_tests}
use Rattle.std.proofs.lemmas.List.{get_or-set_other}
use Rattle.std.proofs.lemmas.Bool.{cases_eq}
use Rattle.std.proofs.lemmas.List.Elements.{All-nil, All-cons, All-append, All-head, All-tail}
use Rattle.std.proofs.lemmas.List.Sums.{get_or-le-sum_by, sum_by-append, sum_by-cons}
use Rattle.cx_base.specs.Store.{Store}
use Rattle.avl_words.specs.Lines.{with_word, word_of}
use Rattle.avl_words.specs.Tree.{Tree, Empty, Node, items}
use Rattle.avl_words.specs.Words.{times as tree_times}
use Rattle.avl_words.proofs.Frames.{stands_same}
use Rattle.index_validation.specs.Layout.{IsChain, Holds, PairLayout, lines_at, nodes_of, IsAt, Placed, Nodes}
use Rattle.index_validation.proofs.Lines.{all_left, all_right}
use Rattle.word_index.specs.Changes.{SameLine}

-- how often a line stands in a list
abbrev pub times : ℕ → List ℕ → ℕ
times line lines = count_by (λ x. eqb x line) lines

pub times_append : (line : ℕ) (xs ys : List ℕ) → times line (xs ++ ys) ≡ times line xs + times line ys
times_append line xs ys = sum_by-append (λ x. cond (eqb x line) 1 0) xs ys

pub times_cons : (line x : ℕ) (xs : List ℕ) → times line (x ∷ xs) ≡ cond (eqb x line) 1 0 + times line xs
times_cons line x xs = sum_by-cons (λ x. cond (eqb x line) 1 0) x xs

pub times_self : (line : ℕ) → ◌≡◌ {A = ℕ} (cond (eqb line line) 1 0) 1
times_self line = grind (arith, nat_tests)

-- where the mark that `x` is the line, 1 or 0, is at most a number `n` that is 0, `x` is another line
differs : (x line n : ℕ) → cond (eqb x line) 1 0 ≤ n → n ≡ 0 → x ≢ line
differs x line n least e = λ same. absurd (let one = subst (λ y. cond (eqb y line) 1 0 ≤ n) same least in omega (arith, one, times_self line))

pub absent : (line : ℕ) (lines : List ℕ) → times line lines ≡ 0 → All (λ x. x ≢ line) lines
absent line lines e = λ k d l. differs (get_or lines k d) line (times line lines) (get_or-le-sum_by (λ x. cond (eqb x line) 1 0) lines k d l) e

-- a stored word leaves the other lines
pub stored_elsewhere : (ws : List ℕ) (line i v other : ℕ) → i < 8 → other ≢ line → SameLine ws (with_word line i v ws) other
stored_elsewhere ws line i v other below ne = λ j l. get_or-set_other ws (8 * line + i) (8 * other + j) v 0 (let apart : other ≢ line = ne in omega arith)

-- a line whose words are the same in `a` and `b`, and in `b` and `c`, has the same words in `a` and `c`
pub same_then : (a b c : List ℕ) (line : ℕ) → SameLine a b line → SameLine b c line → SameLine a c line
same_then a b c line p q = λ i l. q i l ∙ p i l

-- a chain of lines that are as they were is still that chain
pub chain_same : (ws now lines : List ℕ) (first : ℕ) → All (SameLine ws now) lines → IsChain ws first lines → IsChain now first lines
chain_same ws now [] first same c = c
chain_same ws now (line ∷ lines) first same c =
    let here = All-head (SameLine ws now) line lines same in
    (c.0, subst (λ x. IsChain now x lines) (sym (here 0 (omega arith))) (chain_same ws now lines (word_of ws line 0) (All-tail (SameLine ws now) line lines same) c.1))

-- the word `i` of the words in `n` blocks, 7 in each, stands in a block `i / 7` that is one of them
word_line : (i n : ℕ) → i < 7 * n → i / 7 < n
word_line i n l = omega arith

pub holds_same : (ws now : List ℕ) (first : ℕ) (lines bytes : List ℕ) → All (SameLine ws now) lines → Holds ws first lines bytes → Holds now first lines bytes
holds_same ws now first lines bytes same h = record {
  chain = chain_same ws now lines first same h.chain;
  enough = h.enough;
  packed = λ i l. same (i / 7) 0 (word_line i (length lines) l) (1 + i % 7) (omega arith) ∙ h.packed i l;
}

-- the words of a node that say nothing of the tree
abbrev pub SameNode : List ℕ → List ℕ → ℕ → Type 0
SameNode before now node = (i : ℕ) → i < 8 → 3 ≤ i → word_of now node i ≡ word_of before node i

pub at_same : (ws now : List ℕ) (place : PairLayout) (pair : List ℕ × List ℕ) → SameNode ws now place.node → All (SameLine ws now) (place.key_lines ++ place.document_lines) → IsAt ws place pair → IsAt now place pair
at_same ws now place pair node blocks is = record {
  key = subst (λ x. Holds now x place.key_lines pair.0) (sym (node 3 (omega arith) (omega arith)))
      (holds_same ws now (word_of ws place.node 3) place.key_lines pair.0 (all_left (SameLine ws now) place.key_lines place.document_lines blocks) is.key);
  key_length = node 4 (omega arith) (omega arith) ∙ is.key_length;
  document = subst (λ x. Holds now x place.document_lines pair.1) (sym (node 5 (omega arith) (omega arith)))
      (holds_same ws now (word_of ws place.node 5) place.document_lines pair.1 (all_right (SameLine ws now) place.key_lines place.document_lines blocks) is.document);
  document_length = node 6 (omega arith) (omega arith) ∙ is.document_length;
  revised = node 7 (omega arith) (omega arith) ∙ is.revised;
}

-- the blocks of places
abbrev pub blocks_of : List PairLayout → List ℕ
blocks_of places = flat_map (λ p. p.key_lines ++ p.document_lines) places

pub nodes_and_blocks : (x : ℕ) (places : List PairLayout) → times x (flat_map lines_at places) ≡ times x (nodes_of places) + times x (blocks_of places)
nodes_and_blocks x [] = refl
nodes_and_blocks x (p ∷ places) =
    omega (
      arith,
      nodes_and_blocks x places,
      times_append x (lines_at p) (flat_map lines_at places),
      times_cons x p.node (p.key_lines ++ p.document_lines),
      times_cons x p.node (nodes_of places),
      times_append x (p.key_lines ++ p.document_lines) (blocks_of places),
    )

-- pairs of which the nodes' own words and the blocks are as they were
pub placed_same : (ws now : List ℕ) (places : List PairLayout) (store : Store) → All (SameNode ws now) (nodes_of places) → All (SameLine ws now) (blocks_of places) → Placed ws places store → Placed now places store
placed_same ws now [] [] nodes blocks n = n
placed_same ws now [] (pair ∷ store) nodes blocks n = absurd n
placed_same ws now (place ∷ places) [] nodes blocks n = absurd n
placed_same ws now (place ∷ places) (pair ∷ store) nodes blocks n = (
  at_same ws now place pair (All-head (SameNode ws now) place.node (nodes_of places) nodes) (all_left (SameLine ws now) (place.key_lines ++ place.document_lines) (blocks_of places) blocks) n.0,
  placed_same ws now places store (All-tail (SameNode ws now) place.node (nodes_of places) nodes) (all_right (SameLine ws now) (place.key_lines ++ place.document_lines) (blocks_of places) blocks) n.1,
)

-- what holds of all lines of places holds of their nodes and of their blocks
pub all_nodes : (P : ℕ → Type 0) (places : List PairLayout) → All P (flat_map lines_at places) → All P (nodes_of places)
all_nodes P [] all = All-nil P
all_nodes P (p ∷ places) all =
    All-cons P p.node (nodes_of places) (All-head P p.node (p.key_lines ++ p.document_lines) (all_left P (lines_at p) (flat_map lines_at places) all)) (all_nodes P places (all_right P (lines_at p) (flat_map lines_at places) all))

pub all_blocks : (P : ℕ → Type 0) (places : List PairLayout) → All P (flat_map lines_at places) → All P (blocks_of places)
all_blocks P [] all = All-nil P
all_blocks P (p ∷ places) all =
    All-append P (p.key_lines ++ p.document_lines) (blocks_of places) (All-tail P p.node (p.key_lines ++ p.document_lines) (all_left P (lines_at p) (flat_map lines_at places) all))
    (all_blocks P places (all_right P (lines_at p) (flat_map lines_at places) all))

-- what holds of all lines of a list holds of a line that stands there
pub found : (P : ℕ → Type 0) (x : ℕ) (lines : List ℕ) → All P lines → times x lines ≢ 0 → P x
found P x [] all n = absurd (n refl)
found P x (l ∷ lines) all n =
    elim (cases_eq l x) as (λ _. P x) [
      | inl e ↦ subst P e (All-head P l lines all)
      | inr ne ↦ found P x lines (All-tail P l lines all) (λ z. n (let c = times_cons x l lines in let o : ◌≡◌ {A = ℕ} (cond (eqb l x) 1 0) 0 = grind (arith, nat_tests) in omega (arith, c, o, z)))
    ]

-- the lines of a tree, counted in order
pub tree_lines : (x : ℕ) (t : Tree ℕ) → tree_times x t ≡ times x (items t)
tree_lines x Empty = refl
tree_lines x (Node l y r) = omega (arith, tree_lines x l, tree_lines x r, times_append x (items l) (y ∷ items r), times_cons x y (items r))

pub place_lines_counted : (x : ℕ) (ws : List ℕ) (from : ℕ) (tree : Tree ℕ) (places : List PairLayout) (store : Store) → Nodes ws from tree places store → tree_times x tree ≡ times x (nodes_of places)
place_lines_counted x ws from tree places store n = tree_lines x tree ∙ ap (times x) n.in_order

pub nodes_same : (ws now : List ℕ) (from : ℕ) (tree : Tree ℕ) (places : List PairLayout) (store : Store) → length now ≡ length ws → All (SameLine ws now) (flat_map lines_at places) → Nodes ws from tree places store → Nodes now from tree places store
nodes_same ws now from tree places store long same n = record {
  root_is = n.root_is;
  shape = stands_same ws now tree long
      (λ line some. found (SameLine ws now) line (nodes_of places) (all_nodes (SameLine ws now) places same) (λ z. some (place_lines_counted line ws from tree places store n ∙ z))) n.shape;
  balanced = n.balanced;
  in_order = n.in_order;
  pairs = placed_same ws now places store (λ k d l i b far. all_nodes (SameLine ws now) places same k d l i b) (all_blocks (SameLine ws now) places same) n.pairs;
}
