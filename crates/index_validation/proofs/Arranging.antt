-- What the words of a store show of its tree.
use Rattle.std.proofs.Common.{◌≡◌, ◌<◌, ◌≤◌, ℕ, cond, ltb, leb, ◌&&◌, List, [], ◌∷◌, ◌++◌, length, length-append, refl, sym, ap, ◌∙◌, arith}
use Rattle.std.specs.List.{flat_map}
use Rattle.std.proofs.lemmas.Bool.Decides.{nat_tests}
use Rattle.cx_base.specs.Store.{Store}
use Rattle.avl_words.specs.Tree.{Tree, Empty, Node, size, items}
use Rattle.avl_words.proofs.Depth.{depth_bound}
use Rattle.avl_words.specs.Lines.{word_of}
use Rattle.avl_words.specs.Words.{times, IsTree}
use Rattle.index_validation.specs.Order.{nodes_in_order}
use Rattle.index_validation.specs.Shape.{HasShape}
use Rattle.index_validation.proofs.Orders.{items_count, in_order_is}
use Rattle.index_validation.specs.Lawful.{count_of}
use Rattle.index_validation.specs.Layout.{PairLayout, lines_at, nodes_of, RevisionHead, IsLaidOut}
use Rattle.index_validation.proofs.Counts.{count_append, count_cons}
use Rattle.index_validation.proofs.OneStore.{placed_count}
use Rattle.index_validation.proofs.Totals.{all_lines}

-- how often a line is a node of a tree is how often it stands in the list of the nodes
pub times_is : (line : ℕ) (t : Tree ℕ) → times line t ≡ count_of line (items t)
times_is line Empty = refl
times_is line (Node l x r) = omega (arith, times_is line l, times_is line r, count_append line (items l) (x ∷ items r), count_cons line x (items r))

-- nodes are lines of places
pub nodes_most : (line : ℕ) (places : List PairLayout) → count_of line (nodes_of places) ≤ count_of line (flat_map lines_at places)
nodes_most line [] = omega arith
nodes_most line (p ∷ places) =
    omega (
      arith,
      nodes_most line places,
      count_cons line p.node (nodes_of places),
      count_append line (lines_at p) (flat_map lines_at places),
      count_cons line p.node (p.key_lines ++ p.document_lines),
    )

nodes_few : (places : List PairLayout) → length (nodes_of places) ≤ length (flat_map lines_at places)
nodes_few [] = omega arith
nodes_few (p ∷ places) = omega (arith, nodes_few places, length-append (lines_at p) (flat_map lines_at places))

at_most_one : (line end : ℕ) → cond {A = ℕ} (leb 1 line && ltb line end) 1 0 ≤ 1
at_most_one line end = grind (arith, nat_tests)

-- fewer nodes than lines
pub tree_few : (ws : List ℕ) (head : RevisionHead) (store : Store) (tree : Tree ℕ) (places : List PairLayout) (given loose : List ℕ) → IsLaidOut ws head store tree places given loose → size tree < word_of ws 0 3
tree_few ws head store tree places given loose a =
    let total = all_lines ws head store tree places given loose a in
    let nodes = ap length a.nodes.in_order in
    omega (arith, total, nodes, nodes_few places, items_count tree)

pub arranged_tree : (ws : List ℕ) (head : RevisionHead) (store : Store) (tree : Tree ℕ) (places : List PairLayout) (given loose : List ℕ) → IsLaidOut ws head store tree places given loose → IsTree ws tree
arranged_tree ws head store tree places given loose a =
    let lines = flat_map lines_at places in
    let few = tree_few ws head store tree places given loose a in
    record {
      root_is = a.nodes.root_is;
      stands = a.nodes.shape;
      balanced = a.nodes.balanced;
      once = λ line. (
          let nodes = ap (count_of line) a.nodes.in_order in
          omega (arith, times_is line tree, nodes, nodes_most line places, count_append line (lines ++ given) loose, count_append line lines given, a.once line, at_most_one line (word_of ws 0 3)));
      few = (let to = a.end_to in let sized = a.sized.few in omega arith);
    }

pub arranged_count : (ws : List ℕ) (head : RevisionHead) (store : Store) (tree : Tree ℕ) (places : List PairLayout) (given loose : List ℕ) → IsLaidOut ws head store tree places given loose → size tree ≡ word_of ws 0 5
arranged_count ws head store tree places given loose a =
    let nodes = ap length a.nodes.in_order in
    let pairs = a.pair_count in
    omega (arith, nodes, pairs, items_count tree, placed_count ws places store a.nodes.pairs)

-- the nodes of the pairs' places are those of the tree, in order
pub arranged_nodes : (ws : List ℕ) (head : RevisionHead) (store : Store) (tree : Tree ℕ) (places : List PairLayout) (given loose : List ℕ) → IsLaidOut ws head store tree places given loose →
    nodes_of places ≡ nodes_in_order (word_of ws 0 1) ws
arranged_nodes ws head store tree places given loose a =
    let t = arranged_tree ws head store tree places given loose a in
    sym (in_order_is ws tree (word_of ws 0 1) a.nodes.shape (sym a.nodes.root_is) (depth_bound tree a.nodes.balanced t.few) ∙ a.nodes.in_order)

pub arranged_shape : (ws : List ℕ) (head : RevisionHead) (store : Store) (tree : Tree ℕ) (places : List PairLayout) (given loose : List ℕ) → IsLaidOut ws head store tree places given loose →
    HasShape ws (word_of ws 0 1) (word_of ws 0 5)
arranged_shape ws head store tree places given loose a =
    record { tree = tree; stands = a.nodes.shape; balanced = a.nodes.balanced; root_is = sym a.nodes.root_is; counted = arranged_count ws head store tree places given loose a }
