-- A new pair is put where the walk to its key ended at nothing.
use Rattle.std.proofs.Common.{◌≡◌, ◌^◌, ◌+◌, ◌<◌, ◌≤◌, ℕ, false, List, [], ◌∷◌, ◌++◌, length, refl, sym, ap, ap₂, subst, ◌∙◌, length-append, arith}
use Rattle.std.specs.List.{flat_map}
use Rattle.cx_base.specs.Store.{Store, IsKey, IsDocument, pair_lines, lines_of}
use Rattle.doc_model.specs.Meaning.{pairs_below, pairs_above, with_pair}
use Rattle.avl_words.specs.Tree.{Tree, Empty, Node, items, Balanced, size}
use Rattle.avl_words.specs.Ways.{before, behind, spot, with_new}
use Rattle.avl_words.proofs.Spots.{new_items, new_balanced}
use Rattle.avl_words.specs.Changes.{IsBeside, CanPut as CanPutNode, PutsNode}
use Rattle.avl_words.specs.Lines.{word_of, line_count, with_word}
use Rattle.avl_words.specs.Words.{root, RepresentsTree, times as tree_times}
use Rattle.avl_words.specs.Exact.{tree_in, with_tree}
use Rattle.avl_words.proofs.ExactWords.{tree_in_is}
use Rattle.avl_words.proofs.ExactTrees.{AreThere, tree_header}
use Rattle.index_validation.specs.Layout.{PairLayout, lines_at, nodes_of, IsAt, Placed, IsLaidOut, StandsFor, RevisionHead, head_of}
use Rattle.index_validation.proofs.Arranging.{arranged_tree, tree_few}
use Rattle.word_index.specs.Exact.{order_in, with_new_pair, with_one_more, with_added}
use Rattle.word_index.specs.Fresh.{HasRoom, CanTake}
use Rattle.word_index.specs.Insertion.{IsPairWritten, PairWritten, CanAdd, Adds}
use Rattle.word_index.specs.Walk.{IsWalkEnded}
use Rattle.word_index.proofs.Cutting.{times_middle, times_parts}
use Rattle.index_validation.proofs.Texts.{key_small, document_small}
use Rattle.word_index.proofs.ExactTaking.{IsPlain, new_pair_is}
use Rattle.word_index.proofs.Frames.{times, times_append, times_cons, times_self, nodes_and_blocks, tree_lines}
use Rattle.word_index.proofs.Putting.{lines_of_places, few_pairs}
use Rattle.word_index.proofs.NewLinks.{IsRelaid, relaid_words, relaid_once, relaid_there, relaid, at_most_once}
use Rattle.word_index.proofs.Splits.{below_split, above_split}
use Rattle.word_index.proofs.KeyPlaces.{tree_of, map_append, walk_end, end_stands, IsMissing, none_at}
use Rattle.index_validation.proofs.Revisions.{triples_of}
use Rattle.word_index.proofs.Triples.{HasTriples, written_at, triples_added}

no_tree : (ws : List ℕ) (here : Tree ℕ) → RepresentsTree ws here → 0 ≡ root here → here ≡ Empty
no_tree ws Empty s e = refl
no_tree ws (Node l x r) s e = absurd (let some = s.0.some in omega arith)

-- a pair among the pairs that stand at places
placed_insert : (x z : List ℕ) (front rest : List PairLayout) (lower others : Store) (place : PairLayout) (pair : List ℕ × List ℕ) → Placed x front lower → Placed z (front ++ rest) (lower ++ others) → IsAt z place pair → Placed z (front ++ place ∷ rest) (lower ++ pair ∷ others)
placed_insert x z [] rest [] others place pair n m is = (is, m)
placed_insert x z [] rest (q ∷ lower) others place pair n m is = absurd n
placed_insert x z (p ∷ front) rest [] others place pair n m is = absurd n
placed_insert x z (p ∷ front) rest (q ∷ lower) others place pair n m is = (m.0, placed_insert x z front rest lower others place pair n.1 m.1 is)

-- where one pair more fits into the lines, there is room for its lines beside those of the places
pub add_room : (x : List ℕ) (version : ℕ) (store : Store) (s : StandsFor x version store) (pair : List ℕ × List ℕ) → lines_of store + pair_lines pair + 1 ≤ line_count x → HasRoom x s.places [] (pair_lines pair)
add_room x version store s pair l = (let e = lines_of_places x s.places store s.arranged.nodes.pairs in omega (arith, e, l))

-- the node of a place that is loose is none of the nodes of the tree
apart_of : (z : List ℕ) (head : RevisionHead) (store : Store) (tree : Tree ℕ) (places : List PairLayout) (given : List ℕ) (place : PairLayout) (node : ℕ) → IsLaidOut z head store tree places given (lines_at place) → node ≡ place.node → tree_times node tree ≡ 0
apart_of z head store tree places given place node a e =
    let used = flat_map lines_at places in
    let once = a.once node in
    let self = subst (λ n. 1 ≤ times node (n ∷ (place.key_lines ++ place.document_lines))) e (let c = times_cons node node (place.key_lines ++ place.document_lines) in let o = times_self node in omega (arith, c, o)) in
    omega (
      arith,
      at_most_once node (word_of z 0 3) (times node (used ++ given ++ lines_at place)) once,
      times_append node (used ++ given) (lines_at place),
      times_append node used given,
      nodes_and_blocks node places,
      tree_lines node tree,
      ap (times node) a.nodes.in_order,
      self,
    )

-- once the pair is written, its node is a leaf beside the tree, to be put where the walk to its key ended at nothing
pub add_beside : (x : List ℕ) (pair : List ℕ × List ℕ) (nodes sides : List ℕ) (depth above version : ℕ) (store : Store) (s : StandsFor x version store) → IsWalkEnded nodes sides (order_in pair.0 x) depth 0 above s.tree →
    (z : List ℕ) (revision node : ℕ) → IsPairWritten x z (head_of version s.last) store s.tree s.places pair revision node → IsBeside z nodes sides (order_in pair.0 x) depth node s.tree
add_beside x pair nodes sides depth above version store s e z revision node p = record {
  header = (let some = s.arranged.sized.some in let long = p.long in omega arith);
  tree = arranged_tree z (head_of version s.last) store s.tree s.places p.given (lines_at p.place) p.arranged;
  spot = e.at;
  leaf = p.leaf;
  apart = apart_of z (head_of version s.last) store s.tree s.places p.given p.place node p.arranged p.here;
}

module _ (x : List ℕ) (pair : List ℕ × List ℕ) (version : ℕ) (store : Store) (s : StandsFor x version store) (none : 0 ≡ root (spot (order_in pair.0 x) [] s.tree).1)
    (z : List ℕ) (revision node : ℕ) (p : IsPairWritten x z (head_of version s.last) store s.tree s.places pair revision node) where
  m : IsMissing x pair.0 s.places store (walk_end (order_in pair.0 x) s.tree).0
  m = none_at x pair.0 version store s none

  new_order : items (with_new (order_in pair.0 x) node s.tree) ≡ nodes_of (m.split.front ++ p.place ∷ m.split.rest)
  new_order =
      let way = (walk_end (order_in pair.0 x) s.tree).0 in
      new_items (order_in pair.0 x) node s.tree
      ∙ sym (map_append (λ q. q.node) m.split.front (p.place ∷ m.split.rest) ∙ ap (λ u. u ++ p.place.node ∷ nodes_of m.split.rest) m.split.front_nodes
      ∙ ap (λ u. before way ++ p.place.node ∷ u) m.split.rest_nodes ∙ ap (λ n. before way ++ n ∷ behind way) (sym p.here))

  new_even : Balanced (with_new (order_in pair.0 x) node s.tree)
  new_even = new_balanced (order_in pair.0 x) node s.tree (no_tree x (spot (order_in pair.0 x) [] s.tree).1 (end_stands x version store s false pair.0) none) s.arranged.nodes.balanced

  same_lines : (k : ℕ) → times k (flat_map lines_at (m.split.front ++ p.place ∷ m.split.rest) ++ p.given ++ []) ≡ times k (flat_map lines_at s.places ++ p.given ++ lines_at p.place)
  same_lines k =
      let are = ap (λ ps. times k (flat_map lines_at ps)) m.split.places_are in
      omega (
        arith,
        are,
        times_append k (flat_map lines_at s.places ++ p.given) (lines_at p.place),
        times_append k (flat_map lines_at s.places) p.given,
        times_append k (flat_map lines_at (m.split.front ++ p.place ∷ m.split.rest) ++ p.given) [],
        times_append k (flat_map lines_at (m.split.front ++ p.place ∷ m.split.rest)) p.given,
        times_parts k m.split.front m.split.rest,
        times_middle k m.split.front m.split.rest p.place,
      )

  header_there : 8 ≤ length z
  header_there = (let some = s.arranged.sized.some in let long = p.long in omega arith)

  once : (k : ℕ) → tree_times k (with_new (order_in pair.0 x) node s.tree) ≤ 1
  once = relaid_once z (head_of version s.last) store (m.split.lower ++ pair ∷ m.split.others) s.tree (with_new (order_in pair.0 x) node s.tree) s.places (m.split.front ++ p.place ∷ m.split.rest) p.given (lines_at p.place) [] p.arranged new_order same_lines

  there : AreThere z (with_new (order_in pair.0 x) node s.tree)
  there = relaid_there z (head_of version s.last) store (m.split.lower ++ pair ∷ m.split.others) s.tree (with_new (order_in pair.0 x) node s.tree) s.places (m.split.front ++ p.place ∷ m.split.rest) p.given (lines_at p.place) [] p.arranged new_order same_lines

  pub add_count : word_of (with_tree (with_new (order_in pair.0 x) node s.tree) z) 0 5 ≡ word_of z 0 5
  add_count = tree_header (with_new (order_in pair.0 x) node s.tree) z header_there once there 5 (omega arith) (omega arith)

  relaid_now : IsRelaid z (with_one_more (with_tree (with_new (order_in pair.0 x) node s.tree) z)) (with_new (order_in pair.0 x) node s.tree) (length (m.split.lower ++ pair ∷ m.split.others))
  unfolding with_one_more
  relaid_now =
      let t = with_new (order_in pair.0 x) node s.tree in
      let n = word_of (with_tree t z) 0 5 in
      let long : n + 1 ≡ length (m.split.lower ++ pair ∷ m.split.others)
      = omega (arith, add_count, p.arranged.pair_count, ap length m.split.store_is, length-append m.split.lower m.split.others, length-append m.split.lower (pair ∷ m.split.others)) in
      subst (IsRelaid z (with_word 0 5 (n + 1) (with_tree t z)) t) long (relaid_words z t (n + 1) header_there once there)

  -- the words stand for the store with the pair
  pub added_stands : HasTriples (with_one_more (with_tree (with_new (order_in pair.0 x) node s.tree) z)) (head_of version s.last) (with_pair pair.0 pair.1 store) (written_at pair.0 pair.1 revision (triples_of s.places store))
  added_stands =
      let now = with_one_more (with_tree (with_new (order_in pair.0 x) node s.tree) z) in
      let below : pairs_below pair.0 store ≡ m.split.lower = ap (pairs_below pair.0) m.split.store_is ∙ below_split pair.0 m.split.lower m.split.others m.below m.above in
      let over : pairs_above pair.0 store ≡ m.split.others = ap (pairs_above pair.0) m.split.store_is ∙ above_split pair.0 m.split.lower m.split.others m.below m.above in
      let placed = subst (λ ps. Placed z ps store) m.split.places_are p.arranged.nodes.pairs in
      let placed_here = subst (Placed z (m.split.front ++ m.split.rest)) m.split.store_is placed in
      let same : m.split.lower ++ pair ∷ m.split.others ≡ with_pair pair.0 pair.1 store = ap (λ u. u ++ pair ∷ m.split.others) (sym below) ∙ ap (λ u. pairs_below pair.0 store ++ pair ∷ u) (sym over) in
      record {
        tree = with_new (order_in pair.0 x) node s.tree;
        places = m.split.front ++ p.place ∷ m.split.rest;
        given = p.given;
        arranged = subst (λ st. IsLaidOut now (head_of version s.last) st (with_new (order_in pair.0 x) node s.tree) (m.split.front ++ p.place ∷ m.split.rest) p.given []) same
            (relaid z (head_of version s.last) store (m.split.lower ++ pair ∷ m.split.others) s.tree (with_new (order_in pair.0 x) node s.tree) s.places (m.split.front ++ p.place ∷ m.split.rest) p.given (lines_at p.place) [] p.arranged new_order same_lines
            now relaid_now new_even (placed_insert x z m.split.front m.split.rest m.split.lower m.split.others p.place pair m.split.placed_front placed_here p.is));
        triples_are = ap (triples_of (m.split.front ++ p.place ∷ m.split.rest)) (sym same)
            ∙ triples_added x pair.0 m.split.front m.split.rest m.split.lower m.split.others m.split.placed_front m.below m.above pair.1 p.place revision p.revised
            ∙ ap (written_at pair.0 pair.1 revision) (sym (ap₂ triples_of m.split.places_are m.split.store_is));
      }

  -- the nodes of the tree with the new one are there; they, and the pairs counted before, are at most 2^32
  pub added_there : AreThere z (with_new (order_in pair.0 x) node s.tree)
  added_there = there

  pub added_size : size (with_new (order_in pair.0 x) node s.tree) ≤ 2 ^ 32
  unfolding added_stands
  added_size =
      let now = with_one_more (with_tree (with_new (order_in pair.0 x) node s.tree) z) in
      let r = added_stands in
      let few : size (with_new (order_in pair.0 x) node s.tree) < word_of now 0 3 = tree_few now (head_of version s.last) (with_pair pair.0 pair.1 store) r.tree r.places r.given [] r.arranged in
      let end = r.arranged.end_to in
      let lines = r.arranged.sized.few in
      omega (arith, few, end, lines)

  pub added_pairs : word_of (with_tree (with_new (order_in pair.0 x) node s.tree) z) 0 5 ≤ 2 ^ 32
  added_pairs = (let few = few_pairs z (head_of version s.last) store s.tree s.places p.given (lines_at p.place) p.arranged in let count = add_count in omega (arith, few, count))

-- where a pair may be added, its lines can be taken
pub can_write : (x nodes sides : List ℕ) (depth : ℕ) (pair : List ℕ × List ℕ) → CanAdd x nodes sides depth pair → CanTake x (pair_lines pair)
can_write x nodes sides depth pair c =
    let s = c.index.stands in
    record { head = head_of 2 s.last; store = c.index.store; tree = s.tree; places = s.places; given = s.given; loose = []; arranged = s.arranged; room = add_room x 2 c.index.store s pair c.room }

-- where a pair may be added and is written, its node can be put into the tree where the walk to its key ended
pub can_put_node : (x z nodes sides : List ℕ) (depth revision node : ℕ) (pair : List ℕ × List ℕ) → CanAdd x nodes sides depth pair → PairWritten pair revision node x z → CanPutNode z nodes sides depth node
can_put_node x z nodes sides depth revision node pair c w =
    let s = c.index.stands in
    let p = w (head_of 2 s.last) c.index.store s.tree s.places s.given s.arranged (add_room x 2 c.index.store s pair c.room) in
    record { order = order_in pair.0 x; tree = s.tree; beside = add_beside x pair nodes sides depth c.above 2 c.index.store s (c.spot 2 c.index.store s) z revision node p }

-- the number of pairs in the header, `n`, once the node of a new pair was put and before it is raised by one, is at most 2^32
pub add_few : (x z y nodes sides : List ℕ) (depth revision node n : ℕ) (pair : List ℕ × List ℕ) → CanAdd x nodes sides depth pair → PairWritten pair revision node x z → PutsNode nodes sides depth node z y → word_of y 0 5 ≡ n → n ≤ 2 ^ 32
add_few x z y nodes sides depth revision node n pair c w t e =
    let s = c.index.stands in
    let p = w (head_of 2 s.last) c.index.store s.tree s.places s.given s.arranged (add_room x 2 c.index.store s pair c.room) in
    let ended = c.spot 2 c.index.store s in
    let b = add_beside x pair nodes sides depth c.above 2 c.index.store s ended z revision node p in
    let count = ap (λ v. word_of v 0 5) (t (order_in pair.0 x) s.tree b) ∙ add_count x pair 2 c.index.store s ended.at.node_is z revision node p in
    let few = few_pairs z (head_of 2 s.last) c.index.store s.tree s.places p.given (lines_at p.place) p.arranged in
    omega (arith, e, count, few)

-- a key and a document within the limits are bytes, each no longer than its limit
pub plain_of : (pair : List ℕ × List ℕ) → IsKey pair.0 → IsDocument pair.1 → IsPlain pair
plain_of pair k d = record { key_short = k.short; document_short = d.short; key_bytes = key_small pair.0 k; document_bytes = document_small pair.1 d }

-- writing a new pair by the definition, where there is room, has it written with its revision, at the node `node`
written_of : (x z : List ℕ) (revision node : ℕ) (pair : List ℕ × List ℕ) → IsKey pair.0 → IsDocument pair.1 → CanTake x (pair_lines pair) → with_new_pair pair revision x ≡ (node, z) → PairWritten pair revision node x z
written_of x z revision node pair k d can e = subst (λ (q : ℕ × List ℕ). PairWritten pair revision q.0 x q.1) e (new_pair_is pair revision x (plain_of pair k d) can)

pub adds : (x z y v nodes sides : List ℕ) (depth revision node n : ℕ) (pair : List ℕ × List ℕ) → with_new_pair pair revision x ≡ (node, z) → PutsNode nodes sides depth node z y → word_of y 0 5 ≡ n → v ≡ with_word 0 5 (n + 1) y → Adds nodes sides depth pair revision x v
unfolding with_added with_one_more
adds x z y v nodes sides depth revision node n pair new t e f above spot i room is_key is_document =
    let s = i.stands in
    let here : HasRoom x s.places [] (pair_lines pair) = add_room x 2 i.store s pair room in
    let can : CanTake x (pair_lines pair) = record { head = head_of 2 s.last; store = i.store; tree = s.tree; places = s.places; given = s.given; loose = []; arranged = s.arranged; room = here } in
    let p = written_of x z revision node pair is_key is_document can new (head_of 2 s.last) i.store s.tree s.places s.given s.arranged here in
    let b = add_beside x pair nodes sides depth above 2 i.store s (spot 2 i.store s) z revision node p in
    let go : ℕ × List ℕ → Tree ℕ → List ℕ = λ q u. with_tree (with_new (order_in pair.0 x) q.0 u) q.1 in
    f ∙ ap (λ k. with_word 0 5 (k + 1) y) (sym e)
    ∙ ap (λ u. with_word 0 5 (word_of u 0 5 + 1) u) (t (order_in pair.0 x) s.tree b ∙ ap (go (node, z)) (sym (tree_in_is x s.tree (tree_of x 2 i.store s))) ∙ ap (λ q. go q (tree_in x)) (sym new))
