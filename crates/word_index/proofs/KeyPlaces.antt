-- What the place of a key says of a store.
use Rattle.std.proofs.Common.{◌≡◌, ◌≢◌, ◌^◌, ◌+◌, ◌-◌, ◌*◌, ◌<◌, ◌≤◌, ℕ, List, [], ◌∷◌, ◌++◌, length, map, Some, None, refl, sym, ap, subst, ◌∙◌, Bool, true, false, set, arith}
use Rattle.std.proofs.Math.Logic.{∥∥₁_map}
use Rattle.cx_base.specs.Memory.{Becomes, Always}
use Rattle.std.specs.List.{flat_map, All}
use Rattle.std.specs.declared.cmp.Ordering.{Ordering}
use Rattle.std.specs.declared.cmp.Ordering.TheVariants.{Less, Equal, Greater}
use Rattle.std.specs.Ordering.{is_lt, is_eq}
use Rattle.std.proofs.lemmas.List.Elements.{All-nil, All-cons, All-head, All-tail, All-weaker, filter-append}
use Rattle.cx_base.specs.Store.{Store, KeysRise, IsStore, key_cmp, IsKey, IsDocument}
use Rattle.doc_model.specs.Meaning.{document_at, pairs_above}
use Rattle.doc_model.proofs.Order.{filter_none, ties_itself, same_key, above_from_greater, below_both, greater_from_above}
use Rattle.avl_words.specs.Tree.{Tree, Empty, Node, items, size}
use Rattle.avl_words.specs.Ways.{Turn, whole, before, behind, spot, IsCutBy, WayEnds}
use Rattle.avl_words.proofs.Spots.{IsBetween, parted, spot_whole, spot_ends, spot_items, top_between, size_is}
use Rattle.avl_words.specs.Lines.{word_of, IsWithin}
use Rattle.avl_words.specs.Words.{root, RepresentsTree, IsTree}
use Rattle.avl_words.proofs.Walks.{stands_at, goes_right, goes_left, way_ends, way_ended, way_ends_same, way_ended_same, few_on_way, few_at_node, deep_none}
use Rattle.index_validation.specs.Layout.{PairLayout, lines_at, nodes_of, IsAt, Placed, IsLaidOut, StandsFor, IsIndex, RevisionHead, head_of}
use Rattle.index_validation.proofs.Arranging.{arranged_tree}
use Rattle.index_validation.proofs.Lines.{all_left, all_right, all_middle, lines_there, lines_within, place_lines}
use Rattle.index_validation.proofs.OneStore.{placed_count}
use Rattle.index_validation.proofs.Texts.{text_is, key_small}
use Rattle.word_index.specs.Answers.{IsNodeOf, IsFound}
use Rattle.word_index.specs.Exact.{order_in}
use Rattle.word_index.specs.Walk.{HasNode, AtSpot, FewVisits, OnWay, toward, walk_order, IsFirst, IsPassing, IsWalkEnded, IsFirstNode, Walked}
use Rattle.word_index.proofs.Frames.{all_nodes}
use Rattle.word_index.proofs.NodeReads.{node_key}
use Rattle.word_index.proofs.Splits.{all_above, document_there, document_missing}

-- how the node of a place compares with a key
pub order_at_place : (ws key : List ℕ) (place : PairLayout) (pair : List ℕ × List ℕ) → IsAt ws place pair → IsKey pair.0 → order_in key ws place.node ≡ key_cmp pair.0 key
order_at_place ws key place pair is limits = ap (λ k. key_cmp k key) (text_is ws place.node 3 place.key_lines pair.0 is.key is.key_length (key_small pair.0 limits))

module _ (ws key : List ℕ) where
  -- behind a pair that is not below the key the keys are above it
  above_after : (o : Ordering) (k : List ℕ) → o ≡ key_cmp k key → o ≢ Less → (r : List ℕ) → key_cmp k r ≡ Less → key_cmp r key ≡ Greater
  above_after Less k e n r l = absurd (n refl)
  above_after Equal k e n r l = greater_from_above r key (subst (λ x. key_cmp x r ≡ Less) (same_key k key (sym e)) l)
  above_after Greater k e n r l = greater_from_above r key (below_both key k r (above_from_greater k key (sym e)) l)

  all_above_nodes : (k : List ℕ) (places : List PairLayout) (store : Store) → Placed ws places store → All (λ p. IsKey p.0) store → key_cmp k key ≢ Less → All (λ p. key_cmp k p.0 ≡ Less) store → All (λ n. order_in key ws n ≡ Greater) (nodes_of places)
  all_above_nodes k [] [] n keys ne above = All-nil (λ n. order_in key ws n ≡ Greater)
  all_above_nodes k [] (q ∷ store) n keys ne above = absurd n
  all_above_nodes k (p ∷ places) [] n keys ne above = absurd n
  all_above_nodes k (p ∷ places) (q ∷ store) n keys ne above =
      All-cons (λ n. order_in key ws n ≡ Greater) p.node (nodes_of places)
      (order_at_place ws key p q n.0 (All-head (λ p. IsKey p.0) q store keys) ∙ above_after (key_cmp k key) k refl ne q.0 (All-head (λ p. key_cmp k p.0 ≡ Less) q store above))
      (all_above_nodes k places store n.1 (All-tail (λ p. IsKey p.0) q store keys) ne (All-tail (λ p. key_cmp k p.0 ≡ Less) q store above))

  pub cut_nodes : (places : List PairLayout) (store : Store) → Placed ws places store → KeysRise store → All (λ p. IsKey p.0) store → IsCutBy (order_in key ws) (nodes_of places)
  cut_nodes [] [] n r keys = tt
  cut_nodes [] (q ∷ store) n r keys = absurd n
  cut_nodes (p ∷ places) [] n r keys = absurd n
  cut_nodes (p ∷ places) (q ∷ store) n r keys =
      let here = order_at_place ws key p q n.0 (All-head (λ p. IsKey p.0) q store keys) in
      let rest = All-tail (λ p. IsKey p.0) q store keys in
      (λ ne. all_above_nodes q.0 places store n.1 rest (λ l. ne (here ∙ l)) r.0, cut_nodes places store n.1 r.1 rest)

  -- pairs are below a key where their nodes are, and above a key where their nodes are
  pub below_pairs : (places : List PairLayout) (store : Store) → Placed ws places store → All (λ p. IsKey p.0) store → All (λ n. order_in key ws n ≡ Less) (nodes_of places) → All (λ p. key_cmp p.0 key ≡ Less) store
  below_pairs [] [] n keys all = All-nil (λ p. key_cmp p.0 key ≡ Less)
  below_pairs [] (q ∷ store) n keys all = absurd n
  below_pairs (p ∷ places) [] n keys all = absurd n
  below_pairs (p ∷ places) (q ∷ store) n keys all =
      All-cons (λ p. key_cmp p.0 key ≡ Less) q store (sym (order_at_place ws key p q n.0 (All-head (λ p. IsKey p.0) q store keys)) ∙ All-head (λ n. order_in key ws n ≡ Less) p.node (nodes_of places) all)
      (below_pairs places store n.1 (All-tail (λ p. IsKey p.0) q store keys) (All-tail (λ n. order_in key ws n ≡ Less) p.node (nodes_of places) all))

  pub above_pairs : (places : List PairLayout) (store : Store) → Placed ws places store → All (λ p. IsKey p.0) store → All (λ n. order_in key ws n ≡ Greater) (nodes_of places) → All (λ p. key_cmp key p.0 ≡ Less) store
  above_pairs [] [] n keys all = All-nil (λ p. key_cmp key p.0 ≡ Less)
  above_pairs [] (q ∷ store) n keys all = absurd n
  above_pairs (p ∷ places) [] n keys all = absurd n
  above_pairs (p ∷ places) (q ∷ store) n keys all =
      All-cons (λ p. key_cmp key p.0 ≡ Less) q store
      (above_from_greater q.0 key (sym (order_at_place ws key p q n.0 (All-head (λ p. IsKey p.0) q store keys)) ∙ All-head (λ n. order_in key ws n ≡ Greater) p.node (nodes_of places) all))
      (above_pairs places store n.1 (All-tail (λ p. IsKey p.0) q store keys) (All-tail (λ n. order_in key ws n ≡ Greater) p.node (nodes_of places) all))

-- places and pairs in two parts, by their nodes
pub record IsSplit (ws : List ℕ) (places : List PairLayout) (store : Store) (xs ys : List ℕ) : Type 0 where
  pub front : List PairLayout
  pub rest : List PairLayout
  pub lower : Store
  pub others : Store
  pub places_are : places ≡ front ++ rest
  pub store_is : store ≡ lower ++ others
  pub front_nodes : nodes_of front ≡ xs
  pub rest_nodes : nodes_of rest ≡ ys
  pub placed_front : Placed ws front lower
  pub placed_rest : Placed ws rest others

-- two equal lists have the same first item and the same rest
same_head : (x y : ℕ) (xs ys : List ℕ) → x ∷ xs ≡ y ∷ ys → (x ≡ y) × (xs ≡ ys)
same_head x y xs ys e = (cc, cc)

pub split_at : (ws : List ℕ) (places : List PairLayout) (store : Store) (xs ys : List ℕ) → Placed ws places store → nodes_of places ≡ xs ++ ys → IsSplit ws places store xs ys
split_at ws places store [] ys n e = record { front = []; rest = places; lower = []; others = store; places_are = refl; store_is = refl; front_nodes = refl; rest_nodes = e; placed_front = tt; placed_rest = n }
split_at ws [] store (x ∷ xs) ys n e = absurd (let f : ⊥ = cc in f)
split_at ws (p ∷ places) [] (x ∷ xs) ys n e = absurd n
split_at ws (p ∷ places) (q ∷ store) (x ∷ xs) ys n e =
    let h = same_head p.node x (nodes_of places) (xs ++ ys) e in
    let s = split_at ws places store xs ys n.1 h.1 in
    record {
      front = p ∷ s.front;
      rest = s.rest;
      lower = q ∷ s.lower;
      others = s.others;
      places_are = ap (λ u. p ∷ u) s.places_are;
      store_is = ap (λ u. q ∷ u) s.store_is;
      front_nodes = ap (λ u. p.node ∷ u) s.front_nodes ∙ ap (λ n. n ∷ xs) h.0;
      rest_nodes = s.rest_nodes;
      placed_front = (n.0, s.placed_front);
      placed_rest = s.placed_rest;
    }

-- the node of a place at which a pair of a store stands is a node of that pair
pub node_there : (ws : List ℕ) (head : RevisionHead) (store lower others : Store) (tree : Tree ℕ) (places front rest : List PairLayout) (given loose : List ℕ) (node : ℕ) (place : PairLayout) (pair : List ℕ × List ℕ) →
    IsLaidOut ws head store tree places given loose → IsStore store → places ≡ front ++ place ∷ rest → store ≡ lower ++ pair ∷ others → node ≡ place.node → IsAt ws place pair → IsNodeOf ws node pair
node_there ws head store lower others tree places front rest given loose node place pair a lawful p s e is = record {
  place = place;
  here = e;
  holds = is;
  within =
      (let within = all_left (IsWithin ws) (flat_map lines_at places) given (all_left (IsWithin ws) (flat_map lines_at places ++ given) loose (lines_within ws head store tree places given loose a)) in
      place_lines (IsWithin ws) front rest place (subst (λ ps. All (IsWithin ws) (flat_map lines_at ps)) p within));
  sized = a.sized;
  is_key = all_middle (λ q. IsKey q.0) lower others pair (subst (All (λ q. IsKey q.0)) s lawful.keys);
  is_document = all_middle (λ q. IsDocument q.1) lower others pair (subst (All (λ q. IsDocument q.1)) s lawful.documents);
}

-- the first node of placed pairs is the node of the first of them, and 0 where there are none
pub first_node : (ws : List ℕ) (head : RevisionHead) (store lower others : Store) (tree : Tree ℕ) (places front rest : List PairLayout) (given loose : List ℕ) (node : ℕ) (nodes : List ℕ) →
    IsLaidOut ws head store tree places given loose → IsStore store → places ≡ front ++ rest → store ≡ lower ++ others → Placed ws rest others → nodes_of rest ≡ nodes → IsFirst node nodes → All (λ n. 1 ≤ n) nodes → IsFirstNode ws node others
first_node ws head store lower [] tree places front [] given loose node [] a lawful p s n e f some = f
first_node ws head store lower [] tree places front [] given loose node (m ∷ nodes) a lawful p s n e f some = absurd (let g : ⊥ = cc in g)
first_node ws head store lower [] tree places front (q ∷ rest) given loose node nodes a lawful p s n e f some = absurd n
first_node ws head store lower (pair ∷ others) tree places front [] given loose node nodes a lawful p s n e f some = absurd n
first_node ws head store lower (pair ∷ others) tree places front (q ∷ rest) given loose node [] a lawful p s n e f some = absurd (let g : ⊥ = cc in g)
first_node ws head store lower (pair ∷ others) tree places front (q ∷ rest) given loose node (m ∷ nodes) a lawful p s n e f some =
    let h = same_head q.node m (nodes_of rest) nodes e in
    (subst (λ x. 1 ≤ x) (sym f) (All-head (λ n. 1 ≤ n) m nodes some), node_there ws head store lower others tree places front rest given loose node q pair a lawful p s (f ∙ sym h.0) n.0)

-- a node of a tree in order, and its place
pub record IsHere (ws : List ℕ) (places : List PairLayout) (store : Store) (xs : List ℕ) (x : ℕ) (ys : List ℕ) : Type 0 where
  pub front : List PairLayout
  pub rest : List PairLayout
  pub place : PairLayout
  pub lower : Store
  pub after : Store
  pub pair : List ℕ × List ℕ
  pub places_are : places ≡ front ++ place ∷ rest
  pub store_is : store ≡ lower ++ pair ∷ after
  pub node_is : x ≡ place.node
  pub front_nodes : nodes_of front ≡ xs
  pub rest_nodes : nodes_of rest ≡ ys
  pub placed_front : Placed ws front lower
  pub is : IsAt ws place pair
  pub placed_rest : Placed ws rest after

-- where placed pairs are split into `front` and `rest`, and the first node of `rest` is `x`, the pair of `x` stands there
here_of : (ws : List ℕ) (places front rest : List PairLayout) (store lower others : Store) (xs : List ℕ) (x : ℕ) (ys : List ℕ) → places ≡ front ++ rest → store ≡ lower ++ others → nodes_of front ≡ xs → nodes_of rest ≡ x ∷ ys → Placed ws front lower → Placed ws rest others →
    IsHere ws places store xs x ys
here_of ws places front [] store lower others xs x ys p s f r n m = absurd (let g : ⊥ = cc in g)
here_of ws places front (q ∷ rest) store lower [] xs x ys p s f r n m = absurd m
here_of ws places front (q ∷ rest) store lower (pair ∷ others) xs x ys p s f r n m =
    let h = same_head q.node x (nodes_of rest) ys r in
    record {
      front = front;
      rest = rest;
      place = q;
      lower = lower;
      after = others;
      pair = pair;
      places_are = p;
      store_is = s;
      node_is = sym h.0;
      front_nodes = f;
      rest_nodes = h.1;
      placed_front = n;
      is = m.0;
      placed_rest = m.1;
    }

-- where the nodes of placed pairs are `xs`, then `x`, then `ys`, the pair of `x` stands between the pairs of `xs` and those of `ys`
pub here_at : (ws : List ℕ) (places : List PairLayout) (store : Store) (xs : List ℕ) (x : ℕ) (ys : List ℕ) → Placed ws places store → nodes_of places ≡ xs ++ x ∷ ys → IsHere ws places store xs x ys
here_at ws places store xs x ys n e =
    let s = split_at ws places store xs (x ∷ ys) n e in
    here_of ws places s.front s.rest store s.lower s.others xs x ys s.places_are s.store_is s.front_nodes s.rest_nodes s.placed_front s.placed_rest

-- where keys rise, those behind a pair are above its key, and those before the pair below its key
pub rises_after : (lower : Store) (pair : List ℕ × List ℕ) (after : Store) → KeysRise (lower ++ pair ∷ after) → All (λ q. key_cmp pair.0 q.0 ≡ Less) after
rises_after [] pair after r = r.0
rises_after (q ∷ lower) pair after r = rises_after lower pair after r.1

pub rises_before : (lower : Store) (pair : List ℕ × List ℕ) (after : Store) → KeysRise (lower ++ pair ∷ after) → All (λ p. key_cmp p.0 pair.0 ≡ Less) lower
rises_before [] pair after r = All-nil (λ p. key_cmp p.0 pair.0 ≡ Less)
rises_before (q ∷ lower) pair after r =
    All-cons (λ p. key_cmp p.0 pair.0 ≡ Less) q lower (All-head (λ p. key_cmp q.0 p.0 ≡ Less) pair after (all_right (λ p. key_cmp q.0 p.0 ≡ Less) lower (pair ∷ after) r.0)) (rises_before lower pair after r.1)

-- nodes that an order cuts in two are cut in two by the order of a walk past the key, too
cut_past : (order : ℕ → Ordering) (xs : List ℕ) → IsCutBy order xs → IsCutBy (λ n. toward true (order n)) xs
cut_past order [] c = tt
cut_past order (x ∷ xs) c =
    (λ ne. All-weaker (λ y. order y ≡ Greater) (λ y. toward true (order y) ≡ Greater) (λ y e. ap (toward true) e) xs (c.0 (λ l. ne (ap (toward true) l))), cut_past order xs c.1)

cut_by : (past : Bool) (order : ℕ → Ordering) (xs : List ℕ) → IsCutBy order xs → IsCutBy (λ n. toward past (order n)) xs
cut_by false order xs c = c
cut_by true order xs c = cut_past order xs c

-- The tree of words that stand for a store.
module _ (ws : List ℕ) (version : ℕ) (store : Store) (s : StandsFor ws version store) where
  pub tree_of : IsTree ws s.tree
  tree_of = arranged_tree ws (head_of version s.last) store s.tree s.places s.given [] s.arranged

  pub pairs_counted : size s.tree ≡ length store
  pairs_counted = size_is s.tree ∙ ap length s.arranged.nodes.in_order ∙ placed_count ws s.places store s.arranged.nodes.pairs

  module _ (past : Bool) (key : List ℕ) where
    pub cut_tree : IsCutBy (walk_order past key ws) (items s.tree)
    cut_tree = cut_by past (order_in key ws) (items s.tree) (subst (IsCutBy (order_in key ws)) (sym s.arranged.nodes.in_order) (cut_nodes ws key s.places store s.arranged.nodes.pairs s.lawful.rising s.lawful.keys))

    -- a node that the walk passes is that of a pair
    at_node : (way : List (Turn ℕ)) (here : Tree ℕ) (node : ℕ) → whole way here ≡ s.tree → node ≡ root here → node ≢ 0 → (pair : List ℕ × List ℕ) × IsNodeOf ws node pair
    at_node way Empty node w e n = absurd (n e)
    at_node way (Node l x r) node w e n =
        let h = here_at ws s.places store (before way ++ items l) x (items r ++ behind way) s.arranged.nodes.pairs (sym s.arranged.nodes.in_order ∙ ap items (sym w) ∙ parted way l x r) in
        (h.pair, node_there ws (head_of version s.last) store h.lower h.after s.tree s.places h.front h.rest s.given [] node h.place h.pair s.arranged s.lawful h.places_are h.store_is (e ∙ h.node_is) h.is)

    -- a node that a walk passes is the node of a pair of the store
    pub passing_node : (nodes sides : List ℕ) (d node above : ℕ) → IsPassing nodes sides (walk_order past key ws) d node above s.tree → node ≢ 0 → (pair : List ℕ × List ℕ) × IsNodeOf ws node pair
    passing_node nodes sides d node above o n = at_node o.on.way o.on.here node o.on.whole_is o.on.node_is n

    pub order_here : (node : ℕ) (order : Ordering) → (pair : List ℕ × List ℕ) × IsNodeOf ws node pair → ((pair : List ℕ × List ℕ) → IsNodeOf ws node pair → order ≡ key_cmp pair.0 key) → walk_order past key ws node ≡ toward past order
    order_here node order p is = ap (toward past) (ap (λ k. key_cmp k key) (node_key ws node p.0 p.1) ∙ sym (is p.0 p.1))

    -- one step down
    go_first_right : (above : ℕ) (xs ys : List ℕ) → xs ≡ ys → IsFirst above ys → IsFirst above xs
    go_first_right above xs ys e f = subst (IsFirst above) (sym e) f

    go_first_left : (node : ℕ) (xs rest : List ℕ) → xs ≡ node ∷ rest → IsFirst node xs
    go_first_left node xs rest e = subst (IsFirst node) (sym e) refl

    -- a walk goes on from a node to the right where the order `o` of the node is less, and to the left where it is greater
    step_by : (nodes sides : List ℕ) (d node above next side after : ℕ) (o : Ordering) → IsPassing nodes sides (walk_order past key ws) d node above s.tree → d < 64 → length nodes ≡ 64 → length sides ≡ 64 → node ≢ 0 → walk_order past key ws node ≡ o →
        o ≢ Equal → (o ≡ Less → side ≡ 1) → (o ≡ Greater → side ≡ 0) → (side ≡ 0 → after ≡ node) → (side ≡ 1 → after ≡ above) → word_of ws node side ≡ next →
        IsPassing (set nodes d node) (set sides d side) (walk_order past key ws) (d + 1) next after s.tree
    step_by nodes sides d node above next side after Less p room nl sl n e ne less more left right word =
        let one = less refl in
        let r = goes_right ws (walk_order past key ws) s.tree tree_of nodes sides d node next p.on room nl sl n e (ap (word_of ws node) (sym one) ∙ word) in
        subst (λ a. IsPassing (set nodes d node) (set sides d side) (walk_order past key ws) (d + 1) next a s.tree) (sym (right one))
        (subst (λ v. IsPassing (set nodes d node) (set sides d v) (walk_order past key ws) (d + 1) next above s.tree) (sym one) (record { on = r.on; above_is = go_first_right above (behind r.on.way) (behind p.on.way) r.behind_is p.above_is }))
    step_by nodes sides d node above next side after Equal p room nl sl n e ne less more left right word = absurd (ne refl)
    step_by nodes sides d node above next side after Greater p room nl sl n e ne less more left right word =
        let zero_side = more refl in
        let r = goes_left ws (walk_order past key ws) s.tree tree_of nodes sides d node next p.on room nl sl n e (ap (word_of ws node) (sym zero_side) ∙ word) in
        subst (λ a. IsPassing (set nodes d node) (set sides d side) (walk_order past key ws) (d + 1) next a s.tree) (sym (left zero_side))
        (subst (λ v. IsPassing (set nodes d node) (set sides d v) (walk_order past key ws) (d + 1) next node s.tree) (sym zero_side) (record { on = r.on; above_is = go_first_left node (behind r.on.way) r.rest r.behind_is }))

    -- a walk goes on from a node by the order of the key of the node's pair to the key looked for, as the code finds it
    pub step : (nodes sides : List ℕ) (d node above next side after : ℕ) (order : Ordering) → IsPassing nodes sides (walk_order past key ws) d node above s.tree → d < 64 → length nodes ≡ 64 → length sides ≡ 64 → node ≢ 0 →
        ((pair : List ℕ × List ℕ) → IsNodeOf ws node pair → order ≡ key_cmp pair.0 key) → toward past order ≢ Equal → (toward past order ≡ Less → side ≡ 1) → (toward past order ≡ Greater → side ≡ 0) → (side ≡ 0 → after ≡ node) → (side ≡ 1 → after ≡ above) →
        word_of ws node side ≡ next → IsPassing (set nodes d node) (set sides d side) (walk_order past key ws) (d + 1) next after s.tree
    step nodes sides d node above next side after order p room nl sl n is ne less more left right word =
        step_by nodes sides d node above next side after (toward past order) p room nl sl n (order_here node order (passing_node nodes sides d node above p n) is) ne less more left right word

    -- a walk that is at no node has ended
    pub ends_none : (nodes sides : List ℕ) (d node above : ℕ) → IsPassing nodes sides (walk_order past key ws) d node above s.tree → node ≡ 0 → IsWalkEnded nodes sides (walk_order past key ws) d node above s.tree
    ends_none nodes sides d node above p z = record {
      at = way_ends ws (walk_order past key ws) s.tree tree_of nodes sides d node p.on z;
      above_is = subst (λ w. IsFirst above (behind w)) (sym (way_ended ws (walk_order past key ws) s.tree tree_of nodes sides d node p.on z)) p.above_is;
    }

    -- a walk that is at the node of the key looked for has ended there
    pub ends_same : (nodes sides : List ℕ) (d node above : ℕ) (order : Ordering) → IsPassing nodes sides (walk_order past key ws) d node above s.tree → node ≢ 0 → ((pair : List ℕ × List ℕ) → IsNodeOf ws node pair → order ≡ key_cmp pair.0 key) → toward past order ≡ Equal →
        IsWalkEnded nodes sides (walk_order past key ws) d node above s.tree
    ends_same nodes sides d node above order p n is q =
        let e = order_here node order (passing_node nodes sides d node above p n) is ∙ q in
        record {
          at = way_ends_same ws (walk_order past key ws) s.tree tree_of nodes sides d node p.on e;
          above_is = subst (λ w. IsFirst above (behind w)) (sym (way_ended_same ws (walk_order past key ws) s.tree tree_of nodes sides d node p.on e)) p.above_is;
        }

    -- the subtree at which a walk ends stands in the words
    pub end_stands : RepresentsTree ws (spot (walk_order past key ws) [] s.tree).1
    end_stands = stands_at ws (spot (walk_order past key ws) [] s.tree).0 (spot (walk_order past key ws) [] s.tree).1 (subst (RepresentsTree ws) (sym (spot_whole (walk_order past key ws) [] s.tree)) s.arranged.nodes.shape)

    -- a subtree whose root is no node has no nodes
    no_node : (here : Tree ℕ) (node : ℕ) → RepresentsTree ws here → node ≡ root here → node ≡ 0 → items here ≡ []
    no_node Empty node h e z = refl
    no_node (Node l x r) node h e z = absurd (let some = h.0.some in omega arith)

    pub end_split : (node : ℕ) → node ≡ root (spot (walk_order past key ws) [] s.tree).1 → node ≡ 0 → IsSplit ws s.places store (before (spot (walk_order past key ws) [] s.tree).0) (behind (spot (walk_order past key ws) [] s.tree).0)
    end_split node e z =
        let way = (spot (walk_order past key ws) [] s.tree).0 in
        split_at ws s.places store (before way) (behind way) s.arranged.nodes.pairs
        (sym s.arranged.nodes.in_order ∙ spot_items (walk_order past key ws) s.tree ∙ ap (λ u. before way ++ (u ++ behind way)) (no_node (spot (walk_order past key ws) [] s.tree).1 node end_stands e z))

    pub end_between : IsBetween (walk_order past key ws) (spot (walk_order past key ws) [] s.tree).0
    end_between = top_between (walk_order past key ws) s.tree cut_tree

-- the walk, in all the ways in which words stand for a store
module _ (ws : List ℕ) (past : Bool) (key nodes sides : List ℕ) (d node above : ℕ) where
  -- a walk begins at depth 0 at the root that the header names, with no node above
  pub passing_begins : word_of ws 0 1 ≡ node → above ≡ 0 → d ≡ 0 → OnWay past key nodes sides d node above ws
  passing_begins e a z version store s =
      subst (λ k. IsPassing nodes sides (walk_order past key ws) k node above s.tree) (sym z) (record {
        on = record { way = []; here = s.tree; whole_is = refl; same = refl; node_is = sym e ∙ s.arranged.nodes.root_is; noted = tt; long = refl };
        above_is = a;
      })

  pub passing_few : OnWay past key nodes sides d node above ws → FewVisits d ws
  passing_few w version store s =
      subst (λ n. 2 ^ d ≤ 2 * ((n + 1) * (n + 1))) (pairs_counted ws version store s) (few_on_way ws (walk_order past key ws) s.tree (tree_of ws version store s) nodes sides d node (w version store s).on)

  -- where a walk is at a node at depth `d`, `d + 1` visits are within the bound
  pub passing_few_node : OnWay past key nodes sides d node above ws → node ≢ 0 → FewVisits (d + 1) ws
  passing_few_node w n version store s =
      subst (λ m. 2 ^ (d + 1) ≤ 2 * ((m + 1) * (m + 1))) (pairs_counted ws version store s) (few_at_node ws (walk_order past key ws) s.tree (tree_of ws version store s) nodes sides d node (w version store s).on n)

  -- a node that a walk passes is the node of some pair, in words that stand for a store
  pub passing_has_node : OnWay past key nodes sides d node above ws → node ≢ 0 → IsIndex ws → HasNode ws node
  passing_has_node w n i = (let p = passing_node ws 2 i.store i.stands past key nodes sides d node above (w 2 i.store i.stands) n in record { pair = p.0; is = p.1 })

  -- a walk to a key that is at no node is at its end
  pub passing_ends : OnWay past key nodes sides d node above ws → node ≡ 0 → AtSpot past key nodes sides d node above ws
  passing_ends w z version store s = ends_none ws version store s past key nodes sides d node above (w version store s) z

  -- a walk to a key that is at a node whose key compares as equal is at its end
  pub passing_ends_same : (order : Ordering) → OnWay past key nodes sides d node above ws → node ≢ 0 → ((pair : List ℕ × List ℕ) → IsNodeOf ws node pair → order ≡ key_cmp pair.0 key) → toward past order ≡ Equal → AtSpot past key nodes sides d node above ws
  passing_ends_same order w n is q version store s = ends_same ws version store s past key nodes sides d node above order (w version store s) n is q

  pub passing_deep : OnWay past key nodes sides d node above ws → 64 ≤ d → AtSpot past key nodes sides d node above ws
  passing_deep w deep version store s =
      ends_none ws version store s past key nodes sides d node above (w version store s) (deep_none ws (walk_order past key ws) s.tree (tree_of ws version store s) nodes sides d node (w version store s).on deep)

  -- a walk to a key goes on from a node to its child `next`, at the side that the order of the two keys says, and keeps the node and the side
  pub passing_on : (next side after : ℕ) (order : Ordering) → OnWay past key nodes sides d node above ws → d < 64 → length nodes ≡ 64 → length sides ≡ 64 → node ≢ 0 → ((pair : List ℕ × List ℕ) → IsNodeOf ws node pair → order ≡ key_cmp pair.0 key) →
      toward past order ≢ Equal → (toward past order ≡ Less → side ≡ 1) → (toward past order ≡ Greater → side ≡ 0) → (side ≡ 0 → after ≡ node) → (side ≡ 1 → after ≡ above) → word_of ws node side ≡ next →
      OnWay past key (set nodes d node) (set sides d side) (d + 1) next after ws
  passing_on next side after order w room nl sl n is ne less more left right word version store s =
      step ws version store s past key nodes sides d node above next side after order (w version store s) room nl sl n is ne less more left right word

-- n visits, which are few, counted from some number on
pub few_counted : (ws : List ℕ) (a b n : ℕ) → FewVisits n ws → b ≡ a + n → FewVisits (b - a) ws
few_counted ws a b n f e = subst (λ k. FewVisits k ws) (let g : n ≡ b - a = omega arith in g) f

pub is_same : (o : Ordering) → is_eq o ≡ true → o ≡ Equal
is_same Less e = absurd (let f : ⊥ = cc in f)
is_same Equal e = refl
is_same Greater e = absurd (let f : ⊥ = cc in f)

pub is_other : (o : Ordering) → is_eq o ≡ false → o ≢ Equal
is_other Less e f = cc
is_other Equal e f = (let g : true ≡ false = e in cc)
is_other Greater e f = cc

-- the walk to a key ends at nothing
pub record IsMissing (ws key : List ℕ) (places : List PairLayout) (store : Store) (way : List (Turn ℕ)) : Type 0 where
  pub split : IsSplit ws places store (before way) (behind way)
  pub below : All (λ p. key_cmp p.0 key ≡ Less) split.lower
  pub above : All (λ p. key_cmp key p.0 ≡ Less) split.others

pub none_at : (ws key : List ℕ) (version : ℕ) (store : Store) (s : StandsFor ws version store) → 0 ≡ root (spot (order_in key ws) [] s.tree).1 → IsMissing ws key s.places store (spot (order_in key ws) [] s.tree).0
none_at ws key version store s e =
    let sp = end_split ws version store s false key 0 e refl in
    let b = end_between ws version store s false key in
    let lower_keys = all_left (λ p. IsKey p.0) sp.lower sp.others (subst (All (λ p. IsKey p.0)) sp.store_is s.lawful.keys) in
    let other_keys = all_right (λ p. IsKey p.0) sp.lower sp.others (subst (All (λ p. IsKey p.0)) sp.store_is s.lawful.keys) in
    record {
      split = sp;
      below = below_pairs ws key sp.front sp.lower sp.placed_front lower_keys (subst (All (λ n. order_in key ws n ≡ Less)) (sym sp.front_nodes) b.lower);
      above = above_pairs ws key sp.rest sp.others sp.placed_rest other_keys (subst (All (λ n. order_in key ws n ≡ Greater)) (sym sp.rest_nodes) b.higher);
    }

-- where the walk to a key ended at no node, the key is missing: the pairs before the end are below it and those behind it above
pub spot_none : (ws key nodes sides : List ℕ) (d node above version : ℕ) (store : Store) (s : StandsFor ws version store) → IsWalkEnded nodes sides (order_in key ws) d node above s.tree → node ≡ 0 → IsMissing ws key s.places store (spot (order_in key ws) [] s.tree).0
spot_none ws key nodes sides d node above version store s e z = none_at ws key version store s (sym z ∙ e.at.node_is)

-- the walk to a key ends at the node of the key's pair
pub record HasPlace (ws key : List ℕ) (places : List PairLayout) (store : Store) (way : List (Turn ℕ)) (here : Tree ℕ) (node : ℕ) : Type 0 where
  pub left : Tree ℕ
  pub right : Tree ℕ
  pub document : List ℕ
  pub here_is : here ≡ Node left node right
  pub at : IsHere ws places store (before way ++ items left) node (items right ++ behind way)
  pub pair_is : at.pair ≡ (key, document)
  pub below : All (λ p. key_cmp p.0 key ≡ Less) at.lower
  pub above : All (λ p. key_cmp key p.0 ≡ Less) at.after

module _ (ws key : List ℕ) (version : ℕ) (store : Store) (s : StandsFor ws version store) where
  -- the node at which a way to a key ends has the key's pair, between the pairs below the key and those above it
  place_at : (way : List (Turn ℕ)) (here : Tree ℕ) (node : ℕ) → whole way here ≡ s.tree → node ≡ root here → node ≢ 0 → WayEnds (order_in key ws) here → HasPlace ws key s.places store way here node
  place_at way Empty node w e n ends = absurd (n e)
  place_at way (Node l x r) node w e n ends =
      let h = here_at ws s.places store (before way ++ items l) node (items r ++ behind way) s.arranged.nodes.pairs
      (sym s.arranged.nodes.in_order ∙ ap items (sym w) ∙ parted way l x r ∙ ap (λ y. (before way ++ items l) ++ y ∷ (items r ++ behind way)) (sym e)) in
      let rising = subst KeysRise h.store_is s.lawful.rising in
      let is_key = all_middle (λ p. IsKey p.0) h.lower h.after h.pair (subst (All (λ p. IsKey p.0)) h.store_is s.lawful.keys) in
      let same : h.pair.0 ≡ key = same_key h.pair.0 key (sym (order_at_place ws key h.place h.pair h.is is_key) ∙ ap (order_in key ws) (sym h.node_is ∙ e) ∙ ends) in
      record {
        left = l;
        right = r;
        document = h.pair.1;
        here_is = ap (λ y. Node l y r) (sym e);
        at = h;
        pair_is = ap (λ k. (k, h.pair.1)) same;
        below = subst (λ k. All (λ p. key_cmp p.0 k ≡ Less) h.lower) same (rises_before h.lower h.pair h.after rising);
        above = subst (λ k. All (λ p. key_cmp k p.0 ≡ Less) h.after) same (rises_after h.lower h.pair h.after rising);
      }

  pub place_is_at : (node : ℕ) → node ≡ root (spot (order_in key ws) [] s.tree).1 → node ≢ 0 → HasPlace ws key s.places store (spot (order_in key ws) [] s.tree).0 (spot (order_in key ws) [] s.tree).1 node
  place_is_at node e n = place_at (spot (order_in key ws) [] s.tree).0 (spot (order_in key ws) [] s.tree).1 node (spot_whole (order_in key ws) [] s.tree) e n (spot_ends (order_in key ws) [] s.tree)

  -- where the walk to a key ended at a node, that node has the key's pair, between the pairs below the key and those above it
  pub spot_place : (nodes sides : List ℕ) (d node above : ℕ) → IsWalkEnded nodes sides (order_in key ws) d node above s.tree → node ≢ 0 → HasPlace ws key s.places store (spot (order_in key ws) [] s.tree).0 (spot (order_in key ws) [] s.tree).1 node
  spot_place nodes sides d node above e n = place_is_at node e.at.node_is n

abbrev pub walk_end : (ℕ → Ordering) → Tree ℕ → List (Turn ℕ) × Tree ℕ
walk_end order t = spot order [] t

-- a walk past a key ends at nothing
pub never_same : (key ws : List ℕ) (here : Tree ℕ) (node : ℕ) → node ≡ root here → WayEnds (walk_order true key ws) here → node ≡ 0
never_same key ws Empty node e n = e
never_same key ws (Node l x r) node e n = absurd (by_order (order_in key ws x) n)
  where
    by_order : (o : Ordering) → toward true o ≡ Equal → ⊥
    by_order Less q = cc
    by_order Equal q = cc
    by_order Greater q = cc

nodes_some : (ws : List ℕ) (version : ℕ) (store : Store) (s : StandsFor ws version store) → All (λ n. 1 ≤ n) (nodes_of s.places)
nodes_some ws version store s =
    all_nodes (λ n. 1 ≤ n) s.places (All-weaker (λ l. (1 ≤ l) × (l < word_of ws 0 3)) (λ l. 1 ≤ l) (λ l h. h.0) (flat_map lines_at s.places)
    (all_left (λ l. (1 ≤ l) × (l < word_of ws 0 3)) (flat_map lines_at s.places) s.given (all_left (λ l. (1 ≤ l) × (l < word_of ws 0 3)) (flat_map lines_at s.places ++ s.given) [] (lines_there ws (head_of version s.last) store s.tree s.places s.given [] s.arranged))))

pub map_append : (f : PairLayout → ℕ) (xs ys : List PairLayout) → map f (xs ++ ys) ≡ map f xs ++ map f ys
map_append f [] ys = refl
map_append f (x ∷ xs) ys = ap (λ u. f x ∷ u) (map_append f xs ys)

-- where the walk to a key ended at no node, the store has no document of the key
pub spot_missing : (ws key nodes sides : List ℕ) (d node above : ℕ) → AtSpot false key nodes sides d node above ws → node ≡ 0 → (version : ℕ) (store : Store) → StandsFor ws version store → document_at key store ≡ None
spot_missing ws key nodes sides d node above spot z version store s =
    let m = spot_none ws key nodes sides d node above version store s (spot version store s) z in
    subst (λ x. document_at key x ≡ None) (sym m.split.store_is) (document_missing key m.split.lower m.split.others m.below m.above)

pub place_node : (ws key : List ℕ) (version : ℕ) (store : Store) (s : StandsFor ws version store) (way : List (Turn ℕ)) (here : Tree ℕ) (node : ℕ) (h : HasPlace ws key s.places store way here node) → IsNodeOf ws node (key, h.document)
place_node ws key version store s way here node h =
    subst (IsNodeOf ws node) h.pair_is (node_there ws (head_of version s.last) store h.at.lower h.at.after s.tree s.places h.at.front h.at.rest s.given [] node h.at.place h.at.pair s.arranged s.lawful h.at.places_are h.at.store_is h.at.node_is h.at.is)

-- where the walk to a key ended at a node, the store has a document of the key, and the node is that of their pair
pub spot_found : (ws key nodes sides : List ℕ) (d node above : ℕ) → AtSpot false key nodes sides d node above ws → node ≢ 0 → (version : ℕ) (store : Store) → StandsFor ws version store → IsFound ws key (Some node) store
spot_found ws key nodes sides d node above spot n version store s =
    let h = spot_place ws key version store s nodes sides d node above (spot version store s) n in
    let e : store ≡ h.at.lower ++ (key, h.document) ∷ h.at.after = h.at.store_is ∙ ap (λ p. h.at.lower ++ p ∷ h.at.after) h.pair_is in (
      h.document,
      subst (λ x. document_at key x ≡ Some h.document) (sym e) (document_there key h.document h.at.lower h.at.after h.below),
      place_node ws key version store s (walk_end (order_in key ws) s.tree).0 (walk_end (order_in key ws) s.tree).1 node h,
    )

-- the node at which the walk to a key ended is the node of some pair, in words that stand for a store
pub spot_node : (ws key nodes sides : List ℕ) (d node above : ℕ) → AtSpot false key nodes sides d node above ws → node ≢ 0 → IsIndex ws → HasNode ws node
spot_node ws key nodes sides d node above spot n i =
    let f = spot_found ws key nodes sides d node above spot n 2 i.store i.stands in
    record { pair = (key, f.0); is = f.2 }

-- pairs whose nodes a walk past a key leaves to its left are not above the key
not_above : (ws key : List ℕ) (places : List PairLayout) (store : Store) → Placed ws places store → All (λ p. IsKey p.0) store → All (λ n. walk_order true key ws n ≡ Less) (nodes_of places) → All (λ p. is_lt (key_cmp key p.0) ≡ false) store
not_above ws key [] [] n keys all = All-nil (λ p. is_lt (key_cmp key p.0) ≡ false)
not_above ws key [] (q ∷ store) n keys all = absurd n
not_above ws key (p ∷ places) [] n keys all = absurd n
not_above ws key (p ∷ places) (q ∷ store) n keys all =
    All-cons (λ p. is_lt (key_cmp key p.0) ≡ false) q store
    (by_key (key_cmp q.0 key) refl (ap (toward true) (sym (order_at_place ws key p q n.0 (All-head (λ p. IsKey p.0) q store keys))) ∙ All-head (λ n. walk_order true key ws n ≡ Less) p.node (nodes_of places) all))
    (not_above ws key places store n.1 (All-tail (λ p. IsKey p.0) q store keys) (All-tail (λ n. walk_order true key ws n ≡ Less) p.node (nodes_of places) all))
  where
    by_key : (o : Ordering) → o ≡ key_cmp q.0 key → toward true o ≡ Less → is_lt (key_cmp key q.0) ≡ false
    by_key Less e l = ap is_lt (greater_from_above key q.0 (sym e))
    by_key Equal e l = ap (λ k. is_lt (key_cmp key k)) (same_key q.0 key (sym e)) ∙ ap is_lt (ties_itself key)
    by_key Greater e l = absurd (let f : ⊥ = cc in f)

greater_past : (o : Ordering) → toward true o ≡ Greater → o ≡ Greater
greater_past Less e = e
greater_past Equal e = absurd (let f : ⊥ = cc in f)
greater_past Greater e = e

pub spot_above : (ws key nodes sides : List ℕ) (d node above : ℕ) → AtSpot true key nodes sides d node above ws → (version : ℕ) (store : Store) → StandsFor ws version store → IsFirstNode ws above (pairs_above key store)
spot_above ws key nodes sides d node above spot version store s =
    let e = spot version store s in
    let order = walk_order true key ws in
    let z = never_same key ws (walk_end order s.tree).1 node e.at.node_is (spot_ends order [] s.tree) in
    let sp = end_split ws version store s true key node e.at.node_is z in
    let b = end_between ws version store s true key in
    let lower_keys = all_left (λ p. IsKey p.0) sp.lower sp.others (subst (All (λ p. IsKey p.0)) sp.store_is s.lawful.keys) in
    let other_keys = all_right (λ p. IsKey p.0) sp.lower sp.others (subst (All (λ p. IsKey p.0)) sp.store_is s.lawful.keys) in
    let none : pairs_above key sp.lower ≡ [] = filter_none (λ p. is_lt (key_cmp key p.0)) sp.lower (not_above ws key sp.front sp.lower sp.placed_front lower_keys (subst (All (λ n. walk_order true key ws n ≡ Less)) (sym sp.front_nodes) b.lower)) in
    let others = above_pairs ws key sp.rest sp.others sp.placed_rest other_keys
    (All-weaker (λ n. walk_order true key ws n ≡ Greater) (λ n. order_in key ws n ≡ Greater) (λ n h. greater_past (order_in key ws n) h) (nodes_of sp.rest) (subst (All (λ n. walk_order true key ws n ≡ Greater)) (sym sp.rest_nodes) b.higher)) in
    let are : pairs_above key store ≡ sp.others = ap (pairs_above key) sp.store_is ∙ filter-append (λ p. is_lt (key_cmp key p.0)) sp.lower sp.others ∙ ap (λ u. u ++ pairs_above key sp.others) none ∙ all_above key sp.others others in
    let some = all_right (λ n. 1 ≤ n) (nodes_of sp.front) (nodes_of sp.rest) (subst (All (λ n. 1 ≤ n)) (ap nodes_of sp.places_are ∙ map_append (λ p. p.node) sp.front sp.rest) (nodes_some ws version store s)) in
    subst (IsFirstNode ws above) (sym are)
    (first_node ws (head_of version s.last) store sp.lower sp.others s.tree s.places sp.front sp.rest s.given [] above (nodes_of sp.rest) s.arranged s.lawful sp.places_are sp.store_is sp.placed_rest refl (subst (IsFirst above) (sym sp.rest_nodes) e.above_is) some)

pub there_first : (ws : List ℕ) (node : ℕ) (pairs : Store) → IsFirstNode ws node pairs → (node ≡ 0 → ⊥) → HasNode ws node
there_first ws node [] is some = absurd (some is)
there_first ws node (pair ∷ pairs) is some = record { pair = pair; is = is.1 }

-- after a walk some words may have been there for which it was short
pub walked : {Key : Type 0} {old new : Key → List ℕ → Type 0} (visits : ℕ) → ∥ ((first : Key) × (now : List ℕ) × new first now) ∥₁ → Becomes old new ◌≡◌ → Always new (FewVisits visits) → Walked old visits
walked visits some kept all = ∥∥₁_map some (λ p. (let q = kept.from p.0 p.1 p.2 in (p.0, q.0, q.1, subst (FewVisits visits) (sym q.2) (all p.0 p.1 p.2))))
