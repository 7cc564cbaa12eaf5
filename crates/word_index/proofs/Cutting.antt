-- The node of a key is taken out of the tree, and its lines are loose.
use Rattle.std.proofs.Common.{◌≡◌, ◌≢◌, ◌^◌, ◌+◌, ◌-◌, ◌≤◌, ℕ, true, false, cond, List, [], ◌∷◌, ◌++◌, length, is_some, sym, ap, ap₂, subst, ◌∙◌, append_assoc, length-append, arith}
use Rattle.std.specs.List.{flat_map}
use Rattle.std.proofs.lemmas.List.Elements.{All-head, All-tail}
use Rattle.std.proofs.lemmas.List.Concat.{flat_map-append}
use Rattle.cx_base.specs.Memory.{Becomes, Always}
use Rattle.cx_base.specs.Store.{Store}
use Rattle.doc_model.specs.Meaning.{document_at, without_key}
use Rattle.avl_words.specs.Tree.{Tree, items, Balanced, size}
use Rattle.index_validation.proofs.Arranging.{tree_few}
use Rattle.avl_words.specs.Ways.{whole, before, behind, spot}
use Rattle.avl_words.specs.Removal.{with_out, without}
use Rattle.avl_words.proofs.Removing.{out_items, out_balanced}
use Rattle.avl_words.proofs.Spots.{spot_whole}
use Rattle.avl_words.specs.Changes.{IsThere, CanTakeNode, TakesNode}
use Rattle.avl_words.specs.Lines.{word_of, with_word}
use Rattle.avl_words.specs.Words.{root, times as tree_times}
use Rattle.avl_words.specs.Exact.{with_tree}
use Rattle.avl_words.proofs.ExactWords.{tree_in_is}
use Rattle.avl_words.proofs.ExactTrees.{AreThere, tree_header}
use Rattle.index_validation.specs.Layout.{PairLayout, lines_at, nodes_of, IsLaidOut, StandsFor, IsIndex, head_of}
use Rattle.index_validation.proofs.LawfulWords.{store_is}
use Rattle.index_validation.proofs.Lines.{all_left}
use Rattle.index_validation.proofs.OneStore.{placed_append}
use Rattle.word_index.specs.Changes.{SameLine, LoosePair, HasLoosePair}
use Rattle.word_index.specs.Exact.{order_in, with_one_less, node_at, with_node_cut, is_key_in, with_pair_given, with_key_removed}
use Rattle.word_index.specs.Removal.{CanCut, Cuts}
use Rattle.word_index.specs.Walk.{AtSpot}
use Rattle.word_index.proofs.ExactGiving.{pair_is_given}
use Rattle.word_index.proofs.Frames.{times, times_append, at_same}
use Rattle.word_index.proofs.NewLinks.{IsRelaid, relaid_words, relaid_once, relaid_there, loose_same, relaid}
use Rattle.word_index.proofs.Splits.{document_there, without_itself}
use Rattle.word_index.proofs.KeyPlaces.{tree_of, map_append, walk_end, HasPlace, spot_place, spot_missing}
use Rattle.index_validation.proofs.Revisions.{triples_of}
use Rattle.word_index.proofs.Triples.{HasTriples, removed_at, triples_without}

-- how often a line stands in places with one place among them
pub times_middle : (x : ℕ) (front rest : List PairLayout) (place : PairLayout) →
    times x (flat_map lines_at (front ++ place ∷ rest)) ≡ times x (flat_map lines_at front) + times x (lines_at place) + times x (flat_map lines_at rest)
times_middle x front rest place =
    ap (times x) (flat_map-append lines_at front (place ∷ rest)) ∙
    omega (arith, times_append x (flat_map lines_at front) (lines_at place ++ flat_map lines_at rest), times_append x (lines_at place) (flat_map lines_at rest))

pub times_parts : (x : ℕ) (front rest : List PairLayout) → times x (flat_map lines_at (front ++ rest)) ≡ times x (flat_map lines_at front) + times x (flat_map lines_at rest)
times_parts x front rest = ap (times x) (flat_map-append lines_at front rest) ∙ times_append x (flat_map lines_at front) (flat_map lines_at rest)

-- the words with the node of a key cut out of the tree
module _ (ws key : List ℕ) (version : ℕ) (store : Store) (s : StandsFor ws version store) (node : ℕ) (h : HasPlace ws key s.places store (walk_end (order_in key ws) s.tree).0 (walk_end (order_in key ws) s.tree).1 node) where
  abbrev out : Tree ℕ
  out = without (order_in key ws) s.tree

  out_order : items out ≡ nodes_of (h.at.front ++ h.at.rest)
  out_order =
      let way = (walk_end (order_in key ws) s.tree).0 in
      ap (λ u. items (with_out way u)) h.here_is ∙ out_items way h.left node h.right
      ∙ sym (append_assoc (before way) (items h.left) (items h.right ++ behind way))
      ∙ sym (map_append (λ p. p.node) h.at.front h.at.rest ∙ ap (λ u. u ++ nodes_of h.at.rest) h.at.front_nodes ∙ ap (λ u. (before way ++ items h.left) ++ u) h.at.rest_nodes)

  out_even : Balanced out
  out_even =
      let way = (walk_end (order_in key ws) s.tree).0 in
      let b = subst Balanced (sym (spot_whole (order_in key ws) [] s.tree)) s.arranged.nodes.balanced in
      subst (λ u. Balanced (with_out way u)) (sym h.here_is) (out_balanced way h.left node h.right (subst (λ u. Balanced (whole way u)) h.here_is b))

  arranged : IsLaidOut ws (head_of version s.last) (h.at.lower ++ h.at.pair ∷ h.at.after) s.tree (h.at.front ++ h.at.place ∷ h.at.rest) s.given []
  arranged = subst (λ ps. IsLaidOut ws (head_of version s.last) (h.at.lower ++ h.at.pair ∷ h.at.after) s.tree ps s.given []) h.at.places_are (subst (λ st. IsLaidOut ws (head_of version s.last) st s.tree s.places s.given []) h.at.store_is s.arranged)

  same_lines : (x : ℕ) → times x (flat_map lines_at (h.at.front ++ h.at.rest) ++ s.given ++ (lines_at h.at.place ++ [])) ≡ times x (flat_map lines_at (h.at.front ++ h.at.place ∷ h.at.rest) ++ s.given ++ [])
  same_lines x =
      omega (
        arith,
        times_append x (flat_map lines_at (h.at.front ++ h.at.rest) ++ s.given) (lines_at h.at.place ++ []),
        times_append x (flat_map lines_at (h.at.front ++ h.at.rest)) s.given,
        times_append x (lines_at h.at.place) [],
        times_append x (flat_map lines_at (h.at.front ++ h.at.place ∷ h.at.rest) ++ s.given) [],
        times_append x (flat_map lines_at (h.at.front ++ h.at.place ∷ h.at.rest)) s.given,
        times_parts x h.at.front h.at.rest,
        times_middle x h.at.front h.at.rest h.at.place,
      )

  header_there : 8 ≤ length ws
  header_there = (let some = s.arranged.sized.some in omega arith)

  once : (x : ℕ) → tree_times x out ≤ 1
  once = relaid_once ws (head_of version s.last) (h.at.lower ++ h.at.pair ∷ h.at.after) (h.at.lower ++ h.at.after) s.tree out (h.at.front ++ h.at.place ∷ h.at.rest) (h.at.front ++ h.at.rest) s.given [] (lines_at h.at.place ++ []) arranged out_order same_lines

  there : AreThere ws out
  there = relaid_there ws (head_of version s.last) (h.at.lower ++ h.at.pair ∷ h.at.after) (h.at.lower ++ h.at.after) s.tree out (h.at.front ++ h.at.place ∷ h.at.rest) (h.at.front ++ h.at.rest) s.given [] (lines_at h.at.place ++ []) arranged out_order same_lines

  pub count_kept : word_of (with_tree (without (order_in key ws) s.tree) ws) 0 5 ≡ length (h.at.lower ++ h.at.after) + 1
  count_kept =
      tree_header out ws header_there once there 5 (omega arith) (omega arith) ∙ arranged.pair_count
      ∙ omega (arith, length-append h.at.lower (h.at.pair ∷ h.at.after), length-append h.at.lower h.at.after)

  relaid_now : IsRelaid ws (with_one_less (with_tree (without (order_in key ws) s.tree) ws)) out (length (h.at.lower ++ h.at.after))
  unfolding with_one_less
  relaid_now =
      let n = word_of (with_tree out ws) 0 5 in
      let e : n - 1 ≡ length (h.at.lower ++ h.at.after) = (let c = count_kept in omega arith) in
      subst (IsRelaid ws (with_word 0 5 (n - 1) (with_tree out ws)) out) e (relaid_words ws out (n - 1) header_there once there)

  pub cut_loose : LoosePair (with_one_less (with_tree (without (order_in key ws) s.tree) ws)) node (head_of version s.last) (h.at.lower ++ h.at.after) (without (order_in key ws) s.tree) (h.at.front ++ h.at.rest) h.at.place h.at.pair
  cut_loose =
      let now = with_one_less (with_tree out ws) in
      let lo = loose_same ws (head_of version s.last) (h.at.lower ++ h.at.pair ∷ h.at.after) (h.at.lower ++ h.at.after) s.tree out (h.at.front ++ h.at.place ∷ h.at.rest) (h.at.front ++ h.at.rest) s.given [] (lines_at h.at.place ++ []) arranged out_order same_lines now relaid_now in
      let lines = all_left (SameLine ws now) (lines_at h.at.place) [] lo in
      record {
        loose = record {
          given = s.given;
          arranged = relaid ws (head_of version s.last) (h.at.lower ++ h.at.pair ∷ h.at.after) (h.at.lower ++ h.at.after) s.tree out (h.at.front ++ h.at.place ∷ h.at.rest) (h.at.front ++ h.at.rest) s.given [] (lines_at h.at.place ++ []) arranged out_order same_lines now relaid_now
              out_even (placed_append ws h.at.front h.at.rest h.at.lower h.at.after h.at.placed_front h.at.placed_rest);
        };
        here = h.at.node_is;
        is = at_same ws now h.at.place h.at.pair (λ i l far. All-head (SameLine ws now) h.at.place.node (h.at.place.key_lines ++ h.at.place.document_lines) lines i l)
            (All-tail (SameLine ws now) h.at.place.node (h.at.place.key_lines ++ h.at.place.document_lines) lines) h.at.is;
      }

  pub cut_there : AreThere ws (without (order_in key ws) s.tree)
  cut_there = there

  pub cut_size : size (without (order_in key ws) s.tree) ≤ 2 ^ 32
  cut_size =
      let now = with_one_less (with_tree (without (order_in key ws) s.tree) ws) in
      let a = cut_loose.loose.arranged in
      let few = tree_few now (head_of version s.last) (h.at.lower ++ h.at.after) (without (order_in key ws) s.tree) (h.at.front ++ h.at.rest) cut_loose.loose.given (lines_at h.at.place ++ []) a in
      let end = a.end_to in
      let lines = a.sized.few in
      omega (arith, few, end, lines)

  -- once the node of a key is cut out and its lines are given back, the words have the pairs without that key
  pub removed_stands : (w : List ℕ) → w ≡ with_pair_given node (with_one_less (with_tree (without (order_in key ws) s.tree) ws)) →
      HasTriples w (head_of version s.last) (without_key key store) (removed_at key (triples_of s.places store))
  removed_stands w e =
      let now = with_one_less (with_tree out ws) in
      let g = pair_is_given node now (head_of version s.last) (h.at.lower ++ h.at.after) out (h.at.front ++ h.at.rest) h.at.place h.at.pair cut_loose in
      let is : store ≡ h.at.lower ++ (key, h.document) ∷ h.at.after = h.at.store_is ∙ ap (λ p. h.at.lower ++ p ∷ h.at.after) h.pair_is in
      let same : h.at.lower ++ h.at.after ≡ without_key key store = without_itself key h.document h.at.lower h.at.after h.below h.above ∙ ap (without_key key) (sym is) in
      let triples_left = triples_without ws key h.at.front h.at.rest h.at.lower h.at.after h.at.placed_front h.below h.above h.document h.at.place in
      subst (λ v. HasTriples v (head_of version s.last) (without_key key store) (removed_at key (triples_of s.places store))) (sym e)
      (subst (λ st. HasTriples (with_pair_given node now) (head_of version s.last) st (removed_at key (triples_of s.places store))) same (record {
        tree = out;
        places = h.at.front ++ h.at.rest;
        given = g.given;
        arranged = g.arranged;
        triples_are = triples_left ∙ ap (removed_at key) (sym (ap₂ triples_of h.at.places_are is));
      }))

  pub removed_there : true ≡ is_some (document_at key store)
  removed_there =
      let is : store ≡ h.at.lower ++ (key, h.document) ∷ h.at.after = h.at.store_is ∙ ap (λ p. h.at.lower ++ p ∷ h.at.after) h.pair_is in
      sym (ap is_some (ap (document_at key) is ∙ document_there key h.document h.at.lower h.at.after h.below))

there_of : (ws key nodes sides : List ℕ) (depth node above version : ℕ) (store : Store) (s : StandsFor ws version store) → AtSpot false key nodes sides depth node above ws → node ≢ 0 → IsThere ws nodes sides (order_in key ws) depth node s.tree
there_of ws key nodes sides depth node above version store s spot n = record {
  header = (let some = s.arranged.sized.some in omega arith);
  tree = tree_of ws version store s;
  spot = (spot version store s).at;
  some = n;
}

pub can_take : (ws nodes sides : List ℕ) (depth node : ℕ) → CanCut ws nodes sides depth node → CanTakeNode ws nodes sides depth node
can_take ws nodes sides depth node c =
    record { order = order_in c.key ws; tree = c.index.stands.tree; there = there_of ws c.key nodes sides depth node c.above 2 c.index.store c.index.stands c.spot c.some }

place_in : (ws key nodes sides : List ℕ) (depth node above version : ℕ) (store : Store) (s : StandsFor ws version store) → AtSpot false key nodes sides depth node above ws → node ≢ 0 →
    HasPlace ws key s.places store (walk_end (order_in key ws) s.tree).0 (walk_end (order_in key ws) s.tree).1 node
place_in ws key nodes sides depth node above version store s spot n = spot_place ws key version store s nodes sides depth node above (spot version store s) n

-- the number of pairs in the header, `n`, once a node was taken out of the tree and before it is lowered by one, is at least 1
pub cut_count : (x z nodes sides : List ℕ) (depth node n : ℕ) → CanCut x nodes sides depth node → TakesNode nodes sides depth node x z → word_of z 0 5 ≡ n → 1 ≤ n
cut_count x z nodes sides depth node n c t e =
    let s = c.index.stands in
    let i = there_of x c.key nodes sides depth node c.above 2 c.index.store s c.spot c.some in
    let k = count_kept x c.key 2 c.index.store s node (place_in x c.key nodes sides depth node c.above 2 c.index.store s c.spot c.some) in
    let w = ap (λ v. word_of v 0 5) (t (order_in c.key x) s.tree i) in
    omega (arith, e, w, k)

pub cuts : (x z w nodes sides : List ℕ) (depth node n : ℕ) → TakesNode nodes sides depth node x z → word_of z 0 5 ≡ n → w ≡ with_word 0 5 (n - 1) z → Cuts nodes sides depth node x w
unfolding with_node_cut with_one_less
cuts x z w nodes sides depth node n t e f key above spot i some =
    let s = i.stands in
    let there = there_of x key nodes sides depth node above 2 i.store s spot some in
    f ∙ ap (λ m. with_word 0 5 (m - 1) z) (sym e)
    ∙ ap (λ v. with_word 0 5 (word_of v 0 5 - 1) v) (t (order_in key x) s.tree there ∙ ap (λ u. with_tree (without (order_in key x) u) x) (sym (tree_in_is x s.tree (tree_of x 2 i.store s))))

-- cutting the node of a key out of the tree that is read off the words cuts it out of the tree that they stand for
pub cut_is : (x key : List ℕ) (version : ℕ) (store : Store) (s : StandsFor x version store) → with_node_cut key x ≡ with_one_less (with_tree (without (order_in key x) s.tree) x)
unfolding with_node_cut
cut_is x key version store s = ap (λ u. with_one_less (with_tree (without (order_in key x) u) x)) (tree_in_is x s.tree (tree_of x version store s))

-- once a node is cut out of the tree, its pair stands at a place of its own, beside the pairs that are left
pub cut_pair : (x w nodes sides : List ℕ) (depth node : ℕ) → CanCut x nodes sides depth node → Cuts nodes sides depth node x w → HasLoosePair w node
cut_pair x w nodes sides depth node c t =
    let s = c.index.stands in
    let h = place_in x c.key nodes sides depth node c.above 2 c.index.store s c.spot c.some in
    let e : w ≡ with_one_less (with_tree (without (order_in c.key x) s.tree) x) = t c.key c.above c.spot c.index c.some ∙ cut_is x c.key 2 c.index.store s in
    subst (λ v. HasLoosePair v node) (sym e) (record {
      head = head_of 2 s.last;
      store = h.at.lower ++ h.at.after;
      tree = without (order_in c.key x) s.tree;
      places = h.at.front ++ h.at.rest;
      place = h.at.place;
      pair = h.at.pair;
      there = cut_loose x c.key 2 c.index.store s node h;
    })

-- the node at which the walk to a key ended is the one that the definition names
node_is : (y key nodes sides : List ℕ) (depth node above : ℕ) → AtSpot false key nodes sides depth node above y → IsIndex y → node ≡ node_at key y
unfolding node_at
node_is y key nodes sides depth node above spot i =
    (spot 2 i.store i.stands).at.node_is ∙ ap (λ u. root (walk_end (order_in key y) u).1) (sym (tree_in_is y i.stands.tree (tree_of y 2 i.store i.stands)))

pub removal_runs : (x y w v key nodes sides : List ℕ) (depth node above : ℕ) → IsIndex y → y ≡ x → AtSpot false key nodes sides depth node above y → node ≢ 0 → Cuts nodes sides depth node y w → v ≡ with_pair_given node w → (true ≡ is_key_in key x) × (v ≡ with_key_removed key x)
unfolding is_key_in with_key_removed
removal_runs x y w v key nodes sides depth node above i e spot n t g =
    let h = place_in y key nodes sides depth node above 2 i.store i.stands spot n in
    let here : true ≡ is_key_in key x = removed_there y key 2 i.store i.stands node h ∙ ap (λ st. is_some (document_at key st)) (sym (store_is y 2 i.store i.stands)) ∙ ap (is_key_in key) e in (
      here,
      g ∙ ap (with_pair_given node) (t key above spot i n) ∙ ap (λ m. with_pair_given m (with_node_cut key y)) (node_is y key nodes sides depth node above spot i)
          ∙ ap (λ u. with_pair_given (node_at key u) (with_node_cut key u)) e ∙ ap (λ b. cond b (with_pair_given (node_at key x) (with_node_cut key x)) x) here,
    )

pub no_removal_runs : (x y key nodes sides : List ℕ) (depth node above : ℕ) → IsIndex y → y ≡ x → AtSpot false key nodes sides depth node above y → node ≡ 0 → (false ≡ is_key_in key x) × (y ≡ with_key_removed key x)
unfolding is_key_in with_key_removed
no_removal_runs x y key nodes sides depth node above i e spot z =
    let here : false ≡ is_key_in key x = sym (ap is_some (spot_missing y key nodes sides depth node above spot z 2 i.store i.stands)) ∙ ap (λ st. is_some (document_at key st)) (sym (store_is y 2 i.store i.stands)) ∙ ap (is_key_in key) e in
    (here, e ∙ ap (λ b. cond b (with_pair_given (node_at key x) (with_node_cut key x)) x) here)

-- the node at which the walk to a key ended, in words that stand for a store, can be cut out of the tree
pub can_cut : (ws key nodes sides : List ℕ) (depth node above : ℕ) → AtSpot false key nodes sides depth node above ws → IsIndex ws → node ≢ 0 → CanCut ws nodes sides depth node
can_cut ws key nodes sides depth node above s i n = record { key = key; above = above; spot = s; index = i; some = n }

-- a bound that holds of the words after a reading holds of those before it
pub visits_read : {Key : Type 0} {old new : Key → List ℕ → Type 0} {P : List ℕ → Type 0} → Becomes old new ◌≡◌ → Always new P → Becomes old new (λ x y. P x)
visits_read {P = P} kept all = record { from = λ first now s. (let p = kept.from first now s in (p.0, p.1, subst P (sym p.2) (all first now s))) }
