-- A walk down a tree of lines: what stands at each place, and how long the way can be.
use Rattle.std.proofs.Common.{◌≡◌, ◌≢◌, ◌^◌, ◌+◌, ◌*◌, ◌<◌, ◌≤◌, ℕ, zero, suc, List, [], ◌∷◌, ◌++◌, length, get_or, set, refl, sym, ap, subst, ◌∙◌, add-one, get_or-set_other, get_or-set_same, lit<, arith}
use Rattle.std.specs.declared.cmp.Ordering.{Ordering}
use Rattle.std.specs.declared.cmp.Ordering.TheVariants.{Less, Equal, Greater}
use Rattle.std.proofs.Math.Pow.{pow_mono}
use Rattle.avl_words.specs.Tree.{Tree, Empty, Node, height, items, size, node_on}
use Rattle.avl_words.specs.Ways.{Turn, whole, behind, spot}
use Rattle.avl_words.specs.Lines.{word_of}
use Rattle.avl_words.specs.Words.{root, RepresentsTree, IsTree, IsWayNoted, IsOnWay, IsSpot}
use Rattle.avl_words.proofs.Depth.{depth_law, depth_bound, height_at}
use Rattle.avl_words.proofs.Spots.{spot_right, spot_here, spot_left}

-- what stands at a place
parts_stand : (ws : List ℕ) (side : ℕ) (t : Tree ℕ) (x : ℕ) (s : Tree ℕ) → RepresentsTree ws (node_on side t x s) → RepresentsTree ws t
parts_stand ws zero t x s h = h.1
parts_stand ws (suc k) t x s h = h.2

-- what stands at the end of a way in a tree that stands, stands itself
pub stands_at : (ws : List ℕ) (way : List (Turn ℕ)) (t : Tree ℕ) → RepresentsTree ws (whole way t) → RepresentsTree ws t
stands_at ws [] t s = s
stands_at ws (turn ∷ way) t s = parts_stand ws turn.side t turn.item turn.sibling (stands_at ws way (node_on turn.side t turn.item turn.sibling) s)

-- a noted way stays noted when a node `a` and a side `b` are stored at a depth `d` behind it
pub noted_set : (nodes sides : List ℕ) (way : List (Turn ℕ)) (d a b : ℕ) → length way ≤ d → IsWayNoted nodes sides way → IsWayNoted (set nodes d a) (set sides d b) way
noted_set nodes sides [] d a b le n = tt
noted_set nodes sides (turn ∷ way) d a b le n =
    (get_or-set_other nodes d (length way) a 0 (omega arith) ∙ n.0, get_or-set_other sides d (length way) b 0 (omega arith) ∙ n.1, n.2, noted_set nodes sides way d a b (omega arith) n.3)

root_none : (t : Tree ℕ) → height t ≡ 0 → root t ≡ 0
root_none Empty e = refl
root_none (Node l x r) e = absurd (omega arith)

high_here : (node : ℕ) (t : Tree ℕ) → node ≡ root t → node ≢ 0 → 1 ≤ height t
high_here node Empty e n = absurd (n e)
high_here node (Node l x r) e n = omega arith

module _ (ws : List ℕ) (order : ℕ → Ordering) (t : Tree ℕ) (i : IsTree ws t) where
  here_stands : (nodes sides : List ℕ) (d node : ℕ) (o : IsOnWay nodes sides order d node t) → RepresentsTree ws o.here
  here_stands nodes sides d node o = stands_at ws o.way o.here (subst (RepresentsTree ws) (sym o.whole_is) i.stands)

  -- the way goes on
  -- a step to the right keeps what stands behind, and one to the left puts the node in front of it
  pub record IsRight (nodes sides : List ℕ) (depth node : ℕ) (old : List ℕ) : Type 0 where
    pub on : IsOnWay nodes sides order depth node t
    pub behind_is : behind on.way ≡ old

  pub record IsLeft (nodes sides : List ℕ) (depth node first : ℕ) : Type 0 where
    pub on : IsOnWay nodes sides order depth node t
    pub rest : List ℕ
    pub behind_is : behind on.way ≡ first ∷ rest

  -- from a node `x` below what is sought the walk notes a turn to the right and goes on in the right tree, with the same items behind
  on_right : (nodes sides : List ℕ) (d node next : ℕ) (way : List (Turn ℕ)) (l : Tree ℕ) (x : ℕ) (r : Tree ℕ) → d < 64 → length nodes ≡ 64 → length sides ≡ 64 → whole way (Node l x r) ≡ t → spot order [] t ≡ spot order way (Node l x r) →
      node ≡ x → RepresentsTree ws (Node l x r) → order node ≡ Less → word_of ws node 1 ≡ next → length way ≡ d → IsWayNoted nodes sides way → IsRight (set nodes d node) (set sides d 1) (d + 1) next (behind way)
  on_right nodes sides d node next way l x r room nl sl w same e s less word long noted = record {
    on = record {
      way = record { side = 1; item = x; sibling = l } ∷ way;
      here = r;
      whole_is = w;
      same = same ∙ spot_right order way l x r (ap order (sym e) ∙ less);
      node_is = sym word ∙ ap (λ n. word_of ws n 1) e ∙ s.0.right_is;
      noted = (
        ap (λ k. get_or (set nodes d node) k 0) long ∙ get_or-set_same nodes d node 0 (omega arith) ∙ e,
        ap (λ k. get_or (set sides d 1) k 0) long ∙ get_or-set_same sides d 1 0 (omega arith),
        lit< tt,
        noted_set nodes sides way d node 1 (omega arith) noted,
      );
      long = ap suc long ∙ sym (add-one d);
    };
    behind_is = refl;
  }

  -- from a node `x` above what is sought the walk notes a turn to the left and goes on in the left tree, with `x` the first item behind
  on_left : (nodes sides : List ℕ) (d node next : ℕ) (way : List (Turn ℕ)) (l : Tree ℕ) (x : ℕ) (r : Tree ℕ) → d < 64 → length nodes ≡ 64 → length sides ≡ 64 → whole way (Node l x r) ≡ t → spot order [] t ≡ spot order way (Node l x r) →
      node ≡ x → RepresentsTree ws (Node l x r) → order node ≡ Greater → word_of ws node 0 ≡ next → length way ≡ d → IsWayNoted nodes sides way → IsLeft (set nodes d node) (set sides d 0) (d + 1) next node
  on_left nodes sides d node next way l x r room nl sl w same e s more word long noted = record {
    on = record {
      way = record { side = 0; item = x; sibling = r } ∷ way;
      here = l;
      whole_is = w;
      same = same ∙ spot_left order way l x r (ap order (sym e) ∙ more);
      node_is = sym word ∙ ap (λ n. word_of ws n 0) e ∙ s.0.left_is;
      noted = (
        ap (λ k. get_or (set nodes d node) k 0) long ∙ get_or-set_same nodes d node 0 (omega arith) ∙ e,
        ap (λ k. get_or (set sides d 0) k 0) long ∙ get_or-set_same sides d 0 0 (omega arith),
        lit< tt,
        noted_set nodes sides way d node 0 (omega arith) noted,
      );
      long = ap suc long ∙ sym (add-one d);
    };
    rest = items r ++ behind way;
    behind_is = ap (λ n. n ∷ (items r ++ behind way)) (sym e);
  }

  -- a walk at a tree whose root is a node below what is sought goes on to its right child, at depth `d + 1`
  go_right : (nodes sides : List ℕ) (d node next : ℕ) (way : List (Turn ℕ)) (here : Tree ℕ) → d < 64 → length nodes ≡ 64 → length sides ≡ 64 → whole way here ≡ t → spot order [] t ≡ spot order way here →
      node ≡ root here → node ≢ 0 → RepresentsTree ws here → order node ≡ Less → word_of ws node 1 ≡ next → length way ≡ d → IsWayNoted nodes sides way → IsRight (set nodes d node) (set sides d 1) (d + 1) next (behind way)
  go_right nodes sides d node next way Empty room nl sl w same e n s less word long noted = absurd (n e)
  go_right nodes sides d node next way (Node l x r) room nl sl w same e n s less word long noted = on_right nodes sides d node next way l x r room nl sl w same e s less word long noted

  -- a walk at a tree whose root is a node above what is sought goes on to its left child, at depth `d + 1`
  go_left : (nodes sides : List ℕ) (d node next : ℕ) (way : List (Turn ℕ)) (here : Tree ℕ) → d < 64 → length nodes ≡ 64 → length sides ≡ 64 → whole way here ≡ t → spot order [] t ≡ spot order way here →
      node ≡ root here → node ≢ 0 → RepresentsTree ws here → order node ≡ Greater → word_of ws node 0 ≡ next → length way ≡ d → IsWayNoted nodes sides way → IsLeft (set nodes d node) (set sides d 0) (d + 1) next node
  go_left nodes sides d node next way Empty room nl sl w same e n s more word long noted = absurd (n e)
  go_left nodes sides d node next way (Node l x r) room nl sl w same e n s more word long noted = on_left nodes sides d node next way l x r room nl sl w same e s more word long noted

  -- a walk at a node below what is sought goes on at the node that its word 1 names, and keeps what is behind the way `o`
  pub goes_right : (nodes sides : List ℕ) (d node next : ℕ) (o : IsOnWay nodes sides order d node t) → d < 64 → length nodes ≡ 64 → length sides ≡ 64 → node ≢ 0 → order node ≡ Less → word_of ws node 1 ≡ next →
      IsRight (set nodes d node) (set sides d 1) (d + 1) next (behind o.way)
  goes_right nodes sides d node next o room nl sl n less word =
      go_right nodes sides d node next o.way o.here room nl sl o.whole_is o.same o.node_is n (here_stands nodes sides d node o) less word o.long o.noted

  -- a walk at a node above what is sought goes on at the node that its word 0 names, with the node itself as the first one behind
  pub goes_left : (nodes sides : List ℕ) (d node next : ℕ) (o : IsOnWay nodes sides order d node t) → d < 64 → length nodes ≡ 64 → length sides ≡ 64 → node ≢ 0 → order node ≡ Greater → word_of ws node 0 ≡ next →
      IsLeft (set nodes d node) (set sides d 0) (d + 1) next node
  goes_left nodes sides d node next o room nl sl n more word =
      go_left nodes sides d node next o.way o.here room nl sl o.whole_is o.same o.node_is n (here_stands nodes sides d node o) more word o.long o.noted

  -- how the walk ends
  ended : (nodes sides : List ℕ) (d node : ℕ) (way : List (Turn ℕ)) (here : Tree ℕ) → spot order [] t ≡ (way, here) → node ≡ root here → length way ≡ d → IsWayNoted nodes sides way → IsSpot nodes sides order d node t
  ended nodes sides d node way here e f long noted = record {
    node_is = f ∙ ap (λ s. root s.1) (sym e);
    noted = subst (IsWayNoted nodes sides) (ap (λ s. s.0) (sym e)) noted;
    long = ap (λ s. length s.0) e ∙ long;
  }

  -- a walk whose place has the root 0 is at the empty tree and ends there, at depth `d`
  end_none : (nodes sides : List ℕ) (d node : ℕ) (way : List (Turn ℕ)) (here : Tree ℕ) → RepresentsTree ws here → spot order [] t ≡ spot order way here → node ≡ root here → node ≡ 0 → length way ≡ d → IsWayNoted nodes sides way → IsSpot nodes sides order d node t
  end_none nodes sides d node way Empty s same e z long noted = ended nodes sides d node way Empty same e long noted
  end_none nodes sides d node way (Node l x r) s same e z long noted = absurd (let some = s.0.some in omega arith)

  -- a walk that is at node 0 has ended: that is its spot, at depth `d`
  pub way_ends : (nodes sides : List ℕ) (d node : ℕ) → IsOnWay nodes sides order d node t → node ≡ 0 → IsSpot nodes sides order d node t
  way_ends nodes sides d node o z = end_none nodes sides d node o.way o.here (here_stands nodes sides d node o) o.same o.node_is z o.long o.noted

  -- a walk whose place has the node sought as its root ends there, at depth `d`
  end_same : (nodes sides : List ℕ) (d node : ℕ) (way : List (Turn ℕ)) (here : Tree ℕ) → spot order [] t ≡ spot order way here → node ≡ root here → order node ≡ Equal → length way ≡ d → IsWayNoted nodes sides way → IsSpot nodes sides order d node t
  end_same nodes sides d node way Empty same e q long noted = ended nodes sides d node way Empty same e long noted
  end_same nodes sides d node way (Node l x r) same e q long noted = ended nodes sides d node way (Node l x r) (same ∙ spot_here order way l x r (ap order (sym e) ∙ q)) e long noted

  -- a walk that is at the node sought has ended: that is its spot, at depth `d`
  pub way_ends_same : (nodes sides : List ℕ) (d node : ℕ) → IsOnWay nodes sides order d node t → order node ≡ Equal → IsSpot nodes sides order d node t
  way_ends_same nodes sides d node o q = end_same nodes sides d node o.way o.here o.same o.node_is q o.long o.noted

  way_height : (nodes sides : List ℕ) (d node : ℕ) (o : IsOnWay nodes sides order d node t) → height o.here + d ≤ height t
  way_height nodes sides d node o =
      let h = height_at o.way o.here in
      let e = ap height o.whole_is in
      let l = o.long in
      omega arith

  -- the bound on visits
  pub few_on_way : (nodes sides : List ℕ) (d node : ℕ) → IsOnWay nodes sides order d node t → 2 ^ d ≤ 2 * ((size t + 1) * (size t + 1))
  few_on_way nodes sides d node o =
      let h = way_height nodes sides d node o in
      let p : 2 ^ d ≤ 2 ^ height t = pow_mono {i = d} {j = height t} (omega arith) in
      let q = depth_law t i.balanced in
      omega (arith, p, q)

  -- where a walk is at a node, at depth `d`, a tree of n nodes has 2 ^ (d + 1) ≤ 2 * (n + 1)²
  pub few_at_node : (nodes sides : List ℕ) (d node : ℕ) → IsOnWay nodes sides order d node t → node ≢ 0 → 2 ^ (d + 1) ≤ 2 * ((size t + 1) * (size t + 1))
  few_at_node nodes sides d node o n =
      let h = way_height nodes sides d node o in
      let g = high_here node o.here o.node_is n in
      let p : 2 ^ (d + 1) ≤ 2 ^ height t = pow_mono {i = d + 1} {j = height t} (omega arith) in
      let q = depth_law t i.balanced in
      omega (arith, p, q)

  -- the way at the end is the one that was noted
  end_way : (nodes sides : List ℕ) (d node : ℕ) (way : List (Turn ℕ)) (here : Tree ℕ) → RepresentsTree ws here → spot order [] t ≡ spot order way here → node ≡ root here → node ≡ 0 → (spot order [] t).0 ≡ way
  end_way nodes sides d node way Empty s same e z = ap (λ s. s.0) same
  end_way nodes sides d node way (Node l x r) s same e z = absurd (let some = s.0.some in omega arith)

  -- the way of a walk that is at node 0 is the whole way to where the walk ends
  pub way_ended : (nodes sides : List ℕ) (d node : ℕ) (o : IsOnWay nodes sides order d node t) → node ≡ 0 → (spot order [] t).0 ≡ o.way
  way_ended nodes sides d node o z = end_way nodes sides d node o.way o.here (here_stands nodes sides d node o) o.same o.node_is z

  end_way_same : (node : ℕ) (way : List (Turn ℕ)) (here : Tree ℕ) → spot order [] t ≡ spot order way here → node ≡ root here → order node ≡ Equal → (spot order [] t).0 ≡ way
  end_way_same node way Empty same e q = ap (λ s. s.0) same
  end_way_same node way (Node l x r) same e q = ap (λ s. s.0) (same ∙ spot_here order way l x r (ap order (sym e) ∙ q))

  -- the way of a walk that is at the node sought is the whole way to where the walk ends
  pub way_ended_same : (nodes sides : List ℕ) (d node : ℕ) (o : IsOnWay nodes sides order d node t) → order node ≡ Equal → (spot order [] t).0 ≡ o.way
  way_ended_same nodes sides d node o q = end_way_same node o.way o.here o.same o.node_is q

  pub deep_none : (nodes sides : List ℕ) (d node : ℕ) → IsOnWay nodes sides order d node t → 64 ≤ d → node ≡ 0
  deep_none nodes sides d node o deep =
      let h = way_height nodes sides d node o in
      let b = depth_bound t i.balanced i.few in
      o.node_is ∙ root_none o.here (omega arith)
