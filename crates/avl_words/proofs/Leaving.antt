-- A node is taken out where a walk ended.
use Rattle.std.proofs.Common.{◌≡◌, ◌≢◌, ◌+◌, ◌<◌, ◌≤◌, ℕ, suc, List, [], ◌∷◌, ◌++◌, length, get_or, set, refl, sym, ap, subst, ◌∙◌, add-one, length-append, get_or-set_same, get_or-set_other, arith, lit<}
use Rattle.std.specs.declared.cmp.Ordering.{Ordering}
use Rattle.avl_words.specs.Tree.{Tree, Empty, Node, height, IsLevel, Balanced}
use Rattle.avl_words.specs.Ways.{Turn, whole, mended, spot}
use Rattle.avl_words.specs.Removal.{least, gone_way, gone_rest, with_out}
use Rattle.avl_words.proofs.Trees.{balanced_at}
use Rattle.avl_words.proofs.Depth.{depth_bound, height_at}
use Rattle.avl_words.proofs.Spots.{spot_whole}
use Rattle.avl_words.specs.Changes.{IsThere, CanTakeNode, TakesNode, HasTwo, IsBelow, CanDescend, IsLeastNode, Descends, IsGone, IsNodeOut, RaisesNode, IsDescending}
use Rattle.avl_words.specs.Lines.{word_of, IsWithin, with_word}
use Rattle.avl_words.specs.Words.{root, times, RepresentsTree, IsWayNoted}
use Rattle.avl_words.specs.Links.{high_of, SameExcept, IsTreeMade}
use Rattle.avl_words.specs.Mending.{Settled, CanMend, Mends}
use Rattle.avl_words.specs.Exact.{with_tree}
use Rattle.avl_words.proofs.ExactWords.{only_words}
use Rattle.avl_words.proofs.Frames.{except_then, except_more, link_but}
use Rattle.avl_words.proofs.Hanging.{whole_times, mended_times}
use Rattle.avl_words.proofs.Putting.{spine_of, low_way}
use Rattle.avl_words.proofs.Taking.{gone_hung, gone_settled, least_is_there, times_both}
use Rattle.avl_words.proofs.Relinking.{settled_of}
use Rattle.avl_words.proofs.Walks.{stands_at, noted_set}

-- a way that is noted stays so where another node is noted at its depth or a greater one
noted_below : (nodes sides : List ℕ) (way : List (Turn ℕ)) (d a : ℕ) → length way ≤ d → IsWayNoted nodes sides way → IsWayNoted (set nodes d a) sides way
noted_below nodes sides [] d a le n = tt
noted_below nodes sides (turn ∷ way) d a le n = (get_or-set_other nodes d (length way) a 0 (omega arith) ∙ n.0, n.1, n.2, noted_below nodes sides way d a (omega arith) n.3)

-- a way noted with a turn to the right at `x` is noted with that turn at `m`, once `m` is stored in place of `x`
pub noted_other : (nodes sides : List ℕ) (passed way : List (Turn ℕ)) (x m : ℕ) (s : Tree ℕ) → length way < length nodes → IsWayNoted nodes sides (passed ++ record { side = 1; item = x; sibling = s } ∷ way) →
    IsWayNoted (set nodes (length way) m) sides (passed ++ record { side = 1; item = m; sibling = s } ∷ way)
noted_other nodes sides [] way x m s room n = (get_or-set_same nodes (length way) m 0 room, n.1, n.2, noted_below nodes sides way (length way) m (omega arith) n.3)
noted_other nodes sides (turn ∷ passed) way x m s room n =
    let other : Turn ℕ = record { side = 1; item = x; sibling = s } in
    let new : Turn ℕ = record { side = 1; item = m; sibling = s } in
    let a = length-append passed (other ∷ way) in
    let b = length-append passed (new ∷ way) in
    let same : length (passed ++ new ∷ way) ≡ length (passed ++ other ∷ way) = omega (arith, a, b) in (
      ap (λ k. get_or (set nodes (length way) m) k 0) same ∙ get_or-set_other nodes (length way) (length (passed ++ other ∷ way)) m 0 (omega (arith, a)) ∙ n.0,
      ap (λ k. get_or sides k 0) same ∙ n.1,
      n.2,
      noted_other nodes sides passed way x m s room n.3,
    )

-- a walk down to the least node begins at the node below which a way is noted
pub descending_begins : (ws nodes sides : List ℕ) (depth node : ℕ) (way : List (Turn ℕ)) (c : Tree ℕ) (z : ℕ) (d : Tree ℕ) → IsBelow ws nodes sides depth node way c z d → IsDescending ws nodes sides depth node way c z d
descending_begins ws nodes sides depth node way c z d b =
    record { passed = []; left = c; item = z; right = d; same = refl; whole_is = refl; noted = b.noted; long = b.long; node_is = b.node_is; stands = b.stands }

-- a walk down to the least node that is at a node `x` with no left child has found it: `x` is the least node, and its way is noted
left_end : (nodes sides : List ℕ) (depth node : ℕ) (way passed : List (Turn ℕ)) (l : Tree ℕ) (x : ℕ) (r : Tree ℕ) (c : Tree ℕ) (z : ℕ) (d : Tree ℕ) (ws : List ℕ) → RepresentsTree ws l → root l ≡ 0 → least passed l x r ≡ least [] c z d →
    IsWayNoted nodes sides (passed ++ way) → length (passed ++ way) ≡ depth → x ≡ node → IsLeastNode nodes sides depth node way c z d
left_end nodes sides depth node way passed Empty x r c z d ws s e same noted long is = record {
  noted = subst (λ q. IsWayNoted nodes sides (q.way ++ way)) same noted;
  long = ap (λ q. length (q.way ++ way)) (sym same) ∙ long;
  node_is = ap (λ q. q.item) (sym same) ∙ is;
}
left_end nodes sides depth node way passed (Node a y b) x r c z d ws s e same noted long is = absurd (let some = s.0.some in omega arith)

-- a walk down to the least node ends at a node whose word 0 is 0: that node is the least one
pub descending_ends : (ws nodes sides : List ℕ) (depth node left : ℕ) (way : List (Turn ℕ)) (c : Tree ℕ) (z : ℕ) (d : Tree ℕ) → IsDescending ws nodes sides depth node way c z d → word_of ws node 0 ≡ left → left ≡ 0 → IsLeastNode nodes sides depth node way c z d
descending_ends ws nodes sides depth node left way c z d o w e =
    left_end nodes sides depth node way o.passed o.left o.item o.right c z d ws o.stands.1 (sym o.stands.0.left_is ∙ ap (λ n. word_of ws n 0) o.node_is ∙ w ∙ e) o.same o.noted o.long o.node_is

-- a walk down to the least node that is at a node `x` with a left child notes `x` and goes on at that child, one deeper
left_on : (ws nodes sides : List ℕ) (depth node left : ℕ) (way passed : List (Turn ℕ)) (l : Tree ℕ) (x : ℕ) (r : Tree ℕ) (c : Tree ℕ) (z : ℕ) (d : Tree ℕ) → RepresentsTree ws l → root l ≡ left → left ≢ 0 → least passed l x r ≡ least [] c z d →
    whole passed (Node l x r) ≡ Node c z d → IsWayNoted nodes sides (passed ++ way) → length (passed ++ way) ≡ depth → x ≡ node → depth < length nodes → depth < length sides →
    IsDescending ws (set nodes depth node) (set sides depth 0) (depth + 1) left way c z d
left_on ws nodes sides depth node left way passed Empty x r c z d s e n same w noted long is room space = absurd (n (sym e))
left_on ws nodes sides depth node left way passed (Node a y b) x r c z d s e n same w noted long is room space = record {
  passed = record { side = 0; item = x; sibling = r } ∷ passed;
  left = a;
  item = y;
  right = b;
  same = same;
  whole_is = w;
  noted = (
    ap (λ k. get_or (set nodes depth node) k 0) long ∙ get_or-set_same nodes depth node 0 room ∙ sym is,
    ap (λ k. get_or (set sides depth 0) k 0) long ∙ get_or-set_same sides depth 0 0 space,
    lit< tt,
    noted_set nodes sides (passed ++ way) depth node 0 (omega arith) noted,
  );
  long = ap suc long ∙ sym (add-one depth);
  node_is = e;
  stands = s;
}

-- a walk down to the least node goes on at the node that word 0 of its node names, where that is not 0
pub descending_on : (ws nodes sides : List ℕ) (depth node left : ℕ) (way : List (Turn ℕ)) (c : Tree ℕ) (z : ℕ) (d : Tree ℕ) → IsDescending ws nodes sides depth node way c z d → word_of ws node 0 ≡ left → left ≢ 0 → depth < length nodes → depth < length sides →
    IsDescending ws (set nodes depth node) (set sides depth 0) (depth + 1) left way c z d
descending_on ws nodes sides depth node left way c z d o w n room space =
    left_on ws nodes sides depth node left way o.passed o.left o.item o.right c z d o.stands.1 (sym o.stands.0.left_is ∙ ap (λ k. word_of ws k 0) o.node_is ∙ w) n o.same o.whole_is o.noted o.long o.node_is room space

-- the node that a walk down to the least node is at is within the words
pub descending_within : (ws nodes sides : List ℕ) (depth node : ℕ) (way : List (Turn ℕ)) (c : Tree ℕ) (z : ℕ) (d : Tree ℕ) → IsDescending ws nodes sides depth node way c z d → IsWithin ws node
descending_within ws nodes sides depth node way c z d o = subst (IsWithin ws) o.node_is o.stands.0.within

-- a walk down to the least node is at a depth below 64, where the way and the height of the tree below it are at most 64 together
pub descending_room : (ws nodes sides : List ℕ) (depth node first : ℕ) (way : List (Turn ℕ)) (c : Tree ℕ) (z : ℕ) (d : Tree ℕ) → IsDescending ws nodes sides depth node way c z d → length way ≡ first → first + height (Node c z d) ≤ 64 → depth < 64
descending_room ws nodes sides depth node first way c z d o long room =
    let h = height_at o.passed (Node o.left o.item o.right) in
    let e = ap height o.whole_is in
    let a = length-append o.passed way in
    let l = o.long in
    omega (arith, h, e, a, l)

-- the tree that is to hang at the end of a way where a node is taken out
module _ (ws nodes sides : List ℕ) (depth node left right : ℕ) (way : List (Turn ℕ)) where
  -- a balanced tree of lines apart, at most 64 high, stands, the way to this part of it is noted, and its node has these links
  pub record IsAtEnd (here : Tree ℕ) : Type 0 where
    pub stands : RepresentsTree ws (whole way here)
    pub balanced : Balanced (whole way here)
    pub once : (line : ℕ) → times line (whole way here) ≤ 1
    pub low : height (whole way here) ≤ 64
    pub noted : IsWayNoted nodes sides way
    pub long : length way ≡ depth
    pub node_is : node ≡ root here
    pub left_is : word_of ws node 0 ≡ left
    pub right_is : word_of ws node 1 ≡ right

  -- with no word changed, a balanced tree `c` of lines of the node at the end of the way, level with it, can hang in its place
  one_gone : (l : Tree ℕ) (x : ℕ) (r c : Tree ℕ) → IsAtEnd (Node l x r) → RepresentsTree ws c → Balanced c → IsLevel (height (Node l x r)) (height c) → ((line : ℕ) → times line c ≤ times line (Node l x r)) → IsGone ws ws nodes sides depth depth (root c) way c
  one_gone l x r c e s b level le = record {
    hung = record {
      noted = e.noted;
      long = e.long;
      spine = spine_of ws way (Node l x r) e.stands;
      stands = s;
      root_is = refl;
      once = λ k. (let o = e.once k in let w = whole_times k way (Node l x r) in let m = le k in omega (arith, o, w, m));
      low = low_way way (Node l x r) c e.balanced b level (let h = e.low in omega arith);
    };
    settled_way = settled_of ws nodes sides depth way (Node l x r) e.noted e.stands e.balanced;
    but = record { long = refl; same = λ line i l h. refl };
  }

  -- a node at the end of the way without a left child is out with no word changed: its right child is to take its place
  pub left_out : (here : Tree ℕ) → IsAtEnd here → left ≡ 0 → IsNodeOut ws ws nodes sides depth depth right way here
  left_out Empty e z = tt
  left_out (Node Empty x r) e z =
      let s = stands_at ws way (Node Empty x r) e.stands in
      let b = balanced_at way (Node Empty x r) e.balanced in
      let level = b.0 in
      let is : root r ≡ right = sym s.0.right_is ∙ ap (λ n. word_of ws n 1) (sym e.node_is) ∙ e.right_is in
      subst (λ n. IsGone ws ws nodes sides depth depth n way r) is (one_gone Empty x r r e s.2 b.2 (record { left = omega arith; right = omega arith }) (λ k. omega arith))
  left_out (Node (Node a y c) x r) e z =
      let s = stands_at ws way (Node (Node a y c) x r) e.stands in
      let is : y ≡ left = sym s.0.left_is ∙ ap (λ n. word_of ws n 0) (sym e.node_is) ∙ e.left_is in
      absurd (let some = s.1.0.some in omega arith)

  -- a node at the end of the way with a left child and no right one is out with no word changed: its left child is to take its place
  pub right_out : (here : Tree ℕ) → IsAtEnd here → left ≢ 0 → right ≡ 0 → IsNodeOut ws ws nodes sides depth depth left way here
  right_out Empty e n z = tt
  right_out (Node Empty x r) e n z =
      let s = stands_at ws way (Node Empty x r) e.stands in
      absurd (n (sym e.left_is ∙ ap (λ k. word_of ws k 0) e.node_is ∙ s.0.left_is))
  right_out (Node (Node a y c) x Empty) e n z =
      let s = stands_at ws way (Node (Node a y c) x Empty) e.stands in
      let b = balanced_at way (Node (Node a y c) x Empty) e.balanced in
      let level = b.0 in
      let is : y ≡ left = sym s.0.left_is ∙ ap (λ k. word_of ws k 0) (sym e.node_is) ∙ e.left_is in
      subst (λ k. IsGone ws ws nodes sides depth depth k way (Node a y c)) is (one_gone (Node a y c) x Empty (Node a y c) e s.1 b.1 (record { left = omega arith; right = omega arith }) (λ k. omega arith))
  right_out (Node (Node a y c) x (Node u v w)) e n z =
      let s = stands_at ws way (Node (Node a y c) x (Node u v w)) e.stands in
      let is : v ≡ right = sym s.0.right_is ∙ ap (λ k. word_of ws k 1) (sym e.node_is) ∙ e.right_is in
      absurd (let some = s.2.0.some in omega arith)

  -- what stands here is a node `x` with two children: the nodes `y` and `z` with their subtrees
  pub record HasBoth (here : Tree ℕ) : Type 0 where
    pub a : Tree ℕ
    pub y : ℕ
    pub b : Tree ℕ
    pub x : ℕ
    pub c : Tree ℕ
    pub z : ℕ
    pub d : Tree ℕ
    pub is : here ≡ Node (Node a y b) x (Node c z d)

  -- a node at the end of the way whose words 0 and 1 are not 0 has two children
  pub both_of : (here : Tree ℕ) → IsAtEnd here → node ≢ 0 → left ≢ 0 → right ≢ 0 → HasBoth here
  both_of Empty e s n m = absurd (s e.node_is)
  both_of (Node Empty x r) e s n m =
      let i = stands_at ws way (Node Empty x r) e.stands in
      absurd (n (sym e.left_is ∙ ap (λ k. word_of ws k 0) e.node_is ∙ i.0.left_is))
  both_of (Node (Node a y b) x Empty) e s n m =
      let i = stands_at ws way (Node (Node a y b) x Empty) e.stands in
      absurd (m (sym e.right_is ∙ ap (λ k. word_of ws k 1) e.node_is ∙ i.0.right_is))
  both_of (Node (Node a y b) x (Node c z d)) e s n m = record { a = a; y = y; b = b; x = x; c = c; z = z; d = d; is = refl }

  module _ (here : Tree ℕ) (at_end : IsAtEnd here) (some : node ≢ 0) (some_left : left ≢ 0) (some_right : right ≢ 0) where
    abbrev pub p : HasBoth here
    p = both_of here at_end some some_left some_right

    e : IsAtEnd (Node (Node p.a p.y p.b) p.x (Node p.c p.z p.d))
    e = subst IsAtEnd p.is at_end

    here_stands : RepresentsTree ws (Node (Node p.a p.y p.b) p.x (Node p.c p.z p.d))
    here_stands = stands_at ws way (Node (Node p.a p.y p.b) p.x (Node p.c p.z p.d)) e.stands

    left_here : p.y ≡ left
    left_here = sym here_stands.0.left_is ∙ ap (λ k. word_of ws k 0) (sym e.node_is) ∙ e.left_is

    right_here : p.z ≡ right
    right_here = sym here_stands.0.right_is ∙ ap (λ k. word_of ws k 1) (sym e.node_is) ∙ e.right_is

    pub room_two : depth + 2 ≤ 64
    room_two = (let h = height_at way (Node (Node p.a p.y p.b) p.x (Node p.c p.z p.d)) in let l = e.long in let low = e.low in omega (arith, h, l, low))

    abbrev pub next_way : List (Turn ℕ)
    next_way = record { side = 1; item = p.x; sibling = Node p.a p.y p.b } ∷ way

    -- the way to the right child is noted, with the turn to the right at the node, and the right tree stands at its end
    pub is_below : length nodes ≡ 64 → length sides ≡ 64 → IsBelow ws (set nodes depth node) (set sides depth 1) (depth + 1) right (record { side = 1; item = p.x; sibling = Node p.a p.y p.b } ∷ way) p.c p.z p.d
    is_below nodes_long sides_long = record {
      noted = (
        ap (λ k. get_or (set nodes depth node) k 0) e.long ∙ get_or-set_same nodes depth node 0 (omega (arith, room_two, nodes_long)) ∙ e.node_is,
        ap (λ k. get_or (set sides depth 1) k 0) e.long ∙ get_or-set_same sides depth 1 0 (omega (arith, room_two, sides_long)),
        lit< tt,
        noted_set nodes sides way depth node 1 (let l = e.long in omega arith) e.noted,
      );
      long = ap suc e.long ∙ sym (add-one depth);
      stands = here_stands.2;
      node_is = right_here;
    }

    -- a walk down to the least node of the right tree may begin
    pub can_descend : length nodes ≡ 64 → length sides ≡ 64 → CanDescend ws (set nodes depth node) (set sides depth 1) (depth + 1) right
    can_descend nodes_long sides_long = record {
      way = record { side = 1; item = p.x; sibling = Node p.a p.y p.b } ∷ way;
      left = p.c;
      item = p.z;
      right = p.d;
      below = is_below nodes_long sides_long;
      room = (let h = height_at way (Node (Node p.a p.y p.b) p.x (Node p.c p.z p.d)) in let l = e.long in let low = e.low in omega (arith, h, l, low));
    }

    pub least_within : (m : ℕ) → (least [] p.c p.z p.d).item ≡ m → IsWithin ws m
    least_within m is = subst (IsWithin ws) is (least_is_there ws nodes sides depth way p.a p.y p.b p.x p.c p.z p.d e.stands e.balanced e.once e.low).0.within

    -- With the least node in its place on the way, and the left child linked to it, the node is out: the right child of the least node is to hang where
    -- the least node was.
    pub raised : (nodes_now sides_now : List ℕ) (depth_now m rest : ℕ) (now : List ℕ) → length nodes_now ≡ 64 →
        IsLeastNode nodes_now sides_now depth_now m (record { side = 1; item = p.x; sibling = Node p.a p.y p.b } ∷ way) p.c p.z p.d → word_of ws m 1 ≡ rest → now ≡ with_word m 0 left ws →
        IsNodeOut ws now (set nodes_now depth m) sides_now depth_now depth rest way here
    raised nodes_now sides_now depth_now m rest now long l word is =
        let q = least [] p.c p.z p.d in
        let up : List (Turn ℕ) = record { side = 1; item = q.item; sibling = Node p.a p.y p.b } ∷ way in
        let there = least_is_there ws nodes sides depth way p.a p.y p.b p.x p.c p.z p.d e.stands e.balanced e.once e.low in
        let words : with_word q.item 0 p.y ws ≡ now = ap (λ k. with_word k 0 p.y ws) l.node_is ∙ ap (λ v. with_word m 0 v ws) left_here ∙ sym is in
        let rest_is : root q.rest ≡ rest = sym there.0.right_is ∙ ap (λ k. word_of ws k 1) l.node_is ∙ word in
        let noted : IsWayNoted (set nodes_now depth m) sides_now (q.way ++ up) = subst (λ k. IsWayNoted (set nodes_now depth m) sides_now (q.way ++ record { side = 1; item = k; sibling = Node p.a p.y p.b } ∷ way)) (sym l.node_is)
        (subst (λ k. IsWayNoted (set nodes_now k m) sides_now (q.way ++ record { side = 1; item = m; sibling = Node p.a p.y p.b } ∷ way)) e.long (noted_other nodes_now sides_now q.way way p.x m (Node p.a p.y p.b) (omega (arith, e.long, room_two, long)) l.noted)) in
        let same : length (q.way ++ up) ≡ depth_now = (let a = length-append q.way up in let b = length-append q.way (record { side = 1; item = p.x; sibling = Node p.a p.y p.b } ∷ way) in let c = l.long in omega (arith, a, b, c)) in
        let hung = gone_hung ws (set nodes_now depth m) sides_now depth_now way p.a p.y p.b p.x p.c p.z p.d e.stands e.balanced e.once e.low noted same in
        let settled = subst (λ n. Settled (with_word q.item 0 p.y ws) n (q.way ++ up)) e.long (gone_settled ws nodes sides depth way p.a p.y p.b p.x p.c p.z p.d e.stands e.balanced e.once e.low e.noted) in
        let but : SameExcept ws (with_word q.item 0 p.y ws) (whole (q.way ++ up) q.rest) = except_more ws (with_word q.item 0 p.y ws) (Node Empty q.item Empty) (whole (q.way ++ up) q.rest)
        (λ k. (let w = whole_times k (q.way ++ up) q.rest in let t = times_both k q.way up in omega (arith, w, t))) (link_but ws q.item 0 p.y (lit< tt)) in
        subst (IsNodeOut ws now (set nodes_now depth m) sides_now depth_now depth rest way) (sym p.is)
        (subst (λ k. IsGone ws now (set nodes_now depth m) sides_now depth_now depth k (q.way ++ up) q.rest) rest_is
        (subst (λ v. IsGone ws v (set nodes_now depth m) sides_now depth_now depth (root q.rest) (q.way ++ up) q.rest) words (record { hung = hung; settled_way = settled; but = but })))

-- where a walk ended at a node with these two links, the way to it is noted, and the tree there is at the way's end
pub at_end : (ws nodes sides : List ℕ) (order : ℕ → Ordering) (depth node left right : ℕ) (t : Tree ℕ) → IsThere ws nodes sides order depth node t → word_of ws node 0 ≡ left → word_of ws node 1 ≡ right →
    IsAtEnd ws nodes sides depth node left right (spot order [] t).0 (spot order [] t).1
at_end ws nodes sides order depth node left right t i l r =
    let e = spot_whole order [] t in
    record {
      stands = subst (RepresentsTree ws) (sym e) i.tree.stands;
      balanced = subst Balanced (sym e) i.tree.balanced;
      once = λ k. (let o = i.tree.once k in let f = ap (times k) e in omega (arith, o, f));
      low = (let b = depth_bound t i.tree.balanced i.tree.few in let f = ap height e in omega (arith, b, f));
      noted = i.spot.noted;
      long = i.spot.long;
      node_is = i.spot.node_is;
      left_is = l;
      right_is = r;
    }

-- mending the way with the tree that is to hang in a node's place makes the whole tree without that node
out_made : (ws mid now nodes sides : List ℕ) (depth settled rest high top : ℕ) (way : List (Turn ℕ)) (l : Tree ℕ) (x : ℕ) (r : Tree ℕ) → IsNodeOut ws mid nodes sides depth settled rest way (Node l x r) → high_of rest mid ≡ high → Mends nodes sides depth settled rest high top mid now →
    IsTreeMade mid now (whole (gone_way way l r) (gone_rest l r)) (mended (gone_way way l r) (gone_rest l r)) top
out_made ws mid now nodes sides depth settled rest high top way l x r o tall m = m (gone_way way l r) (gone_rest l r) o.hung tall o.settled_way

-- mending the way with the tree that is to hang in a node's place, and storing the new root, makes the words of the tree without that node
out_words : (ws mid now nodes sides : List ℕ) (depth settled rest high top : ℕ) (way : List (Turn ℕ)) (here : Tree ℕ) → here ≢ Empty → IsNodeOut ws mid nodes sides depth settled rest way here → high_of rest mid ≡ high → Mends nodes sides depth settled rest high top mid now →
    with_word 0 1 top now ≡ with_tree (with_out way here) ws
unfolding with_tree
out_words ws mid now nodes sides depth settled rest high top way Empty n o tall m = absurd (n refl)
out_words ws mid now nodes sides depth settled rest high top way (Node l x r) n o tall m =
    let v = gone_way way l r in
    let c = gone_rest l r in
    let made = out_made ws mid now nodes sides depth settled rest high top way l x r o tall m in
    let but : SameExcept ws now (mended v c) = except_more ws now (whole v c) (mended v c) (λ k. (let a = mended_times k v c in let b = whole_times k v c in omega (arith, a, b))) (except_then ws mid now (whole v c) o.but made.but) in
    ap (λ k. with_word 0 1 k now) (sym made.root_is) ∙ ap (with_word 0 1 (root (mended v c))) (only_words ws now (mended v c) but made.stands)

-- a tree `t` whose root is not 0 is not empty
not_empty : (t : Tree ℕ) (node : ℕ) → node ≡ root t → node ≢ 0 → t ≢ Empty
not_empty t node e n = λ f. n (e ∙ ap root f)

-- where a tree is to hang in the node's place, mending the way with it and then storing the new root takes the node out of the tree
pub takes : (ws mid now last nodes sides nodes_now sides_now : List ℕ) (depth node left right depth_now rest high top : ℕ) → word_of ws node 0 ≡ left → word_of ws node 1 ≡ right → RaisesNode nodes sides depth node left right nodes_now sides_now depth_now rest ws mid →
    high_of rest mid ≡ high → Mends nodes_now sides_now depth_now depth rest high top mid now → last ≡ with_word 0 1 top now → TakesNode nodes sides depth node ws last
takes ws mid now last nodes sides nodes_now sides_now depth node left right depth_now rest high top l r u tall m e order t i =
    e ∙ out_words ws mid now nodes_now sides_now depth_now depth rest high top (spot order [] t).0 (spot order [] t).1 (not_empty (spot order [] t).1 node i.spot.node_is i.some) (u order t i l r) tall m

-- once a node is out but for the tree that is to hang in its place, the way can be mended with that tree
out_hung : (ws mid nodes sides : List ℕ) (depth settled rest high : ℕ) (way : List (Turn ℕ)) (here : Tree ℕ) → here ≢ Empty → IsNodeOut ws mid nodes sides depth settled rest way here → high_of rest mid ≡ high → CanMend mid nodes sides depth settled rest high
out_hung ws mid nodes sides depth settled rest high way Empty n o tall = absurd (n refl)
out_hung ws mid nodes sides depth settled rest high way (Node l x r) n o tall = record { way = gone_way way l r; tree = gone_rest l r; hung = o.hung; high_is = tall; settled_way = o.settled_way }

-- where a node was taken out so far that a tree is to hang in its place, the way to it can be mended with that tree
pub can_mend_out : (ws mid nodes sides nodes_now sides_now : List ℕ) (depth node left right depth_now rest high : ℕ) → HasTwo ws nodes sides depth node left right → RaisesNode nodes sides depth node left right nodes_now sides_now depth_now rest ws mid →
    high_of rest mid ≡ high → CanMend mid nodes_now sides_now depth_now depth rest high
can_mend_out ws mid nodes sides nodes_now sides_now depth node left right depth_now rest high h u tall =
    let i = h.can.there in
    out_hung ws mid nodes_now sides_now depth_now depth rest high (spot h.can.order [] h.can.tree).0 (spot h.can.order [] h.can.tree).1 (not_empty (spot h.can.order [] h.can.tree).1 node i.spot.node_is i.some) (u h.can.order h.can.tree i h.left_is h.right_is) tall

-- what is to hang in a node's place is a node within the words, or nothing
pub rest_there : (ws mid nodes sides nodes_now sides_now : List ℕ) (depth node left right depth_now rest : ℕ) → HasTwo ws nodes sides depth node left right → RaisesNode nodes sides depth node left right nodes_now sides_now depth_now rest ws mid →
    rest ≢ 0 → IsWithin mid rest
rest_there ws mid nodes sides nodes_now sides_now depth node left right depth_now rest h u n =
    (let c = can_mend_out ws mid nodes sides nodes_now sides_now depth node left right depth_now rest (high_of rest mid) h u refl in at_root c.tree c.hung.stands c.hung.root_is)
  where
    -- the root of a tree that the words stand for is within them, where it is `rest` and that is not 0
    at_root : (t : Tree ℕ) → RepresentsTree mid t → root t ≡ rest → IsWithin mid rest
    at_root Empty s e = absurd (n (sym e))
    at_root (Node l x r) s e = subst (IsWithin mid) e s.0.within

-- a node that can be taken out is within the words
pub node_there : (ws nodes sides : List ℕ) (depth node : ℕ) → CanTakeNode ws nodes sides depth node → IsWithin ws node
node_there ws nodes sides depth node c =
    let i = c.there in
    let e = spot_whole c.order [] c.tree in
    at_root (spot c.order [] c.tree).1 (stands_at ws (spot c.order [] c.tree).0 (spot c.order [] c.tree).1 (subst (RepresentsTree ws) (sym e) i.tree.stands)) i.spot.node_is i.some
  where
    -- the root of a tree that the words stand for is within them, where it is `node` and that is not 0
    at_root : (here : Tree ℕ) → RepresentsTree ws here → node ≡ root here → node ≢ 0 → IsWithin ws node
    at_root Empty s e n = absurd (n e)
    at_root (Node l x r) s e n = subst (IsWithin ws) (sym e) s.0.within

-- a node is taken out of the words `x` also where the change began at words `y` that are equal to them
pub takes_from : (x y mid now last nodes sides nodes_now sides_now : List ℕ) (depth node left right depth_now rest high top : ℕ) → y ≡ x → HasTwo y nodes sides depth node left right → RaisesNode nodes sides depth node left right nodes_now sides_now depth_now rest y mid →
    high_of rest mid ≡ high → Mends nodes_now sides_now depth_now depth rest high top mid now → last ≡ with_word 0 1 top now → TakesNode nodes sides depth node x last
takes_from x y mid now last nodes sides nodes_now sides_now depth node left right depth_now rest high top e h u tall m l =
    subst (λ w. TakesNode nodes sides depth node w last) e (takes y mid now last nodes sides nodes_now sides_now depth node left right depth_now rest high top h.left_is h.right_is u tall m l)

-- where a node has no left child, no word changes before the way is mended: its right child is to hang in its place
pub one_raises_left : (x y nodes sides : List ℕ) (depth node left right : ℕ) → x ≡ y → left ≡ 0 → RaisesNode nodes sides depth node left right nodes sides depth right x y
one_raises_left x y nodes sides depth node left right e z order t i l r =
    subst (λ w. IsNodeOut x w nodes sides depth depth right (spot order [] t).0 (spot order [] t).1) e
    (left_out x nodes sides depth node left right (spot order [] t).0 (spot order [] t).1 (at_end x nodes sides order depth node left right t i l r) z)

-- where a node has a left child and no right one, no word changes before the way is mended: its left child is to hang in its place
pub one_raises_right : (x y nodes sides : List ℕ) (depth node left right : ℕ) → x ≡ y → left ≢ 0 → right ≡ 0 → RaisesNode nodes sides depth node left right nodes sides depth left x y
one_raises_right x y nodes sides depth node left right e n z order t i l r =
    subst (λ w. IsNodeOut x w nodes sides depth depth left (spot order [] t).0 (spot order [] t).1) e
    (right_out x nodes sides depth node left right (spot order [] t).0 (spot order [] t).1 (at_end x nodes sides order depth node left right t i l r) n z)

-- a walk down to the least node never reaches depth 64, since the way and the height of the tree below it are at most 64 together
pub descending_deep : (ws nodes sides : List ℕ) (depth node : ℕ) (nodes_now sides_now : List ℕ) (depth_now node_now : ℕ) → CanDescend ws nodes sides depth node → 64 ≤ depth_now →
    ((way : List (Turn ℕ)) (c : Tree ℕ) (z : ℕ) (d : Tree ℕ) → IsBelow ws nodes sides depth node way c z d → IsDescending ws nodes_now sides_now depth_now node_now way c z d) → ⊥
descending_deep ws nodes sides depth node nodes_now sides_now depth_now node_now h deep o =
    let r = descending_room ws nodes_now sides_now depth_now node_now depth h.way h.left h.item h.right (o h.way h.left h.item h.right h.below) h.below.long h.room in
    absurd (omega arith)

-- where a node with these two links can be taken out, the way to it is noted, and the tree there is at the way's end
end_of : (ws nodes sides : List ℕ) (depth node left right : ℕ) (h : HasTwo ws nodes sides depth node left right) → IsAtEnd ws nodes sides depth node left right (spot h.can.order [] h.can.tree).0 (spot h.can.order [] h.can.tree).1
end_of ws nodes sides depth node left right h = at_end ws nodes sides h.can.order depth node left right h.can.tree h.can.there h.left_is h.right_is

-- a node with two children is at a depth of at most 62, so that its way has room for two more turns
pub two_room : (ws nodes sides : List ℕ) (depth node left right : ℕ) → left ≢ 0 → right ≢ 0 → HasTwo ws nodes sides depth node left right → depth + 2 ≤ 64
two_room ws nodes sides depth node left right n m h =
    room_two ws nodes sides depth node left right (spot h.can.order [] h.can.tree).0 (spot h.can.order [] h.can.tree).1 (end_of ws nodes sides depth node left right h) h.can.there.some n m

-- once the turn to the right at a node with two children is noted, a walk down to the least node of its right tree may begin
pub two_descends : (ws nodes sides : List ℕ) (depth node left right : ℕ) → left ≢ 0 → right ≢ 0 → length nodes ≡ 64 → length sides ≡ 64 → HasTwo ws nodes sides depth node left right →
    CanDescend ws (set nodes depth node) (set sides depth 1) (depth + 1) right
two_descends ws nodes sides depth node left right n m nl sl h =
    can_descend ws nodes sides depth node left right (spot h.can.order [] h.can.tree).0 (spot h.can.order [] h.can.tree).1 (end_of ws nodes sides depth node left right h) h.can.there.some n m nl sl

-- the least node `m` of the right tree, which the walk down has found, is within the words
pub two_within : (ws nodes sides nodes_now sides_now : List ℕ) (depth node left right depth_now m : ℕ) → left ≢ 0 → right ≢ 0 → length nodes ≡ 64 → length sides ≡ 64 → HasTwo ws nodes sides depth node left right →
    Descends (set nodes depth node) (set sides depth 1) (depth + 1) right nodes_now sides_now depth_now m ws → IsWithin ws m
two_within ws nodes sides nodes_now sides_now depth node left right depth_now m n k nl sl h d =
    let way = (spot h.can.order [] h.can.tree).0 in
    let here = (spot h.can.order [] h.can.tree).1 in
    let end = (end_of ws nodes sides depth node left right h) in
    let v = p ws nodes sides depth node left right way here end h.can.there.some n k in
    let l = d (next_way ws nodes sides depth node left right way here end h.can.there.some n k) v.c v.z v.d (is_below ws nodes sides depth node left right way here end h.can.there.some n k nl sl) in
    least_within ws nodes sides depth node left right way here end h.can.there.some n k m l.node_is

-- with the least node `m` in the node's place on the way, and the left child stored as its word 0, the right child of `m` is to hang there
pub two_raises : (x y nodes sides nodes_now sides_now : List ℕ) (now : List ℕ) (depth node left right depth_now m rest : ℕ) → left ≢ 0 → right ≢ 0 → length nodes ≡ 64 → length sides ≡ 64 → length nodes_now ≡ 64 → y ≡ x →
    Descends (set nodes depth node) (set sides depth 1) (depth + 1) right nodes_now sides_now depth_now m y → word_of y m 1 ≡ rest → now ≡ with_word m 0 left y →
    RaisesNode nodes sides depth node left right (set nodes_now depth m) sides_now depth_now rest x now
two_raises x y nodes sides nodes_now sides_now now depth node left right depth_now m rest n k nl sl ll e d w is =
    subst (λ v. RaisesNode nodes sides depth node left right (set nodes_now depth m) sides_now depth_now rest v now) e (λ order t i l r. (
    let end = at_end y nodes sides order depth node left right t i l r in
    let way = (spot order [] t).0 in
    let here = (spot order [] t).1 in
    let v = p y nodes sides depth node left right way here end i.some n k in
    raised y nodes sides depth node left right way here end i.some n k nodes_now sides_now depth_now m rest now ll
    (d (next_way y nodes sides depth node left right way here end i.some n k) v.c v.z v.d (is_below y nodes sides depth node left right way here end i.some n k nl sl)) w is))
