-- The nodes of a tree in order.
use Rattle.std.proofs.Common.{◌≡◌, ◌≢◌, ◌+◌, ◌<◌, ◌≤◌, ◌++◌, ◌^◌, inl, inr, ℕ, zero, suc, eqb, List, [], ◌∷◌, length, length-append, get_or, set, refl, sym, ap, subst, ◌∙◌, get_or-set_other, get_or-set_same, add-one, arith}
use Rattle.std.proofs.lemmas.Bool.{cases_eq, cond-true, eq-eqb}
use Rattle.std.proofs.lemmas.List.{append_assoc, length-set}
use Rattle.avl_words.specs.Tree.{Tree, Empty, Node, height, size, items}
use Rattle.avl_words.proofs.Depth.{depth_bound}
use Rattle.avl_words.specs.Exact.{tree_at, tree_in}
use Rattle.avl_words.specs.Lines.{word_of, IsWithin}
use Rattle.avl_words.specs.Words.{root, RepresentsTree}
use Rattle.avl_words.specs.Links.{high_of}
use Rattle.avl_words.proofs.ExactWords.{tree_at_is}
use Rattle.avl_words.proofs.Frames.{high_is}
use Rattle.index_validation.specs.Shape.{HasShape}
use Rattle.index_validation.specs.Order.{nodes_in_order, HasTree, IsLeftPassed, AreNoted, to_come}

-- a tree has as many items as its size says
pub items_count : (t : Tree ℕ) → length (items t) ≡ size t
items_count Empty = refl
items_count (Node l x r) = omega (arith, length-append (items l) (x ∷ items r), items_count l, items_count r)

-- the nodes below a link are those of the tree that stands there
pub in_order_is : (ws : List ℕ) (t : Tree ℕ) (line : ℕ) → RepresentsTree ws t → root t ≡ line → height t ≤ 64 → nodes_in_order line ws ≡ items t
unfolding nodes_in_order
in_order_is ws t line s e low = ap (λ k. items (tree_at 64 k ws)) (sym e) ∙ ap items (tree_at_is ws t 64 s low)

-- the nodes below the link of the header are those of the tree that the words stand for
pub in_order_root : (ws : List ℕ) → nodes_in_order (word_of ws 0 1) ws ≡ items (tree_in ws)
unfolding nodes_in_order tree_in
in_order_root ws = refl

-- what has the shape of a balanced tree of fewer than 2 ^ 32 nodes is a tree at most 64 high
pub tree_of : (ws : List ℕ) (line count : ℕ) → HasShape ws line count → count < 2 ^ 32 → HasTree ws line 0
tree_of ws line count h few = record {
  tree = h.tree;
  stands = h.stands;
  root_is = h.root_is;
  low = (let low = depth_bound h.tree h.balanced (subst (λ n. n < 2 ^ 32) (sym h.counted) few) in omega arith);
}

-- the nodes below a line with a balanced tree's shape are that tree's, where they are fewer than 2 ^ 32
pub shape_lines : (ws : List ℕ) (line count : ℕ) (h : HasShape ws line count) → count < 2 ^ 32 → nodes_in_order line ws ≡ items h.tree
shape_lines ws line count h few = in_order_is ws h.tree line h.stands h.root_is (depth_bound h.tree h.balanced (subst (λ n. n < 2 ^ 32) (sym h.counted) few))

-- below a line with the shape of a balanced tree of `count` nodes stand `count` nodes, where they are fewer than 2 ^ 32
pub shape_count : (ws : List ℕ) (line count : ℕ) → HasShape ws line count → count < 2 ^ 32 → length (nodes_in_order line ws) ≡ count
shape_count ws line count h few = ap length (shape_lines ws line count h few) ∙ items_count h.tree ∙ h.counted

-- a line other than 0 is a node with two trees below it, and the nodes below the line, in order, are the left one's, the line, and the right one's
pub record IsParted (ws : List ℕ) (line level : ℕ) : Type 0 where
  pub some : 1 ≤ line
  pub within : IsWithin ws line
  pub left : HasTree ws (word_of ws line 0) (level + 1)
  pub right : HasTree ws (word_of ws line 1) (level + 1)
  pub lines : nodes_in_order line ws ≡ nodes_in_order (word_of ws line 0) ws ++ line ∷ nodes_in_order (word_of ws line 1) ws

-- A tree that stands below a line other than 0 is a node there and two trees: its nodes in order are the left one's, the node, and the right one's. The levels above
-- and its height are at most 64 together, and so are they for both trees, with one level more.
part : (ws : List ℕ) (line level : ℕ) (t : Tree ℕ) → RepresentsTree ws t → root t ≡ line → level + height t ≤ 64 → line ≢ 0 → IsParted ws line level
part ws line level Empty s e low n = absurd (n (sym e))
part ws line level (Node l x r) s e low n =
    let p : root l ≡ word_of ws line 0 = sym s.0.left_is ∙ ap (λ k. word_of ws k 0) e in
    let q : root r ≡ word_of ws line 1 = sym s.0.right_is ∙ ap (λ k. word_of ws k 1) e in
    record {
      some = subst (λ k. 1 ≤ k) e s.0.some;
      within = subst (IsWithin ws) e s.0.within;
      left = record { tree = l; stands = s.1; root_is = p; low = omega arith };
      right = record { tree = r; stands = s.2; root_is = q; low = omega arith };
      lines = in_order_is ws (Node l x r) line s e (omega arith)
          ∙ ap (λ k. items l ++ k ∷ items r) e
          ∙ ap (λ ls. ls ++ line ∷ items r) (sym (in_order_is ws l (word_of ws line 0) s.1 p (omega arith)))
          ∙ ap (λ ls. nodes_in_order (word_of ws line 0) ws ++ line ∷ ls) (sym (in_order_is ws r (word_of ws line 1) s.2 q (omega arith)));
    }

-- a tree below a line other than 0 is a node and two trees
pub part_of : (ws : List ℕ) (line level : ℕ) → HasTree ws line level → line ≢ 0 → IsParted ws line level
part_of ws line level h n = part ws line level h.tree h.stands h.root_is h.low n

-- below link 0 stands the empty tree
no_tree : (ws : List ℕ) (n line : ℕ) → line ≡ 0 → tree_at n line ws ≡ Empty
no_tree ws zero line z = refl
no_tree ws (suc n) line z =
    cond-true (eqb line 0) Empty (Node (tree_at n (word_of ws line 0) ws) line (tree_at n (word_of ws line 1) ws)) (eq-eqb line 0 z)

-- no node stands below link 0
pub no_lines : (ws : List ℕ) (line : ℕ) → line ≡ 0 → nodes_in_order line ws ≡ []
unfolding nodes_in_order
no_lines ws line z = ap items (no_tree ws 64 line z)

-- a tree whose root is not 0 is at least 1 high
some_high : (ws : List ℕ) (t : Tree ℕ) (line : ℕ) → root t ≡ line → line ≢ 0 → 1 ≤ height t
some_high ws Empty line e n = absurd (n (sym e))
some_high ws (Node l x r) line e n = omega arith

-- a tree below a line other than 0 begins at a level below 64, so that its root can be noted
pub room_to_note : (ws : List ℕ) (line level : ℕ) → HasTree ws line level → line ≢ 0 → level < 64
room_to_note ws line level h n = (let low = h.low in let some = some_high ws h.tree line h.root_is n in omega arith)

-- a note at a depth leaves the nodes that are still to come at the depths below it
to_come_set : (ws nodes : List ℕ) (d e v : ℕ) → d ≤ e → to_come ws (set nodes e v) d ≡ to_come ws nodes d
to_come_set ws nodes zero e v le = refl
to_come_set ws nodes (suc d) e v le =
    ap (λ k. k ∷ (nodes_in_order (word_of ws k 1) ws ++ to_come ws (set nodes e v) d)) (get_or-set_other nodes e d v 0 (omega arith))
    ∙ ap (λ u. get_or nodes d 0 ∷ (nodes_in_order (word_of ws (get_or nodes d 0) 1) ws ++ u)) (to_come_set ws nodes d e v (omega arith))

-- with a node `v` noted at depth `d`, it is the next that the walk reaches, then those of its right tree, then those that were to come
to_come_note : (ws nodes : List ℕ) (d v : ℕ) → d < length nodes → to_come ws (set nodes d v) (d + 1) ≡ v ∷ (nodes_in_order (word_of ws v 1) ws ++ to_come ws nodes d)
to_come_note ws nodes d v l =
    ap (λ k. to_come ws (set nodes d v) k) (add-one d)
    ∙ ap (λ k. k ∷ (nodes_in_order (word_of ws k 1) ws ++ to_come ws (set nodes d v) d)) (get_or-set_same nodes d v 0 l)
    ∙ ap (λ u. v ∷ (nodes_in_order (word_of ws v 1) ws ++ u)) (to_come_set ws nodes d d v (omega arith))

-- with a node `v` whose left subtree is passed noted at depth `d`, the first `d + 1` nodes noted are all such nodes
pub noted_more : (ws nodes : List ℕ) (d v : ℕ) → d < length nodes → AreNoted ws nodes d → IsLeftPassed ws v d → AreNoted ws (set nodes d v) (d + 1)
noted_more ws nodes d v l are is p less =
    elim (cases_eq p d) as (λ _. IsLeftPassed ws (get_or (set nodes d v) p 0) p) [
      | inl e ↦ subst (λ k. IsLeftPassed ws (get_or (set nodes d v) k 0) k) (sym e) (subst (λ k. IsLeftPassed ws k d) (sym (get_or-set_same nodes d v 0 l)) is)
      | inr n ↦ subst (λ k. IsLeftPassed ws k p) (sym (get_or-set_other nodes d p v 0 n)) (are p (let o : p ≢ d = n in omega arith))
    ]

-- on the way down to the least node: what stands below the node here and what is to come are, in order, the nodes below the first node and then the rest
pub record IsDescending (ws nodes : List ℕ) (depth node from : ℕ) (rest : List ℕ) : Type 0 where
  pub noted : AreNoted ws nodes depth
  pub tree : HasTree ws node depth
  pub lines : nodes_in_order node ws ++ to_come ws nodes depth ≡ nodes_in_order from ws ++ rest
  pub long : length nodes ≡ 64

-- the way down to the least node notes a node and goes on at its left child: all nodes still to be reached are the same ones
pub descend_more : (ws nodes : List ℕ) (depth node next from : ℕ) (rest : List ℕ) → IsDescending ws nodes depth node from rest → node ≢ 0 → next ≡ word_of ws node 0 → IsDescending ws (set nodes depth node) (depth + 1) next from rest
descend_more ws nodes depth node next from rest d n e =
    let long = d.long in
    let p = part_of ws node depth d.tree n in
    let room : depth < length nodes = (let r = room_to_note ws node depth d.tree n in omega arith) in
    subst (λ k. IsDescending ws (set nodes depth node) (depth + 1) k from rest) (sym e) (record {
      noted = noted_more ws nodes depth node room d.noted (record { some = p.some; within = p.within; right = p.right });
      tree = p.left;
      lines = ap (λ u. nodes_in_order (word_of ws node 0) ws ++ u) (to_come_note ws nodes depth node room)
          ∙ sym (append_assoc (nodes_in_order (word_of ws node 0) ws) (node ∷ nodes_in_order (word_of ws node 1) ws) (to_come ws nodes depth))
          ∙ ap (λ u. u ++ to_come ws nodes depth) (sym p.lines)
          ∙ d.lines;
      long = omega (arith, length-set nodes depth node);
    })

-- where the way down to the least node ends at 0, what is to come are the nodes below the first node and then the rest
pub descend_ends : (ws nodes : List ℕ) (depth node from : ℕ) (rest : List ℕ) → IsDescending ws nodes depth node from rest → node ≡ 0 → to_come ws nodes depth ≡ nodes_in_order from ws ++ rest
descend_ends ws nodes depth node from rest d z = ap (λ u. u ++ to_come ws nodes depth) (sym (no_lines ws node z)) ∙ d.lines

-- a walk that has nodes left to reach has noted one
pub some_noted : (ws nodes : List ℕ) (depth : ℕ) → 1 ≤ length (to_come ws nodes depth) → 1 ≤ depth
some_noted ws nodes zero l = absurd (omega arith)
some_noted ws nodes (suc depth) l = omega arith

-- a tree of fewer than 2 ^ 32 nodes is low
pub shape_low : (ws : List ℕ) (line count : ℕ) → HasShape ws line count → count < 2 ^ 32 → high_of line ws ≤ 64
shape_low ws line count h few =
    subst (λ n. n ≤ 64) (sym (ap (λ k. high_of k ws) (sym h.root_is) ∙ high_is ws h.tree h.stands)) (depth_bound h.tree h.balanced (subst (λ n. n < 2 ^ 32) (sym h.counted) few))
