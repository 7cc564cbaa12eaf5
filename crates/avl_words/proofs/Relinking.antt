-- Nodes of a way that stand as they did: they go on standing for a tree as high at the end of the way.
use Rattle.std.proofs.Common.{◌≡◌, ◌+◌, ◌-◌, ◌*◌, ◌<◌, ◌≤◌, inl, max, ℕ, zero, suc, List, [], ◌∷◌, ◌++◌, length, get_or, sym, ap, subst, ◌∙◌, get_or-set_same, get_or-set_other, length-append, arith}
use Rattle.avl_words.specs.Tree.{Tree, Empty, Node, height, Balanced, node_on}
use Rattle.avl_words.specs.Ways.{Turn, whole}
use Rattle.avl_words.proofs.Trees.{height_on}
use Rattle.avl_words.specs.Lines.{word_of, IsWithin, with_word}
use Rattle.avl_words.specs.Words.{root, times, RepresentsTree, IsWayNoted}
use Rattle.avl_words.specs.Links.{SameExcept, IsTreeMade}
use Rattle.avl_words.specs.Mending.{Spine, times_way, IsHung, Stood, Settled, CanRelink, Relinks}
use Rattle.avl_words.proofs.Frames.{times_self, root_on, except_more, stands_apart, link_but}
use Rattle.avl_words.proofs.Hanging.{spine_kept, whole_times}
use Rattle.avl_words.proofs.Walks.{stands_at}

-- of a tree that stands
stood_attempt : (ws : List ℕ) (side : ℕ) (t : Tree ℕ) (x : ℕ) (s : Tree ℕ) → side < 2 → RepresentsTree ws (node_on side t x s) → (word_of ws x side ≡ root t) × (word_of ws x 2 ≡ height (node_on side t x s))
stood_attempt ws zero t x s l h = (h.0.left_is, h.0.height_is)
stood_attempt ws (suc zero) t x s l h = (h.0.right_is, h.0.height_is)
stood_attempt ws (suc (suc k)) t x s l h = absurd (omega arith)

-- where words stand for the whole with `t` at the end of a way, the links and heights of the way's nodes are those with `t` there
pub stood_of : (ws nodes sides : List ℕ) (way : List (Turn ℕ)) (t : Tree ℕ) → IsWayNoted nodes sides way → RepresentsTree ws (whole way t) → Stood ws way t
stood_of ws nodes sides [] t n s = tt
stood_of ws nodes sides (turn ∷ way) t n s =
    let up = node_on turn.side t turn.item turn.sibling in
    let h = stood_attempt ws turn.side t turn.item turn.sibling n.2 (stands_at ws way up s) in
    (h.0, h.1, stood_of ws nodes sides way up n.3 s)

-- where words stand for a balanced whole with `t` at the end of a way, the way is settled for any number `n` of its first nodes
pub settled_of : (ws nodes sides : List ℕ) (n : ℕ) (way : List (Turn ℕ)) (t : Tree ℕ) → IsWayNoted nodes sides way → RepresentsTree ws (whole way t) → Balanced (whole way t) → Settled ws n way
settled_of ws nodes sides n [] t noted s b = tt
settled_of ws nodes sides n (turn ∷ way) t noted s b = (
  (λ le. record { tree = t; stood = stood_of ws nodes sides (turn ∷ way) t noted s; balanced = b }),
  settled_of ws nodes sides n way (node_on turn.side t turn.item turn.sibling) noted.3 s b,
)

-- of nodes none of which has changed
pub stood_kept : (a b nodes sides : List ℕ) (t : Tree ℕ) (way : List (Turn ℕ)) (old : Tree ℕ) → SameExcept a b t → IsWayNoted nodes sides way → ((line : ℕ) → times_way line way + times line t ≤ 1) → Stood a way old → Stood b way old
stood_kept a b nodes sides t [] old but n once s = tt
stood_kept a b nodes sides t (turn ∷ way) old but n once s =
    let none : times turn.item t ≡ 0 = (let c = once turn.item in let o = times_self turn.item in omega (arith, c, o)) in (
      but.same turn.item turn.side (let l = n.2 in omega arith) (inl none) ∙ s.0,
      but.same turn.item 2 (omega arith) (inl none) ∙ s.1,
      stood_kept a b nodes sides t way (node_on turn.side old turn.item turn.sibling) but n.3 (λ k. (let c = once k in omega (arith, c))) s.2,
    )

-- a change from `a` to `b` of links of a tree `t` that is apart from the way keeps the first `n` nodes of the way settled
pub settled_kept : (a b nodes sides : List ℕ) (t : Tree ℕ) (n : ℕ) (way : List (Turn ℕ)) → SameExcept a b t → IsWayNoted nodes sides way → ((line : ℕ) → times_way line way + times line t ≤ 1) → Settled a n way → Settled b n way
settled_kept a b nodes sides t n [] but noted once s = tt
settled_kept a b nodes sides t n (turn ∷ way) but noted once s = (
  (λ le. (let h = s.0 le in record { tree = h.tree; stood = stood_kept a b nodes sides t (turn ∷ way) h.tree but noted once h.stood; balanced = h.balanced })),
  settled_kept a b nodes sides t n way but noted.3 (λ k. (let c = once k in omega (arith, c))) s.1,
)

-- turns behind the given number say nothing
pub settled_behind : (ws : List ℕ) (passed : List (Turn ℕ)) (turn : Turn ℕ) (way : List (Turn ℕ)) → Settled ws (length way) way → Settled ws (length way) (passed ++ turn ∷ way)
settled_behind ws [] turn way s = ((λ le. absurd (let m : suc (length way) ≤ length way = le in omega arith)), s)
settled_behind ws (p ∷ passed) turn way s = (
  (λ le. absurd (let a = length-append passed (turn ∷ way) in let m : suc (length (passed ++ turn ∷ way)) ≤ length way = le in omega (arith, a, m))),
  settled_behind ws passed turn way s,
)

-- a node with its children at both sides
node_stands : (ws : List ℕ) (side : ℕ) (t : Tree ℕ) (x : ℕ) (s : Tree ℕ) → side < 2 → 1 ≤ x → IsWithin ws x → word_of ws x side ≡ root t → word_of ws x (1 - side) ≡ root s → word_of ws x 2 ≡ height (node_on side t x s) → RepresentsTree ws t → RepresentsTree ws s → RepresentsTree ws (node_on side t x s)
node_stands ws zero t x s l some within a b high p q = (record { some = some; within = within; left_is = a; right_is = b; height_is = high }, p, q)
node_stands ws (suc zero) t x s l some within a b high p q = (record { some = some; within = within; left_is = b; right_is = a; height_is = high }, q, p)
node_stands ws (suc (suc k)) t x s l some within a b high p q = absurd (omega arith)

-- a node `x` beside `s` is as high with `old` below it as with `t`, where those two have the same height
level_on : (side : ℕ) (old t : Tree ℕ) (x : ℕ) (s : Tree ℕ) → height old ≡ height t → height (node_on side old x s) ≡ height (node_on side t x s)
level_on side old t x s e = height_on side old x s ∙ ap (λ n. 1 + max n (height s)) e ∙ sym (height_on side t x s)

-- nodes of a way that stand with `old` at its end stand for the whole with a standing `t` there, of the same root and height
pub stood_stands : (ws nodes sides : List ℕ) (way : List (Turn ℕ)) (old t : Tree ℕ) → IsWayNoted nodes sides way → Spine ws way → Stood ws way old → RepresentsTree ws t → root old ≡ root t → height old ≡ height t → RepresentsTree ws (whole way t)
stood_stands ws nodes sides [] old t n p s h e level = h
stood_stands ws nodes sides (turn ∷ way) old t n p s h e level =
    let up = level_on turn.side old t turn.item turn.sibling level in
    stood_stands ws nodes sides way (node_on turn.side old turn.item turn.sibling) (node_on turn.side t turn.item turn.sibling) n.3 p.4 s.2
    (node_stands ws turn.side t turn.item turn.sibling n.2 p.0 p.1 (s.0 ∙ e) p.2 (s.1 ∙ up) h p.3)
    (root_on turn.side old turn.item turn.sibling ∙ sym (root_on turn.side t turn.item turn.sibling)) up

-- the first node noted is on top
pub root_noted : (nodes sides : List ℕ) (turn : Turn ℕ) (way : List (Turn ℕ)) (t : Tree ℕ) → IsWayNoted nodes sides (turn ∷ way) → root (whole (turn ∷ way) t) ≡ get_or nodes 0 0
root_noted nodes sides turn [] t n = root_on turn.side t turn.item turn.sibling ∙ sym n.0
root_noted nodes sides turn (next ∷ way) t n = root_noted nodes sides next way (node_on turn.side t turn.item turn.sibling) n.3

-- the link to the tree is stored
module _ (ws nodes sides : List ℕ) (turn : Turn ℕ) (way : List (Turn ℕ)) (t old : Tree ℕ) (node : ℕ) (n : IsWayNoted nodes sides (turn ∷ way)) (p : Spine ws (turn ∷ way)) (h : RepresentsTree ws t) (e : root t ≡ node)
    (once : (line : ℕ) → times_way line (turn ∷ way) + times line t ≤ 1) (s : Stood ws (turn ∷ way) old) (level : height old ≡ height t) where
  abbrev now : List ℕ
  now = with_word turn.item turn.side node ws

  abbrev one : Tree ℕ
  one = Node Empty turn.item Empty

  but : SameExcept ws now one
  but = link_but ws turn.item turn.side node (let l = n.2 in omega arith)

  up_stands : RepresentsTree now (node_on turn.side t turn.item turn.sibling)
  up_stands =
      node_stands now turn.side t turn.item turn.sibling n.2 p.0 (subst (λ k. 8 * turn.item + 8 ≤ k) (sym but.long) p.1)
      (get_or-set_same ws (8 * turn.item + turn.side) node 0 (let w = p.1 in let l = n.2 in omega arith) ∙ sym e)
      (get_or-set_other ws (8 * turn.item + turn.side) (8 * turn.item + (1 - turn.side)) node 0 (let l = n.2 in omega arith) ∙ p.2)
      (get_or-set_other ws (8 * turn.item + turn.side) (8 * turn.item + 2) node 0 (let l = n.2 in omega arith) ∙ s.1 ∙ level_on turn.side old t turn.item turn.sibling level)
      (stands_apart ws now t one but (λ k. (let c = once k in omega (arith, c))) h)
      (stands_apart ws now turn.sibling one but (λ k. (let c = once k in omega (arith, c))) p.3)

  apart : (line : ℕ) → times_way line way + times line one ≤ 1
  apart k = (let c = once k in omega (arith, c))

  pub relinked : IsTreeMade ws now (whole (turn ∷ way) t) (whole (turn ∷ way) t) (get_or nodes 0 0)
  relinked = record {
    stands = stood_stands now nodes sides way (node_on turn.side old turn.item turn.sibling) (node_on turn.side t turn.item turn.sibling) n.3
        (spine_kept ws now one way but apart p.4) (stood_kept ws now nodes sides one way (node_on turn.side old turn.item turn.sibling) but n.3 apart s.2) up_stands
        (root_on turn.side old turn.item turn.sibling ∙ sym (root_on turn.side t turn.item turn.sibling)) (level_on turn.side old t turn.item turn.sibling level);
    root_is = root_noted nodes sides turn way t n;
    but = except_more ws now one (whole (turn ∷ way) t) (λ k. (let w = whole_times k (turn ∷ way) t in omega (arith, w))) but;
  }

-- where the tree at the end of a way is as high as the old one, storing the last node's link to it makes words stand for the whole
pub relinks : (ws now nodes sides : List ℕ) (depth node : ℕ) → 1 ≤ depth → now ≡ with_word (get_or nodes (depth - 1) 0) (get_or sides (depth - 1) 0) node ws → Relinks nodes sides depth node (get_or nodes 0 0) ws now
relinks ws now nodes sides depth node some is [] t old h s level = absurd (let l = h.long in omega arith)
relinks ws now nodes sides depth node some is (turn ∷ way) t old h s level =
    let l : length way ≡ depth - 1 = (let m = h.long in omega arith) in
    let words : with_word turn.item turn.side node ws ≡ now =
    ap (λ k. with_word k turn.side node ws) (sym h.noted.0 ∙ ap (λ k. get_or nodes k 0) l) ∙ ap (λ k. with_word (get_or nodes (depth - 1) 0) k node ws) (sym h.noted.1 ∙ ap (λ k. get_or sides k 0) l) ∙ sym is in
    subst (λ v. IsTreeMade ws v (whole (turn ∷ way) t) (whole (turn ∷ way) t) (get_or nodes 0 0)) words
    (relinked ws nodes sides turn way t old node h.noted h.spine h.stands h.root_is h.once s level)

-- where a way can be relinked, the node noted last of it is within the words, and its side is 0 or 1
pub relink_there : (ws nodes sides : List ℕ) (depth node : ℕ) → CanRelink ws nodes sides depth node → 1 ≤ depth → IsWithin ws (get_or nodes (depth - 1) 0) × (get_or sides (depth - 1) 0 < 2)
relink_there ws nodes sides depth node c some = by_way c.way c.hung
  where
    by_way : (way : List (Turn ℕ)) → IsHung ws nodes sides depth way c.tree node → IsWithin ws (get_or nodes (depth - 1) 0) × (get_or sides (depth - 1) 0 < 2)
    by_way [] h = absurd (let l = h.long in omega arith)
    by_way (turn ∷ way) h =
        let l : length way ≡ depth - 1 = (let m = h.long in omega arith) in (
          subst (IsWithin ws) (sym h.noted.0 ∙ ap (λ k. get_or nodes k 0) l) h.spine.1,
          subst (λ k. k < 2) (sym h.noted.1 ∙ ap (λ k. get_or sides k 0) l) h.noted.2,
        )
