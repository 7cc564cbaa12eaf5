-- A node with two children is taken out by one write and one way up: the least node behind it takes its place on the way.
use Rattle.std.proofs.Common.{◌≡◌, ◌+◌, ◌*◌, ◌≤◌, max, ℕ, cond, eqb, List, [], ◌∷◌, ◌++◌, length, refl, sym, ap, subst, ◌∙◌, get_or-set_same, arith, lit<}
use Rattle.avl_words.specs.Tree.{Tree, Empty, Node, height, Balanced, node_on}
use Rattle.avl_words.specs.Ways.{Turn, whole}
use Rattle.avl_words.specs.Lines.{with_word}
use Rattle.avl_words.specs.Words.{root, times, RepresentsTree, IsWayNoted}
use Rattle.avl_words.specs.Mending.{Spine, times_way, IsHung, Settled}
use Rattle.avl_words.proofs.Relinking.{settled_of, settled_kept, settled_behind}
use Rattle.avl_words.specs.Removal.{Least, least}
use Rattle.avl_words.proofs.Trees.{height_on, balanced_at}
use Rattle.avl_words.proofs.Walks.{stands_at}
use Rattle.avl_words.proofs.Frames.{stands_apart, link_but}
use Rattle.avl_words.proofs.Hanging.{whole_times, spine_kept}
use Rattle.avl_words.proofs.Putting.{spine_of, low_way}
use Rattle.avl_words.proofs.Removing.{least_whole, balanced_in, whole_both}

-- where the nodes of the ways `w` and `v` are there with their siblings, so are those of the way that goes down `v` and on down `w`
spine_both : (ws : List ℕ) (w v : List (Turn ℕ)) → Spine ws w → Spine ws v → Spine ws (w ++ v)
spine_both ws [] v p q = q
spine_both ws (turn ∷ w) v p q = (p.0, p.1, p.2, p.3, spine_both ws w v p.4 q)

pub times_both : (k : ℕ) (w v : List (Turn ℕ)) → times_way k (w ++ v) ≡ times_way k w + times_way k v
times_both k [] v = omega arith
times_both k (turn ∷ w) v = (let i = times_both k w v in omega arith)

-- a whole is as high with `s` at the end of a way as with `t`, where those two have the same height
heights_in : (way : List (Turn ℕ)) (s t : Tree ℕ) → height s ≡ height t → height (whole way s) ≡ height (whole way t)
heights_in [] s t e = e
heights_in (turn ∷ way) s t e =
    heights_in way (node_on turn.side s turn.item turn.sibling) (node_on turn.side t turn.item turn.sibling)
    (height_on turn.side s turn.item turn.sibling ∙ ap (λ h. 1 + max h (height turn.sibling)) e ∙ sym (height_on turn.side t turn.item turn.sibling))

module _ (ws nodes sides : List ℕ) (depth : ℕ) (way : List (Turn ℕ)) (a : Tree ℕ) (y : ℕ) (b : Tree ℕ) (x : ℕ) (c : Tree ℕ) (z : ℕ) (d : Tree ℕ)
    (s : RepresentsTree ws (whole way (Node (Node a y b) x (Node c z d)))) (w : Balanced (whole way (Node (Node a y b) x (Node c z d)))) (once : (k : ℕ) → times k (whole way (Node (Node a y b) x (Node c z d))) ≤ 1)
    (high : height (whole way (Node (Node a y b) x (Node c z d))) ≤ 64) where
  abbrev q : Least ℕ
  q = least [] c z d

  abbrev now : List ℕ
  now = with_word (least [] c z d).item 0 (root (Node a y b)) ws

  abbrev up_way : List (Turn ℕ)
  up_way = record { side = 1; item = (least [] c z d).item; sibling = Node a y b } ∷ way

  here : RepresentsTree ws (Node (Node a y b) x (Node c z d))
  here = stands_at ws way (Node (Node a y b) x (Node c z d)) s

  below : RepresentsTree ws (whole q.way (Node Empty q.item q.rest))
  below = subst (RepresentsTree ws) (sym (least_whole [] c z d)) here.2

  pub least_is_there : RepresentsTree ws (Node Empty q.item q.rest)
  least_is_there = stands_at ws q.way (Node Empty q.item q.rest) below

  counted : (k : ℕ) → times_way k way + (times k (Node a y b) + cond (eqb x k) 1 0 + (times_way k q.way + (cond (eqb q.item k) 1 0 + times k q.rest))) ≤ 1
  counted k =
      let o = once k in
      let p = whole_times k way (Node (Node a y b) x (Node c z d)) in
      let r = whole_times k q.way (Node Empty q.item q.rest) in
      let e = ap (times k) (least_whole [] c z d) in
      omega (arith, o, p, r, e)

  pub gone_hung : IsWayNoted nodes sides (q.way ++ up_way) → length (q.way ++ up_way) ≡ depth → IsHung now nodes sides depth (q.way ++ up_way) q.rest (root q.rest)
  gone_hung noted long =
      let but = link_but ws q.item 0 (root (Node a y b)) (lit< tt) in
      let e : whole (q.way ++ up_way) (Node Empty q.item q.rest) ≡ whole way (Node (Node a y b) q.item (Node c z d)) = whole_both q.way up_way (Node Empty q.item q.rest) ∙ ap (whole up_way) (least_whole [] c z d) in
      let h = balanced_at way (Node (Node a y b) x (Node c z d)) w in
      let all = subst Balanced (sym e) (balanced_in way (Node (Node a y b) x (Node c z d)) (Node (Node a y b) q.item (Node c z d)) refl (h.0, h.1, h.2) w) in
      let rest = balanced_at (q.way ++ up_way) (Node Empty q.item q.rest) all in
      record {
        noted = noted;
        long = long;
        spine = spine_both now q.way up_way
            (spine_kept ws now (Node Empty q.item Empty) q.way but (λ k. (let o = counted k in omega (arith, o))) (spine_of ws q.way (Node Empty q.item q.rest) below)) (
              least_is_there.0.some,
              subst (λ n. 8 * q.item + 8 ≤ n) (sym but.long) least_is_there.0.within,
              get_or-set_same ws (8 * q.item + 0) (root (Node a y b)) 0 (let i = least_is_there.0.within in omega arith),
              stands_apart ws now (Node a y b) (Node Empty q.item Empty) but (λ k. (let o = counted k in omega (arith, o))) here.1,
              spine_kept ws now (Node Empty q.item Empty) way but (λ k. (let o = counted k in omega (arith, o))) (spine_of ws way (Node (Node a y b) x (Node c z d)) s),
            );
        stands = stands_apart ws now q.rest (Node Empty q.item Empty) but (λ k. (let o = counted k in omega (arith, o))) least_is_there.2;
        root_is = refl;
        once = λ k. (let o = counted k in let t = times_both k q.way up_way in omega (arith, o, t));
        low = low_way (q.way ++ up_way) (Node Empty q.item q.rest) q.rest all rest.2 (record { left = omega arith; right = omega arith })
            (let f = ap height e in let g = heights_in way (Node (Node a y b) q.item (Node c z d)) (Node (Node a y b) x (Node c z d)) refl in omega (arith, f, g, high));
      }

  -- the nodes above the one taken out stand as they did
  pub gone_settled : IsWayNoted nodes sides way → Settled now (length way) (q.way ++ up_way)
  gone_settled noted =
      settled_behind now q.way (record { side = 1; item = q.item; sibling = Node a y b }) way
      (settled_kept ws now nodes sides (Node Empty q.item Empty) (length way) way (link_but ws q.item 0 (root (Node a y b)) (lit< tt)) noted (λ k. (let o = counted k in omega (arith, o)))
      (settled_of ws nodes sides (length way) way (Node (Node a y b) x (Node c z d)) noted s w))
