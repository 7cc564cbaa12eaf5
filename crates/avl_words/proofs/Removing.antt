-- What a tree holds without an item, and that it is balanced.
use Rattle.std.proofs.Common.{◌≡◌, ◌+◌, max, List, [], ◌∷◌, ◌++◌, refl, sym, ap, subst, ◌∙◌, append_assoc, arith}
use Rattle.std.proofs.lemmas.List.{append-nil}
use Rattle.avl_words.specs.Tree.{Tree, Empty, Node, height, items, Balanced, node_on}
use Rattle.avl_words.specs.Ways.{Turn, whole, passed, ahead, before, behind}
use Rattle.avl_words.specs.Removal.{least, with_out}
use Rattle.avl_words.proofs.Trees.{height_on, mended_items, whole_items, mended_balanced, balanced_on, balanced_at, balanced_parts}

module _ {A : Type 0} where
  least_before : (way : List (Turn A)) (l : Tree A) (x : A) (r : Tree A) → before (least way l x r).way ≡ before way
  least_before way Empty x r = refl
  least_before way (Node a y b) x r = least_before (record { side = 0; item = x; sibling = r } ∷ way) a y b ∙ append-nil (before way)

  pub least_whole : (way : List (Turn A)) (l : Tree A) (x : A) (r : Tree A) → whole (least way l x r).way (Node Empty (least way l x r).item (least way l x r).rest) ≡ whole way (Node l x r)
  least_whole way Empty x r = refl
  least_whole way (Node a y b) x r = least_whole (record { side = 0; item = x; sibling = r } ∷ way) a y b

  -- two ways, one behind another
  before_both : (w v : List (Turn A)) → before (w ++ v) ≡ before v ++ before w
  before_both [] v = sym (append-nil (before v))
  before_both (turn ∷ w) v = ap (λ u. u ++ passed turn.side turn.item turn.sibling) (before_both w v) ∙ simp append_assoc

  behind_both : (w v : List (Turn A)) → behind (w ++ v) ≡ behind w ++ behind v
  behind_both [] v = refl
  behind_both (turn ∷ w) v = ap (λ u. ahead turn.side turn.item turn.sibling ++ u) (behind_both w v) ∙ simp append_assoc

  pub whole_both : (w v : List (Turn A)) (t : Tree A) → whole (w ++ v) t ≡ whole v (whole w t)
  whole_both [] v t = refl
  whole_both (turn ∷ w) v t = whole_both w v (node_on turn.side t turn.item turn.sibling)

  -- the items of a node `x` over `l` and `r`: the least one, then those of its own right tree, then those behind on the way to it
  least_items : (l : Tree A) (x : A) (r : Tree A) → items (Node l x r) ≡ (least [] l x r).item ∷ (items (least [] l x r).rest ++ behind (least [] l x r).way)
  least_items l x r =
      ap items (sym (least_whole [] l x r)) ∙ whole_items (least [] l x r).way (Node Empty (least [] l x r).item (least [] l x r).rest)
      ∙ ap (λ u. u ++ (((least [] l x r).item ∷ items (least [] l x r).rest) ++ behind (least [] l x r).way)) (least_before [] l x r)

  -- The items without the one of the node.
  pub out_items : (way : List (Turn A)) (l : Tree A) (x : A) (r : Tree A) → items (with_out way (Node l x r)) ≡ before way ++ (items l ++ (items r ++ behind way))
  out_items way Empty x r = mended_items way r
  out_items way (Node a y b) x Empty = mended_items way (Node a y b)
  out_items way (Node a y b) x (Node c z d) =
      let q = least [] c z d in
      mended_items (q.way ++ record { side = 1; item = q.item; sibling = Node a y b } ∷ way) q.rest
      ∙ ap (λ u. u ++ (items q.rest ++ behind (q.way ++ record { side = 1; item = q.item; sibling = Node a y b } ∷ way)))
      (before_both q.way (record { side = 1; item = q.item; sibling = Node a y b } ∷ way) ∙ ap (λ u. (before way ++ (items (Node a y b) ++ q.item ∷ [])) ++ u) (least_before [] c z d) ∙ append-nil (before way ++ (items (Node a y b) ++ q.item ∷ [])))
      ∙ ap (λ u. (before way ++ (items (Node a y b) ++ q.item ∷ [])) ++ (items q.rest ++ u)) (behind_both q.way (record { side = 1; item = q.item; sibling = Node a y b } ∷ way))
      ∙ regroup (before way) (items (Node a y b)) q.item (items q.rest) (behind q.way) (behind way)
      ∙ ap (λ u. before way ++ (items (Node a y b) ++ (u ++ behind way))) (sym (least_items c z d))
    where
      -- a list is the same with `m` as the last item of the part before it or as the first of the part behind it
      regroup : (u v : List A) (m : A) (p q w : List A) → (u ++ (v ++ m ∷ [])) ++ (p ++ (q ++ w)) ≡ u ++ (v ++ ((m ∷ (p ++ q)) ++ w))
      regroup u v m p q w = simp append_assoc

  -- the height of the node at a place is all that a balanced whole asks of it
  pub balanced_in : (way : List (Turn A)) (old now : Tree A) → height old ≡ height now → Balanced now → Balanced (whole way old) → Balanced (whole way now)
  balanced_in [] old now e p b = p
  balanced_in (turn ∷ way) old now e p b =
      let here = balanced_parts turn.side old turn.item turn.sibling (balanced_at way (node_on turn.side old turn.item turn.sibling) b) in
      let level = here.0 in
      balanced_in way (node_on turn.side old turn.item turn.sibling) (node_on turn.side now turn.item turn.sibling)
      (height_on turn.side old turn.item turn.sibling ∙ ap (λ h. 1 + max h (height turn.sibling)) e ∙ sym (height_on turn.side now turn.item turn.sibling))
      (balanced_on turn.side now turn.item turn.sibling (record { left = omega arith; right = omega arith }) p here.2) b

  -- a balanced whole is balanced again after the node `x` at the end of a way is taken out
  pub out_balanced : (way : List (Turn A)) (l : Tree A) (x : A) (r : Tree A) → Balanced (whole way (Node l x r)) → Balanced (with_out way (Node l x r))
  out_balanced way Empty x r b =
      let h = balanced_at way (Node Empty x r) b in
      (mended_balanced way (Node Empty x r) r b h.2 (record { left = omega arith; right = omega arith })).0
  out_balanced way (Node a y b) x Empty w =
      let h = balanced_at way (Node (Node a y b) x Empty) w in
      let level = h.0 in
      (mended_balanced way (Node (Node a y b) x Empty) (Node a y b) w h.1 (record { left = omega arith; right = omega arith })).0
  out_balanced way (Node a y b) x (Node c z d) w =
      let q = least [] c z d in
      let h = balanced_at way (Node (Node a y b) x (Node c z d)) w in
      let v : List (Turn A) = record { side = 1; item = q.item; sibling = Node a y b } ∷ way in
      let e : whole (q.way ++ v) (Node Empty q.item q.rest) ≡ whole way (Node (Node a y b) q.item (Node c z d)) = whole_both q.way v (Node Empty q.item q.rest) ∙ ap (whole v) (least_whole [] c z d) in
      let all : Balanced (whole (q.way ++ v) (Node Empty q.item q.rest))
      = subst Balanced (sym e) (balanced_in way (Node (Node a y b) x (Node c z d)) (Node (Node a y b) q.item (Node c z d)) refl (h.0, h.1, h.2) w) in
      let p = balanced_at (q.way ++ v) (Node Empty q.item q.rest) all in
      (mended_balanced (q.way ++ v) (Node Empty q.item q.rest) q.rest all p.2 (record { left = omega arith; right = omega arith })).0
