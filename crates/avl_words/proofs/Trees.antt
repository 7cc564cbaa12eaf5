-- Laws of trees: what a balanced node holds, and how high it is.
use Rattle.std.proofs.Common.{◌≡◌, ◌+◌, ◌≤◌, inl, inr, ℕ, zero, suc, cond, leb, max, List, [], ◌∷◌, ◌++◌, refl, sym, ap, subst, ◌∙◌, append_assoc, arith}
use Rattle.std.proofs.lemmas.Bool.{cases_lt, cond_both, leb-true, leb-false}
use Rattle.std.proofs.lemmas.List.{append-nil}
use Rattle.avl_words.specs.Tree.{Tree, Empty, Node, height, items, IsLevel, Balanced, node_on, inner_up, child_up, rotated, joined}
use Rattle.avl_words.specs.Ways.{Turn, under, whole, mended, passed, ahead, before, behind}

-- these heights differ by at most two
pub record IsNear (l r : ℕ) : Type 0 where
  pub left : l ≤ r + 2
  pub right : r ≤ l + 2

-- one step up: a node balanced over `n` and `b` to the height `u` is level with the old node over `o` and `b`
step_level : (o n b u : ℕ) → IsLevel o b → IsLevel o n → max n b ≤ u → u ≤ max n b + 1 → (n ≤ b + 1 → b ≤ n + 1 → u ≡ max n b + 1) → IsLevel (1 + max o b) u
step_level o n b u s level least most f =
    elim (cases_lt (b + 1) n) as (λ _. IsLevel (1 + max o b) u) [
      | inl high ↦ record { left = omega arith; right = omega arith }
      | inr p ↦ elim (cases_lt (n + 1) b) as (λ _. IsLevel (1 + max o b) u) [
        | inl low ↦ record { left = omega arith; right = omega arith }
        | inr q ↦ (let e = f p q in record { left = omega (arith, e); right = omega (arith, e) })
      ]
    ]

module _ {A : Type 0} where
  -- a double rotation, by which the root of the inner tree goes up, keeps the items in their order
  pub inner_up_items : (side : ℕ) (outer : Tree A) (y : A) (inner : Tree A) (x : A) (low : Tree A) → items (inner_up side outer y inner x low) ≡ items (node_on side (node_on side outer y inner) x low)
  inner_up_items zero outer y Empty x low = simp append_assoc
  inner_up_items (suc k) outer y Empty x low = simp append_assoc
  inner_up_items zero outer y (Node l z r) x low = simp append_assoc
  inner_up_items (suc k) outer y (Node l z r) x low = simp append_assoc

  -- a single rotation keeps the items in their order
  pub single_items : (side : ℕ) (outer : Tree A) (y : A) (inner : Tree A) (x : A) (low : Tree A) → items (node_on side outer y (node_on side inner x low)) ≡ items (node_on side (node_on side outer y inner) x low)
  single_items zero outer y inner x low = simp append_assoc
  single_items (suc k) outer y inner x low = simp append_assoc

  -- rotating a node whose child is given by its parts keeps the items in their order
  pub child_up_items : (side : ℕ) (outer : Tree A) (y : A) (inner : Tree A) (x : A) (low : Tree A) → items (child_up side outer y inner x low) ≡ items (node_on side (node_on side outer y inner) x low)
  child_up_items side outer y inner x low =
      cond_both (leb (height inner) (height outer)) (node_on side outer y (node_on side inner x low)) (inner_up side outer y inner x low)
      (λ t. items t ≡ items (node_on side (node_on side outer y inner) x low)) (λ _. single_items side outer y inner x low) (λ _. inner_up_items side outer y inner x low)

  -- rotating a node keeps the items in their order
  pub rotated_items : (side : ℕ) (t : Tree A) (x : A) (low : Tree A) → items (rotated side t x low) ≡ items (node_on side t x low)
  rotated_items side Empty x low = refl
  rotated_items zero (Node l y r) x low = child_up_items zero l y r x low
  rotated_items (suc k) (Node l y r) x low = child_up_items (suc k) r y l x low

  -- balancing a node `x` over `l` and `r` keeps its items in their order
  pub joined_items : (l : Tree A) (x : A) (r : Tree A) → items (joined l x r) ≡ items l ++ x ∷ items r
  joined_items l x r =
      cond_both (leb (height l + 2) (height r)) (rotated 1 r x l) (cond (leb (height r + 2) (height l)) (rotated 0 l x r) (Node l x r))
      (λ t. items t ≡ items l ++ x ∷ items r) (λ _. rotated_items 1 r x l)
      (λ _. cond_both (leb (height r + 2) (height l)) (rotated 0 l x r) (Node l x r) (λ t. items t ≡ items l ++ x ∷ items r) (λ _. rotated_items 0 l x r) (λ _. refl))

  -- the items of a node that is balanced again over a tree at a side: what the way passed there, the tree's items, and what is ahead
  pub under_items : (side : ℕ) (t : Tree A) (x : A) (sibling : Tree A) → items (under side t x sibling) ≡ passed side x sibling ++ (items t ++ ahead side x sibling)
  under_items zero t x sibling = joined_items t x sibling
  under_items (suc k) t x sibling = joined_items sibling x t ∙ simp (append_assoc, append-nil)

  -- the items of a node over a tree at a side: what a way passes there, the tree's items, and what is ahead
  pub on_items : (side : ℕ) (t : Tree A) (x : A) (sibling : Tree A) → items (node_on side t x sibling) ≡ passed side x sibling ++ (items t ++ ahead side x sibling)
  on_items zero t x sibling = refl
  on_items (suc k) t x sibling = simp (append_assoc, append-nil)

  -- the items of a whole tree are those before the end of a way, those of the tree there, and those behind it
  pub whole_items : (way : List (Turn A)) (t : Tree A) → items (whole way t) ≡ before way ++ (items t ++ behind way)
  whole_items [] t = simp append-nil
  whole_items (turn ∷ way) t =
      whole_items way (node_on turn.side t turn.item turn.sibling) ∙ ap (λ s. before way ++ (s ++ behind way)) (on_items turn.side t turn.item turn.sibling) ∙ simp append_assoc

  -- mending a way keeps the items in their order
  pub mended_items : (way : List (Turn A)) (t : Tree A) → items (mended way t) ≡ before way ++ (items t ++ behind way)
  mended_items [] t = simp append-nil
  mended_items (turn ∷ way) t =
      mended_items way (under turn.side t turn.item turn.sibling) ∙ ap (λ s. before way ++ (s ++ behind way)) (under_items turn.side t turn.item turn.sibling) ∙ simp append_assoc

  -- a node is one higher than the higher of its children, whichever side the first is at
  pub height_on : (side : ℕ) (a : Tree A) (x : A) (b : Tree A) → height (node_on side a x b) ≡ 1 + max (height a) (height b)
  height_on zero a x b = refl
  height_on (suc k) a x b = omega arith

  -- a node `x` over two balanced trees of level heights is balanced, whichever side `a` is at
  pub balanced_on : (side : ℕ) (a : Tree A) (x : A) (b : Tree A) → IsLevel (height a) (height b) → Balanced a → Balanced b → Balanced (node_on side a x b)
  balanced_on zero a x b level p q = (level, p, q)
  balanced_on (suc k) a x b level p q = (record { left = level.right; right = level.left }, q, p)

  -- a balanced tree that is this high or one higher
  pub record IsJoined (t : Tree A) (h : ℕ) : Type 0 where
    pub balanced : Balanced t
    pub least : h ≤ height t
    pub most : height t ≤ h + 1

  -- Where the inner tree is one higher than the outer, and the outer is as high as the low one, a double rotation gives a balanced tree that is two or three
  -- higher than the low one.
  inner_up_joined : (side : ℕ) (outer : Tree A) (y : A) (inner : Tree A) (x : A) (low : Tree A) → Balanced outer → Balanced inner → Balanced low →
      height inner ≡ height outer + 1 → height outer ≡ height low → IsJoined (inner_up side outer y inner x low) (height low + 2)
  inner_up_joined side outer y Empty x low p q r e f = absurd (omega arith)
  inner_up_joined zero outer y (Node a z b) x low p q r e f = record {
    balanced = (record { left = omega arith; right = omega arith }, (record { left = omega (arith, q.0); right = omega (arith, q.0) }, p, q.1), (record { left = omega (arith, q.0); right = omega (arith, q.0) }, q.2, r));
    least = omega (arith, q.0);
    most = omega (arith, q.0);
  }
  inner_up_joined (suc k) outer y (Node a z b) x low p q r e f = record {
    balanced = (record { left = omega arith; right = omega arith }, (record { left = omega (arith, q.0); right = omega (arith, q.0) }, r, q.1), (record { left = omega (arith, q.0); right = omega (arith, q.0) }, q.2, p));
    least = omega (arith, q.0);
    most = omega (arith, q.0);
  }

  -- Where the outer tree is one higher than the low one, and the inner is as high as the outer or one lower, a single rotation gives a balanced tree that is two
  -- or three higher than the low one.
  single_joined : (side : ℕ) (outer : Tree A) (y : A) (inner : Tree A) (x : A) (low : Tree A) → Balanced outer → Balanced inner → Balanced low → IsLevel (height outer) (height inner) →
      height inner ≤ height outer → height outer ≡ height low + 1 → IsJoined (node_on side outer y (node_on side inner x low)) (height low + 2)
  single_joined side outer y inner x low p q r level e f =
      let h = height_on side inner x low in
      let k = height_on side outer y (node_on side inner x low) in
      record {
        balanced = balanced_on side outer y (node_on side inner x low) (record { left = omega arith; right = omega arith }) p (balanced_on side inner x low (record { left = omega arith; right = omega arith }) q r);
        least = omega arith;
        most = omega arith;
      }

  -- where the child `y` is two higher than the low tree, its rotation gives a balanced tree as high as the child or one higher
  child_up_joined : (side : ℕ) (outer : Tree A) (y : A) (inner : Tree A) (x : A) (low : Tree A) → Balanced outer → Balanced inner → Balanced low → IsLevel (height outer) (height inner) →
      1 + max (height outer) (height inner) ≡ height low + 2 → IsJoined (child_up side outer y inner x low) (height low + 2)
  child_up_joined side outer y inner x low p q r level e =
      cond_both (leb (height inner) (height outer)) (node_on side outer y (node_on side inner x low)) (inner_up side outer y inner x low) (λ t. IsJoined t (height low + 2))
      (λ le. let h = leb-true (height inner) (height outer) le in single_joined side outer y inner x low p q r level h (omega arith))
      (λ gt. let h = leb-false (height inner) (height outer) gt in inner_up_joined side outer y inner x low p q r (omega arith) (omega arith))

  -- where the child tree `t` is two higher than the low one, rotating the node `x` gives a balanced tree as high as `t` or one higher
  rotated_joined : (side : ℕ) (t : Tree A) (x : A) (low : Tree A) → Balanced t → Balanced low → height t ≡ height low + 2 → IsJoined (rotated side t x low) (height t)
  rotated_joined side Empty x low p r e = absurd (omega arith)
  rotated_joined zero (Node a y b) x low p r e =
      subst (IsJoined (child_up zero a y b x low)) (sym e) (child_up_joined zero a y b x low p.1 p.2 r p.0 e)
  rotated_joined (suc k) (Node a y b) x low p r e =
      subst (IsJoined (child_up (suc k) b y a x low)) (sym e) (child_up_joined (suc k) b y a x low p.2 p.1 r (record { left = p.0.right; right = p.0.left }) (omega arith))

  -- a balanced tree that is as high as the higher of these heights or one higher, and one higher where they differ by at most one
  pub record IsBound (t : Tree A) (l r : ℕ) : Type 0 where
    pub balanced : Balanced t
    pub least : max l r ≤ height t
    pub most : height t ≤ max l r + 1
    pub level : l ≤ r + 1 → r ≤ l + 1 → height t ≡ max l r + 1

  -- joining `x` over balanced trees at most two apart in height gives a balanced one, as high as the higher of them or one higher
  pub joined_bound : (l : Tree A) (x : A) (r : Tree A) → Balanced l → Balanced r → IsNear (height l) (height r) → IsBound (joined l x r) (height l) (height r)
  joined_bound l x r p q near =
      cond_both (leb (height l + 2) (height r)) (rotated 1 r x l) (cond (leb (height r + 2) (height l)) (rotated 0 l x r) (Node l x r)) (λ t. IsBound t (height l) (height r))
      (λ le.
      let h = leb-true (height l + 2) (height r) le in
      let j = rotated_joined 1 r x l q p (omega arith) in
      record { balanced = j.balanced; least = omega arith; most = omega arith; level = λ v w. absurd (omega arith) })
      (λ gt.
      let g = leb-false (height l + 2) (height r) gt in
      cond_both (leb (height r + 2) (height l)) (rotated 0 l x r) (Node l x r) (λ t. IsBound t (height l) (height r))
      (λ le.
      let h = leb-true (height r + 2) (height l) le in
      let j = rotated_joined 0 l x r p q (omega arith) in
      record { balanced = j.balanced; least = omega arith; most = omega arith; level = λ v w. absurd (omega arith) })
      (λ ft.
      let f = leb-false (height r + 2) (height l) ft in
      record { balanced = (record { left = omega arith; right = omega arith }, p, q); least = omega arith; most = omega arith; level = λ v w. omega arith }))

  -- hanging `t` beside a sibling at most two apart in height gives a balanced tree, as high as the higher of them or one higher
  under_bound : (side : ℕ) (t : Tree A) (x : A) (sibling : Tree A) → Balanced t → Balanced sibling → IsNear (height t) (height sibling) → IsBound (under side t x sibling) (height t) (height sibling)
  under_bound zero t x sibling p q near = joined_bound t x sibling p q near
  under_bound (suc k) t x sibling p q near =
      let b = joined_bound sibling x t q p (record { left = near.right; right = near.left }) in
      record { balanced = b.balanced; least = omega arith; most = omega arith; level = λ v w. b.level w v ∙ omega arith }

  -- what is balanced as a whole is balanced at a place
  pub balanced_parts : (side : ℕ) (t : Tree A) (x : A) (sibling : Tree A) → Balanced (node_on side t x sibling) → IsLevel (height t) (height sibling) × Balanced t × Balanced sibling
  balanced_parts zero t x sibling b = b
  balanced_parts (suc k) t x sibling b = (record { left = b.0.right; right = b.0.left }, b.2, b.1)

  -- what stands at the end of a way in a balanced tree is balanced
  pub balanced_at : (way : List (Turn A)) (t : Tree A) → Balanced (whole way t) → Balanced t
  balanced_at [] t b = b
  balanced_at (turn ∷ way) t b = (balanced_parts turn.side t turn.item turn.sibling (balanced_at way (node_on turn.side t turn.item turn.sibling) b)).1

  -- A balanced tree in place of one whose height differs by at most one: all is balanced again, and the whole's height
  -- differs by at most one.
  pub mended_balanced : (way : List (Turn A)) (old now : Tree A) → Balanced (whole way old) → Balanced now → IsLevel (height old) (height now) →
      Balanced (mended way now) × IsLevel (height (whole way old)) (height (mended way now))
  mended_balanced [] old now b p level = (p, level)
  mended_balanced (turn ∷ way) old now b p level =
      let here = balanced_parts turn.side old turn.item turn.sibling (balanced_at way (node_on turn.side old turn.item turn.sibling) b) in
      let s = here.0 in
      let u = under_bound turn.side now turn.item turn.sibling p here.2 (record { left = omega arith; right = omega arith }) in
      let h = height_on turn.side old turn.item turn.sibling in
      mended_balanced way (node_on turn.side old turn.item turn.sibling) (under turn.side now turn.item turn.sibling) b u.balanced
      (subst (λ k. IsLevel k (height (under turn.side now turn.item turn.sibling))) (sym h) (step_level (height old) (height now) (height turn.sibling) (height (under turn.side now turn.item turn.sibling)) s level u.least u.most u.level))
