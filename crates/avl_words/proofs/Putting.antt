-- A new node at the place where a walk ends makes the tree with the new line.
use Rattle.std.proofs.Common.{◌≡◌, ◌^◌, ◌+◌, ◌-◌, ◌≤◌, inl, inr, ℕ, zero, suc, cond, eqb, List, [], ◌∷◌, refl, sym, ap, subst, ◌∙◌, arith, lit≤}
use Rattle.std.specs.declared.cmp.Ordering.{Ordering}
use Rattle.std.proofs.lemmas.Bool.{cases_eq}
use Rattle.avl_words.specs.Tree.{Tree, Empty, Node, height, IsLevel, Balanced, node_on}
use Rattle.avl_words.specs.Ways.{Turn, under, whole, spot, with_new}
use Rattle.avl_words.proofs.Trees.{height_on, balanced_at, mended_balanced}
use Rattle.avl_words.proofs.Depth.{depth_bound, height_at}
use Rattle.avl_words.proofs.Spots.{spot_whole}
use Rattle.avl_words.specs.Lines.{word_of, IsWithin, with_word}
use Rattle.avl_words.specs.Words.{root, times, IsNode, RepresentsTree, IsTree, IsSpot}
use Rattle.avl_words.specs.Links.{IsTreeMade}
use Rattle.avl_words.specs.Changes.{CanPut, PutsNode}
use Rattle.avl_words.specs.Mending.{Spine, IsLow, IsHung, Settled, CanMend, Mends}
use Rattle.avl_words.specs.Exact.{with_tree}
use Rattle.avl_words.proofs.Walks.{stands_at}
use Rattle.avl_words.proofs.Frames.{times_most, times_other, except_more, high_is}
use Rattle.avl_words.proofs.Relinking.{settled_of}
use Rattle.avl_words.proofs.ExactWords.{only_words}
use Rattle.avl_words.proofs.Hanging.{whole_times, mended_times}

-- the nodes of the way to a place of a tree that stands
attempt_stands : (ws : List ℕ) (side : ℕ) (t : Tree ℕ) (x : ℕ) (s : Tree ℕ) → RepresentsTree ws (node_on side t x s) →
    (1 ≤ x) × IsWithin ws x × (word_of ws x (1 - side) ≡ root s) × RepresentsTree ws s
attempt_stands ws zero t x s h = (h.0.some, h.0.within, h.0.right_is, h.2)
attempt_stands ws (suc k) t x s h = (h.0.some, h.0.within, (let e : 1 - suc k ≡ 0 = omega arith in ap (λ i. word_of ws x i) e ∙ h.0.left_is), h.1)

-- the nodes of a way down a tree that stands are there, with what hangs at their other sides
pub spine_of : (ws : List ℕ) (way : List (Turn ℕ)) (t : Tree ℕ) → RepresentsTree ws (whole way t) → Spine ws way
spine_of ws [] t s = tt
spine_of ws (turn ∷ way) t s =
    let h = attempt_stands ws turn.side t turn.item turn.sibling (stands_at ws way (node_on turn.side t turn.item turn.sibling) s) in
    (h.0, h.1, h.2, h.3, spine_of ws way (node_on turn.side t turn.item turn.sibling) s)

-- heights stay low on the way up
pub low_way : (way : List (Turn ℕ)) (old now : Tree ℕ) → Balanced (whole way old) → Balanced now → IsLevel (height old) (height now) → height (whole way old) ≤ 2 ^ 31 → IsLow way now
low_way [] old now b p level low = tt
low_way (turn ∷ way) old now b p level low =
    let h = height_on turn.side old turn.item turn.sibling in
    let k = height_on turn.side now turn.item turn.sibling in
    let m = height_at way (node_on turn.side old turn.item turn.sibling) in
    let one = mended_balanced (turn ∷ []) old now (balanced_at way (node_on turn.side old turn.item turn.sibling) b) p level in
    (omega arith, low_way way (node_on turn.side old turn.item turn.sibling) (under turn.side now turn.item turn.sibling) b one.0 one.1 low)

-- a line `k` that is at most once in `t` is at most once there with a new node `n` beside it, where `n` is not in `t`
pub once_more : (n k : ℕ) (t : Tree ℕ) → times n t ≡ 0 → times k t ≤ 1 → times k t + cond (eqb n k) 1 0 ≤ 1
once_more n k t none once =
    elim (cases_eq n k) as (λ _. times k t + cond (eqb n k) 1 0 ≤ 1) [
      | inl e ↦ (let z : times k t ≡ 0 = subst (λ j. times j t ≡ 0) e none in let o = times_most n k in omega (arith, z, o))
      | inr ne ↦ (let o = times_other n k ne in omega (arith, once, o))
    ]

-- where a tree was made of the old one and the header names its root, the words are those before with the new tree
pub made_words : (ws now : List ℕ) (old new : Tree ℕ) (top : ℕ) → ((line : ℕ) → times line old ≤ times line new) → IsTreeMade ws now old new top → with_word 0 1 top now ≡ with_tree new ws
unfolding with_tree
made_words ws now old new top le m =
    ap (λ k. with_word 0 1 k now) (sym m.root_is) ∙ ap (with_word 0 1 (root new)) (only_words ws now new (except_more ws now old new le m.but) m.stands)

module _ (ws nodes sides : List ℕ) (order : ℕ → Ordering) (depth node : ℕ) (t : Tree ℕ) (i : IsTree ws t) (o : IsSpot nodes sides order depth 0 t) (n : IsNode ws node 0 0 1) (apart : times node t ≡ 0) where
  empty_root : (h : Tree ℕ) → RepresentsTree ws h → 0 ≡ root h → h ≡ Empty
  empty_root Empty s e = refl
  empty_root (Node l x r) s e = absurd (let some = s.0.some in omega arith)

  gap_whole : whole (spot order [] t).0 Empty ≡ t
  gap_whole =
      let s = stands_at ws (spot order [] t).0 (spot order [] t).1 (subst (RepresentsTree ws) (sym (spot_whole order [] t)) i.stands) in
      ap (whole (spot order [] t).0) (sym (empty_root (spot order [] t).1 s o.node_is)) ∙ spot_whole order [] t

  -- the new node is to hang there
  pub hung_leaf : IsHung ws nodes sides depth (spot order [] t).0 (Node Empty node Empty) node
  hung_leaf =
      let way = (spot order [] t).0 in
      let high = depth_bound t i.balanced i.few in
      let same = ap height gap_whole in
      record {
        noted = o.noted;
        long = o.long;
        spine = spine_of ws way Empty (subst (RepresentsTree ws) (sym gap_whole) i.stands);
        stands = (n, tt, tt);
        root_is = refl;
        once = λ k. (let m = once_more node k t apart (i.once k) in let w = whole_times k way Empty in let e = ap (times k) gap_whole in omega (arith, m, w, e));
        low = low_way way Empty (Node Empty node Empty) (subst Balanced (sym gap_whole) i.balanced) (record { left = lit≤ tt; right = lit≤ tt }, tt, tt) (record { left = lit≤ tt; right = lit≤ tt }) (omega arith);
      }

  -- the nodes of the way stand
  pub settled_leaf : Settled ws depth (spot order [] t).0
  settled_leaf = settled_of ws nodes sides depth (spot order [] t).0 Empty o.noted (subst (RepresentsTree ws) (sym gap_whole) i.stands) (subst Balanced (sym gap_whole) i.balanced)

  pub new_words : (now : List ℕ) (top : ℕ) → IsTreeMade ws now (whole (spot order [] t).0 (Node Empty node Empty)) (with_new order node t) top → with_word 0 1 top now ≡ with_tree (with_new order node t) ws
  new_words now top m =
      made_words ws now (whole (spot order [] t).0 (Node Empty node Empty)) (with_new order node t) top
      (λ k. (let e = mended_times k (spot order [] t).0 (Node Empty node Empty) in let w = whole_times k (spot order [] t).0 (Node Empty node Empty) in omega (arith, e, w))) m

-- as the code runs
pub can_mend_leaf : (ws nodes sides : List ℕ) (depth node : ℕ) → CanPut ws nodes sides depth node → CanMend ws nodes sides depth depth node 1
can_mend_leaf ws nodes sides depth node c =
    let b = c.beside in
    let h = hung_leaf ws nodes sides c.order depth node c.tree b.tree b.spot b.leaf b.apart in
    record {
      way = (spot c.order [] c.tree).0;
      tree = Node Empty node Empty;
      hung = h;
      high_is = high_is ws (Node Empty node Empty) h.stands;
      settled_way = settled_leaf ws nodes sides c.order depth node c.tree b.tree b.spot b.leaf b.apart;
    }

-- mending the way at whose end the new leaf hangs, and storing the new root, puts the node in the tree
pub puts : (ws now last nodes sides : List ℕ) (depth node top : ℕ) → Mends nodes sides depth depth node 1 top ws now → last ≡ with_word 0 1 top now → PutsNode nodes sides depth node ws last
puts ws now last nodes sides depth node top m e order t b =
    let h = hung_leaf ws nodes sides order depth node t b.tree b.spot b.leaf b.apart in
    e ∙ new_words ws nodes sides order depth node t b.tree b.spot b.leaf b.apart now top
    (m (spot order [] t).0 (Node Empty node Empty) h (high_is ws (Node Empty node Empty) h.stands) (settled_leaf ws nodes sides order depth node t b.tree b.spot b.leaf b.apart))
