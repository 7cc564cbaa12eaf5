-- Where the height at the end of a way is as before, nothing on the way changes but the link to it: the way up may stop there.
use Rattle.std.proofs.Common.{◌≡◌, ◌+◌, ◌≤◌, ◌<◌, max, ℕ, zero, suc, cond, leb, List, [], ◌∷◌, refl, sym, ap, ◌∙◌, arith}
use Rattle.std.proofs.lemmas.Bool.{cond-false, lt-leb}
use Rattle.avl_words.specs.Tree.{Tree, Node, height, Balanced, node_on, rotated, joined}
use Rattle.avl_words.specs.Ways.{Turn, under, whole, mended}
use Rattle.avl_words.proofs.Trees.{height_on, balanced_at, balanced_parts}

module _ {A : Type 0} where
  -- balancing leaves a node `x` as it is where the heights of `l` and `r` differ by at most one
  joined_level : (l : Tree A) (x : A) (r : Tree A) → height l ≤ height r + 1 → height r ≤ height l + 1 → joined l x r ≡ Node l x r
  joined_level l x r p q =
      cond-false (leb (height l + 2) (height r)) (rotated 1 r x l) (cond (leb (height r + 2) (height l)) (rotated 0 l x r) (Node l x r)) (lt-leb (height l + 2) (height r) (let h : height r < height l + 2 = omega arith in h))
      ∙ cond-false (leb (height r + 2) (height l)) (rotated 0 l x r) (Node l x r) (lt-leb (height r + 2) (height l) (let h : height l < height r + 2 = omega arith in h))

  -- balancing leaves a node `x` with `t` at a side as it is where the heights of `t` and `s` differ by at most one
  under_level : (side : ℕ) (t : Tree A) (x : A) (s : Tree A) → height t ≤ height s + 1 → height s ≤ height t + 1 → under side t x s ≡ node_on side t x s
  under_level zero t x s p q = joined_level t x s p q
  under_level (suc k) t x s p q = joined_level s x t q p

  pub mended_level : (way : List (Turn A)) (old now : Tree A) → Balanced (whole way old) → height old ≡ height now → mended way now ≡ whole way now
  mended_level [] old now b e = refl
  mended_level (turn ∷ way) old now b e =
      let here = balanced_parts turn.side old turn.item turn.sibling (balanced_at way (node_on turn.side old turn.item turn.sibling) b) in
      let level = here.0 in
      ap (mended way) (under_level turn.side now turn.item turn.sibling (omega arith) (omega arith))
      ∙ mended_level way (node_on turn.side old turn.item turn.sibling) (node_on turn.side now turn.item turn.sibling) b
      (height_on turn.side old turn.item turn.sibling ∙ ap (λ h. 1 + max h (height turn.sibling)) e ∙ sym (height_on turn.side now turn.item turn.sibling))
