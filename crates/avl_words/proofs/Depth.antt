-- A balanced tree of height h has n nodes with 2 ^ h ≤ (n + 1)².
use Rattle.std.proofs.Common.{◌≡◌, ◌+◌, ◌*◌, ◌^◌, ◌≤◌, ◌<◌, ℕ, zero, suc, max, List, [], ◌∷◌, length, inl, inr, sym, subst, arith, lit≤}
use Rattle.std.proofs.lemmas.Bool.{cases_lt}
use Rattle.std.proofs.Math.Nat.{pow-suc, mul-le-mul_left}
use Rattle.std.proofs.Math.Pow.{pow_mono}
use Rattle.avl_words.specs.Tree.{Tree, Empty, Node, height, size, IsLevel, Balanced, node_on}
use Rattle.avl_words.specs.Ways.{Turn, whole}
use Rattle.avl_words.proofs.Trees.{height_on}

-- of two subtrees one may be one lower than the other
squares : (a b k : ℕ) → 2 * k ≤ a * a → k ≤ b * b → 4 * k ≤ (a + b) * (a + b)
squares a b k p q =
    elim (cases_lt a b) as (λ _. 4 * k ≤ (a + b) * (a + b)) [
      | inl l ↦ (let m : a * a ≤ a * b = mul-le-mul_left a (omega arith) in omega (arith, m, p, q))
      | inr l ↦ (let m : b * b ≤ b * a = mul-le-mul_left b l in omega (arith, m, p, q))
    ]

-- the bound of the law for a node over two level subtrees: `l` is the height of the higher one and `m` its size, `r` and `n` those of the other
higher_first : (l r m n : ℕ) → IsLevel l r → r ≤ l → 2 ^ l ≤ (m + 1) * (m + 1) → 2 ^ r ≤ (n + 1) * (n + 1) → 2 ^ suc l ≤ ((m + 1) + (n + 1)) * ((m + 1) + (n + 1))
higher_first zero r m n level le p q = omega arith
higher_first (suc l) r m n level le p q =
    let down : 2 ^ l ≤ 2 ^ r = pow_mono (omega arith) in
    let e = pow-suc 2 (suc l) in
    let f = pow-suc 2 l in
    let s = squares (m + 1) (n + 1) (2 ^ l) (omega arith) (omega arith) in
    omega (arith, e, f, s)

-- the sum of the squares' roots, as it comes from a node
high : (h g m n s : ℕ) → 2 ^ g ≤ ((m + 1) + (n + 1)) * ((m + 1) + (n + 1)) → h ≡ g → s + 1 ≡ (m + 1) + (n + 1) → 2 ^ h ≤ (s + 1) * (s + 1)
high h g m n s p e f = subst (λ k. 2 ^ k ≤ (s + 1) * (s + 1)) (sym e) (subst (λ k. 2 ^ g ≤ k * k) (sym f) p)

module _ {A : Type 0} where
  pub depth_law : (t : Tree A) → Balanced t → 2 ^ height t ≤ (size t + 1) * (size t + 1)
  depth_law Empty b = lit≤ tt
  depth_law (Node l x r) b =
      let p = depth_law l b.1 in
      let q = depth_law r b.2 in
      elim (cases_lt (height l) (height r)) as (λ _. 2 ^ (1 + max (height l) (height r)) ≤ (size l + (1 + size r) + 1) * (size l + (1 + size r) + 1)) [
        | inl less ↦ high (1 + max (height l) (height r)) (suc (height r)) (size r) (size l) (size l + (1 + size r))
            (higher_first (height r) (height l) (size r) (size l) (record { left = b.0.right; right = b.0.left }) (omega arith) q p) (omega arith) (omega arith)
        | inr more ↦ high (1 + max (height l) (height r)) (suc (height l)) (size l) (size r) (size l + (1 + size r))
            (higher_first (height l) (height r) (size l) (size r) b.0 more p q) (omega arith) (omega arith)
      ]

  -- a tree of fewer than 2 ^ 32 nodes is at most 64 high
  pub depth_bound : (t : Tree A) → Balanced t → size t < 2 ^ 32 → height t ≤ 64
  depth_bound t b few =
      elim (cases_lt 64 (height t)) as (λ _. height t ≤ 64) [
        | inl more ↦ (let p = depth_law t b in
            let q : 2 ^ 65 ≤ 2 ^ height t = pow_mono {i = 65} {j = height t} (omega arith) in
            let m : (size t + 1) * (size t + 1) ≤ (size t + 1) * 2 ^ 32 = mul-le-mul_left (size t + 1) (omega arith) in
            absurd (omega (arith, p, q, m)))
        | inr le ↦ le
      ]

  -- a way down is no longer than the tree is high
  pub height_at : (way : List (Turn A)) (t : Tree A) → height t + length way ≤ height (whole way t)
  height_at [] t = omega arith
  height_at (turn ∷ way) t =
      let h = height_on turn.side t turn.item turn.sibling in
      let i = height_at way (node_on turn.side t turn.item turn.sibling) in
      omega arith
