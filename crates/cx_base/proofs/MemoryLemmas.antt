-- How the pairs that stand go on from one access to the next.
use Rattle.std.proofs.Common.{◌≡◌, ◌^◌, ◌<◌, ◌≤◌, ℕ, suc, Bool, List, slice_index, slice_set, Option, None, Some, is_some, Result, refl, subst, sym, ap, ◌∙◌}
use Rattle.std.specs.List.{All}
use Rattle.std.proofs.Math.Logic.{∥∥₁_elim}
use Rattle.std.proofs.Math.Bridge.{le_prop}
use Rattle.cx_base.specs.Memory.{Accessed, Loaded, Stored, Becomes, Framed, Always, Known, one_less}

module _ {Key : Type 0} where
  -- nothing done
  pub Becomes-same : (old : Key → List ℕ → Type 0) → Becomes old old ◌≡◌
  Becomes-same old = record { from = λ first now s. (now, s, refl) }

  -- another relation, which follows where the words now are known to stand
  pub Becomes-weaker : {old new : Key → List ℕ → Type 0} {R S : List ℕ → List ℕ → Type 0} →
      Becomes old new R → ((first : Key) (before now : List ℕ) → new first now → R before now → S before now) → Becomes old new S
  Becomes-weaker b w = record {
    from = λ first now s. (let p = b.from first now s in (p.0, p.1, w first p.0 now s p.2));
  }

  -- one after another
  pub Becomes-then : {old mid new : Key → List ℕ → Type 0} {R S T : List ℕ → List ℕ → Type 0} →
      Becomes old mid R → Becomes mid new S → ((x y z : List ℕ) → R x y → S y z → T x z) → Becomes old new T
  Becomes-then b d w = record {
    from = λ first now s. (let q = d.from first now s in let p = b.from first q.0 q.1 in (p.0, p.1, w p.0 q.0 now p.2 q.2));
  }

  -- a load behind what was done; the words loaded from are known to stand
  pub Becomes-load : {old mid new : Key → List ℕ → Type 0} {R S : List ℕ → List ℕ → Type 0} {at v : ℕ} →
      Becomes old mid R → Loaded at v mid new →
      ((first : Key) (x y : List ℕ) → mid first y → R x y → slice_index y at ≡ v → S x y) → Becomes old new S
  Becomes-load b l w = record {
    from = λ first now s. (let q = l.back first now s in let p = b.from first now q.0 in (p.0, p.1, w first p.0 now q.0 p.2 q.1));
  }

  -- a store behind what was done; the words stored to are known to stand
  pub Becomes-store : {old mid new : Key → List ℕ → Type 0} {R S : List ℕ → List ℕ → Type 0} {at v : ℕ} →
      Becomes old mid R → Stored at v mid new →
      ((first : Key) (x y : List ℕ) → mid first y → R x y → S x (slice_set y at v)) → Becomes old new S
  Becomes-store {S = S} b d w = record {
    from = λ first now s. (let q = d.back first now s in let p = b.from first q.0 q.1 in (p.0, p.1, subst (λ z. S p.0 z) (sym q.2) (w first p.0 q.0 q.1 p.2)));
  }

  -- two changes, one behind another
  pub Becomes-both : {old mid new : Key → List ℕ → Type 0} {R S : List ℕ → List ℕ → Type 0} →
      Becomes old mid R → Becomes mid new S → Becomes old new (λ x z. (y : List ℕ) × R x y × S y z)
  Becomes-both b d = record {
    from = λ first now s. (let q = d.from first now s in let p = b.from first q.0 q.1 in (p.0, p.1, (q.0, p.2, q.2)));
  }

  -- with a word loaded behind what was done
  pub Becomes-loaded : {old mid new : Key → List ℕ → Type 0} {R : List ℕ → List ℕ → Type 0} {at v : ℕ} →
      Becomes old mid R → Loaded at v mid new → Becomes old new (λ x y. R x y × (slice_index y at ≡ v))
  Becomes-loaded b l = Becomes-load b l (λ first x y s r e. (r, e))

  -- what held of all words before gives what holds of all words after
  pub always_after : {old new : Key → List ℕ → Type 0} {R : List ℕ → List ℕ → Type 0} {P Q : List ℕ → Type 0} → Always old P → Becomes old new R → ((x y : List ℕ) → P x → R x y → Q y) → Always new Q
  always_after all b w first now s = (let p = b.from first now s in w p.0 now (all first p.0 p.1) p.2)

  -- what holds of the words after holds of all that may be there
  pub Becomes-always : {old new : Key → List ℕ → Type 0} {R : List ℕ → List ℕ → Type 0} {P : List ℕ → Type 0} →
      Becomes old new R → ((x y : List ℕ) → R x y → P y) → Always new P
  Becomes-always b w first now s = (let p = b.from first now s in w p.0 now p.2)

-- whether there is a limit stays the same over an access
pub is_some-one_less : (left : Option ℕ) → is_some (one_less left) ≡ is_some left
is_some-one_less None = refl
is_some-one_less (Some n) = refl

module _ {Memory Fixed : Type 0} {size : Memory → ℕ} {fixed : Memory → Fixed} {writable : Memory → Bool} {left : Memory → Option ℕ} where
  -- no call
  pub Framed-same : (m : Memory) → Framed size fixed writable left m m
  Framed-same m = record { size_kept = refl; fixed_kept = refl; writable_kept = refl; limited = refl }

  -- one load or one store
  pub Framed-access : {Key T E : Type 0} {stands : Memory → Key → List ℕ → Type 0} {old new : Memory} {r : Result T E} → Accessed size fixed writable left stands old new r → Framed size fixed writable left old new
  Framed-access a = record { size_kept = a.size_kept; fixed_kept = a.fixed_kept; writable_kept = a.writable_kept; limited = ap is_some a.counted ∙ is_some-one_less _ }

  -- one call after another
  pub Framed-then : {old mid new : Memory} → Framed size fixed writable left old mid → Framed size fixed writable left mid new → Framed size fixed writable left old new
  Framed-then a b = record {
    size_kept = b.size_kept ∙ a.size_kept;
    fixed_kept = b.fixed_kept ∙ a.fixed_kept;
    writable_kept = b.writable_kept ∙ a.writable_kept;
    limited = b.limited ∙ a.limited;
  }

-- where all words are known, the words after are the known ones
pub known_after : {R : List ℕ → List ℕ → Type 0} (ws vs : List ℕ) → All (λ x. x < 2 ^ 64) vs → Becomes (Known ws) (Known vs) R → R ws vs
known_after {R = R} ws vs fit b =
    let p = b.from vs vs (record { first_fits = record { long = refl; fit = fit }; same = refl }) in
    subst (λ x. R x vs) p.1.same p.2

-- what the known words are, all words that stand are
pub known_always : (P : List ℕ → Type 0) (ws : List ℕ) → P ws → Always (Known ws) P
known_always P ws p first now s = subst P (sym s.same) p

module _ {Key : Type 0} where
  -- a bound that all the words that stand give: some words stand
  pub always_at_most : (stands : Key → List ℕ → Type 0) → ∥ ((first : Key) × (now : List ℕ) × stands first now) ∥₁ → (a b : ℕ) → Always stands (λ _. a ≤ b) → a ≤ b
  always_at_most stands some a b all = ∥∥₁_elim some le_prop (λ p. all p.0 p.1 p.2)

  pub always_below : (stands : Key → List ℕ → Type 0) → ∥ ((first : Key) × (now : List ℕ) × stands first now) ∥₁ → (a b : ℕ) → Always stands (λ _. a < b) → a < b
  always_below stands some a b all = always_at_most stands some (suc a) b all

  -- a bound on the words that may be there bounds the word loaded
  pub loaded_below : {old new : Key → List ℕ → Type 0} (at v bound : ℕ) → ∥ ((first : Key) × (now : List ℕ) × new first now) ∥₁ →
      Loaded at v old new → Always old (λ now. slice_index now at < bound) → v < bound
  loaded_below {new = new} at v bound some l below =
      always_below new some v bound (λ first now s. (let q = l.back first now s in subst (λ n. n < bound) q.1 (below first now q.0)))

  -- what may be there after a load may have been there before
  pub Always-loaded : {old new : Key → List ℕ → Type 0} {at v : ℕ} (P : List ℕ → Type 0) → Loaded at v old new → Always old P → Always new P
  Always-loaded P l always first now s = always first now (l.back first now s).0
