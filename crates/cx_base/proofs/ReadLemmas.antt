-- What is known of the words of a memory over calls that only load.
use Rattle.std.proofs.Common.{◌≡◌, ℕ, List, slice_index, refl, ◌∙◌}
use Rattle.cx_base.specs.Memory.{Loaded, Becomes, Reads, Always}

module _ {Key : Type 0} where
  -- nothing loaded yet
  pub Reads-none : (old : Key → List ℕ → Type 0) {P : List ℕ → Type 0} → Always old P → Reads old old P
  Reads-none old all = record { from = λ first now s. (s, all first now s) }

  -- a load behind what was read
  pub Reads-load : {old mid new : Key → List ℕ → Type 0} {P Q : List ℕ → Type 0} {at v : ℕ} →
      Reads old mid P → Loaded at v mid new → ((ws : List ℕ) → P ws → slice_index ws at ≡ v → Q ws) → Reads old new Q
  Reads-load r l w = record {
    from = λ first now s. (let q = l.back first now s in let p = r.from first now q.0 in (p.0, w now p.1 q.1));
  }

  pub Reads-loaded : {old mid new : Key → List ℕ → Type 0} {P : List ℕ → Type 0} {at v : ℕ} →
      Reads old mid P → Loaded at v mid new → Reads old new (λ ws. P ws × (slice_index ws at ≡ v))
  Reads-loaded r l = Reads-load r l (λ ws p e. (p, e))

  -- one reading behind another
  pub Reads-then : {old mid new : Key → List ℕ → Type 0} {P Q R : List ℕ → Type 0} →
      Reads old mid P → Reads mid new Q → ((ws : List ℕ) → P ws → Q ws → R ws) → Reads old new R
  Reads-then r t w = record {
    from = λ first now s. (let q = t.from first now s in let p = r.from first now q.0 in (p.0, w now p.1 q.1));
  }

  pub Reads-weaker : {old new : Key → List ℕ → Type 0} {P Q : List ℕ → Type 0} → Reads old new P → ((ws : List ℕ) → P ws → Q ws) → Reads old new Q
  Reads-weaker r w = record { from = λ first now s. (let p = r.from first now s in (p.0, w now p.1)) }

  -- with what held of all words before
  pub Reads-with : {old new : Key → List ℕ → Type 0} {P Q : List ℕ → Type 0} → Always old P → Reads old new Q → Reads old new (λ ws. P ws × Q ws)
  Reads-with all r = record { from = λ first now s. (let p = r.from first now s in (p.0, (all first now p.0, p.1))) }

  -- what held of all words holds of them after a reading, with what was read
  pub always_read : {old new : Key → List ℕ → Type 0} {P Q R : List ℕ → Type 0} → Always old P → Reads old new Q → ((ws : List ℕ) → P ws → Q ws → R ws) → Always new R
  always_read all r w first now s = (let p = r.from first now s in w now (all first now p.0) p.1)

  -- a reading as a change of nothing
  pub Becomes-from-read : {old new : Key → List ℕ → Type 0} {P : List ℕ → Type 0} → Reads old new P → Becomes old new (λ x y. (y ≡ x) × P y)
  Becomes-from-read r = record { from = λ first now s. (let p = r.from first now s in (now, p.0, (refl, p.1))) }

  -- changes, and what is read behind them
  pub Becomes-read : {old mid new : Key → List ℕ → Type 0} {R : List ℕ → List ℕ → Type 0} {P : List ℕ → Type 0} →
      Becomes old mid R → Reads mid new P → Becomes old new (λ x y. R x y × P y)
  Becomes-read b r = record {
    from = λ first now s. (let q = r.from first now s in let p = b.from first now q.0 in (p.0, p.1, (p.2, q.1)));
  }

  -- nothing stored, twice
  pub kept_then : {old mid new : Key → List ℕ → Type 0} → Becomes old mid ◌≡◌ → Becomes mid new ◌≡◌ → Becomes old new ◌≡◌
  kept_then b d = record { from = λ first now s. (let q = d.from first now s in let p = b.from first q.0 q.1 in (p.0, p.1, p.2 ∙ q.2)) }
