-- Lines of a memory, and changes by a function of the words.
use Rattle.std.proofs.Common.{◌≡◌, ◌+◌, ◌*◌, ◌≤◌, ◌^◌, ℕ, List, Some, Result, IfOk, OnErr, IsTrue, sym, ap, ◌∙◌, subst, arith}
use Rattle.cx_base.specs.Calls.{Changes, Finds}
use Rattle.cx_base.specs.Memory.{Words, Becomes, Framed, Reads, Always}
use Rattle.cx_base.specs.declared.memory.Memory.{Ghosts}
use Rattle.avl_words.specs.Lines.{IsLoadable, IsStorable, IsWithin, IsPartLength}
use Rattle.cx_base.proofs.MemoryLemmas.{always_at_most}

-- a line that is there in all the words that stand is within the memory, and its places are small
pub line_inside : {Key : Type 0} (stands : Key → List ℕ → Type 0) (n line : ℕ) → ∥ ((first : Key) × (now : List ℕ) × stands first now) ∥₁ → ((first : Key) (now : List ℕ) → stands first now → Words n now) → IsPartLength n → Always stands (λ ws. IsWithin ws line) →
    (8 * line + 8 ≤ n) × (n ≤ 2 ^ 35)
line_inside stands n line some words sized all = (
  always_at_most stands some (8 * line + 8) n (λ first now s. subst (λ k. 8 * line + 8 ≤ k) (words first now s).long (all first now s)),
  omega (arith, sized.whole, sized.few),
)

-- what held of all words holds of them where nothing was stored
pub always_kept : {Key : Type 0} {old new : Key → List ℕ → Type 0} {P : List ℕ → Type 0} → Always old P → Becomes old new ◌≡◌ → Always new P
always_kept {P = P} all b first now s = (let p = b.from first now s in subst P p.2 (all first p.0 p.1))

-- what a reading found of the words holds of all that may stand after it
pub always_said : {Key : Type 0} {old new : Key → List ℕ → Type 0} {P : List ℕ → Type 0} → Reads old new P → Always new P
always_said r first now s = (r.from first now s).1

-- where a function makes words with `Q` of words with `P`, `Q` holds after a reading that found `P` and a change by that function
pub always_set : {Key : Type 0} {old mid new : Key → List ℕ → Type 0} {P : List ℕ → Type 0} (F : List ℕ → List ℕ) (Q : List ℕ → Type 0) →
    Reads old mid P → Becomes mid new (λ y z. z ≡ F y) → ((ws : List ℕ) → P ws → Q (F ws)) → Always new Q
always_set F Q r b w first now s = (let q = b.from first now s in subst Q (sym q.2) (w q.0 (r.from first q.0 q.1).1))

-- a change by a function behind a reading relates the words before both to those after as the function does, where the reading found `P`
pub Becomes-set : {Key : Type 0} {old mid new : Key → List ℕ → Type 0} {P : List ℕ → Type 0} (F : List ℕ → List ℕ) (R : List ℕ → List ℕ → Type 0) →
    Reads old mid P → Becomes mid new (λ y z. z ≡ F y) → ((ws : List ℕ) → P ws → R ws (F ws)) → Becomes old new R
Becomes-set F R r b w = record {
  from = λ first now s. (let q = b.from first now s in let p = r.from first q.0 q.1 in (q.0, p.0, subst (R q.0) (sym q.2) (w q.0 p.1)));
}

-- two changes by functions, one after another, are one by both
pub set_then : {Key : Type 0} {old mid new : Key → List ℕ → Type 0} (F G : List ℕ → List ℕ) → Becomes old mid (λ y z. z ≡ F y) → Becomes mid new (λ y z. z ≡ G y) → Becomes old new (λ y z. z ≡ G (F y))
set_then F G b d = record {
  from = λ first now s. (let q = d.from first now s in let p = b.from first q.0 q.1 in (p.0, p.1, q.2 ∙ ap G p.2));
}

-- a change behind a reading relates the words before both to those after, by what the reading found and the change did
pub Becomes-behind : {Key : Type 0} {old mid new : Key → List ℕ → Type 0} {P : List ℕ → Type 0} {R : List ℕ → List ℕ → Type 0} (S : List ℕ → List ℕ → Type 0) →
    Reads old mid P → Becomes mid new R → ((ws now : List ℕ) → P ws → R ws now → S ws now) → Becomes old new S
Becomes-behind S r b w = record {
  from = λ first now s. (let q = b.from first now s in let p = r.from first q.0 q.1 in (q.0, p.0, w q.0 now p.1 q.2));
}

-- the clauses of a call one by one; a line then stays one line
module _ {Memory T E : Type 0} {m : Ghosts Memory} {old new : Memory} {result : Result T E} where
  -- the clauses of a call that only loads, put together: all words are kept, and what it found holds of them
  pub found : {Found : T → List ℕ → Type 0} → IfOk result (λ v. Reads (m.stands old) (m.stands new) (Found v)) → Becomes (m.stands old) (m.stands new) ◌≡◌ → OnErr result (m.left new ≡ Some 0) → Framed m.size m.fixed m.writable m.left old new → Finds m old new result Found
  found d k h f = record { done = d; kept = k; halts = h; framed = f }

  -- the clauses of a call that stores, put together: the words after it are related to those before it
  pub changed : {Related : T → List ℕ → List ℕ → Type 0} → IfOk result (λ v. Becomes (m.stands old) (m.stands new) (Related v)) → OnErr result (m.left new ≡ Some 0) → Framed m.size m.fixed m.writable m.left old new → Changes m old new result Related
  changed d h f = record { done = d; halts = h; framed = f }

module _ {Memory : Type 0} {m : Ghosts Memory} {memory : Memory} {P : List ℕ → Type 0} where
  -- a memory of whole lines, of all whose words `P` holds, may be loaded
  pub loadable : IsPartLength (m.size memory) → Always (m.stands memory) P → IsLoadable m memory P
  loadable s a = record { sized = s; all = a }

  -- a writable memory of whole lines, of all whose words `P` holds, may be loaded and stored to
  pub storable : IsPartLength (m.size memory) → IsTrue (m.writable memory) → Always (m.stands memory) P → IsStorable m memory P
  storable s w a = record { sized = s; writable = w; all = a }
