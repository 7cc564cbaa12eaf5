-- What a call over a memory answers and leaves. It halts only where no access is left, and the memory stays the same one.
use Rattle.std.specs.Prelude.{◌≡◌, ℕ, List, Some, Result, IfOk, OnErr}
use Rattle.cx_base.specs.Memory.{Becomes, Framed, Loaded, Reads, Stored}
use Rattle.cx_base.specs.declared.memory.Memory.{Ghosts}

-- A load of the word at a place. Where it halts, the words stay as they are too.
pub record Loads {Memory E : Type 0} (m : Ghosts Memory) (old new : Memory) (result : Result ℕ E) (at : ℕ) : Type 0 where
  pub done : IfOk result (λ v. Loaded at v (m.stands old) (m.stands new))
  pub kept : Becomes (m.stands old) (m.stands new) ◌≡◌
  pub halts : OnErr result (m.left new ≡ Some 0)
  pub framed : Framed m.size m.fixed m.writable m.left old new

-- a store of a word at a place
pub record Stores {Memory T E : Type 0} (m : Ghosts Memory) (old new : Memory) (result : Result T E) (at v : ℕ) : Type 0 where
  pub done : IfOk result (λ _. Stored at v (m.stands old) (m.stands new))
  pub halts : OnErr result (m.left new ≡ Some 0)
  pub framed : Framed m.size m.fixed m.writable m.left old new

-- Loads: what their answer tells of the words, which stay as they are, also where a load halts.
pub record Finds {Memory T E : Type 0} (m : Ghosts Memory) (old new : Memory) (result : Result T E) (Found : T → List ℕ → Type 0) : Type 0 where
  pub done : IfOk result (λ v. Reads (m.stands old) (m.stands new) (Found v))
  pub kept : Becomes (m.stands old) (m.stands new) ◌≡◌
  pub halts : OnErr result (m.left new ≡ Some 0)
  pub framed : Framed m.size m.fixed m.writable m.left old new

-- Loads and stores: how the words after them come from those before, by the answer.
pub record Changes {Memory T E : Type 0} (m : Ghosts Memory) (old new : Memory) (result : Result T E) (Related : T → List ℕ → List ℕ → Type 0) : Type 0 where
  pub done : IfOk result (λ v. Becomes (m.stands old) (m.stands new) (Related v))
  pub halts : OnErr result (m.left new ≡ Some 0)
  pub framed : Framed m.size m.fixed m.writable m.left old new
