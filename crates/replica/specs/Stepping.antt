-- A memory of a region on which full steps can be done.
use Rattle.std.specs.Prelude.{◌≡◌, ◌+◌, ◌^◌, ◌≤◌, ℕ, Bool, List, IsTrue}
use Rattle.cx_base.specs.Memory.{Always}
use Rattle.cx_core.specs.Region.{object_part, place_of, region_words}

-- a memory of this size, with these pairs, on which this number of full steps can be done
pub record IsSteppable {Key : Type 0} (lines : ℕ) (lawful : List ℕ → Type 0) (size : ℕ) (writable : Bool) (stands : Key → List ℕ → Type 0) (left : ℕ) : Type 0 where
  pub sized : size ≡ region_words lines
  pub may_store : IsTrue writable
  pub place : Always stands (λ region. place_of region + left ≤ 2 ^ 40)
  pub image : Always stands (λ region. lawful (object_part region))
