-- Marks on words: where they may stand, and those that are carried over from one list to another.
use Rattle.std.specs.Prelude.{◌≡◌, ◌+◌, ◌*◌, ◌/◌, ◌<◌, ◌≤◌, ◌↔◌, ◌⊎◌, ℕ, All, Bool, true, false, List, length, slice_get, slice_index_or, Some}
use Rattle.std.specs.List.{Contains}

-- a mark stands where it stood, and where one of the first n of these stands, from a place on
abbrev pub MarksMore : List Bool → ℕ → ℕ → List Bool → List Bool → Type 0
MarksMore marks from n before after =
    (at : ℕ) → (slice_get after at ≡ Some true) ↔ ((slice_get before at ≡ Some true) ⊎ ((i : ℕ) × (i < n) × (at ≡ from + i) × (slice_get marks i ≡ Some true)))

-- an address lies in a marked line that is not below the first
abbrev pub IsInLines : List Bool → ℕ → ℕ → Type 0
IsInLines lines first at = (first ≤ at / 8) × (slice_index_or lines (at / 8) false ≡ true)

-- an address is listed, or lies in a marked line that is not below the first
abbrev pub IsCovered : List ℕ → List Bool → ℕ → ℕ → Type 0
IsCovered listed lines first at = Contains listed at ⊎ IsInLines lines first at

-- each marked word is listed, or lies in a marked line that is not below the first
pub record AreCovered (marks : List Bool) (listed : List ℕ) (lines : List Bool) (first : ℕ) : Type 0 where
  pub long : length marks ≤ 8 * length lines
  pub short : 8 * length lines ≤ length marks + 8
  pub within : All (λ at. at < length marks) listed
  pub each : (at : ℕ) → slice_get marks at ≡ Some true → IsCovered listed lines first at
