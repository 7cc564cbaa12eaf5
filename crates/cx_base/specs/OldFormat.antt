-- The format that an object's images had before.
use Rattle.std.specs.Prelude.{◌≡◌, ◌≢◌, ◌*◌, ℕ, List, Option, None, Some, IfSome, slice_index}
use Rattle.std.proofs.Common.{refl}
use Rattle.cx_base.specs.Memory.{Words}

-- a format of before: its version, which images of it may be the object's, and the image that each of them becomes
pub record OldFormat : Type 1 where
  pub version : Option ℕ
  pub lawful : List ℕ → Type 0
  pub upgraded : List ℕ → List ℕ

-- of an object that had none
abbrev pub no_old_format : OldFormat
no_old_format = record { version = None; lawful = λ _. ⊥; upgraded = λ image. image }

-- words may be upgraded: where there is an old version, they are a lawful image of it
abbrev pub CanUpgrade : OldFormat → List ℕ → Type 0
CanUpgrade old words = IfSome old.version (λ _. old.lawful words)

-- An object of this number of lines takes over its images of another version than its own. A lawful one has 8 words for each line, the first of
-- which is that version, so there is none where there is no such version. It becomes an image that is lawful for the object, as long as it was.
-- Where there is no old version, no words are changed.
pub record TakesOver (lines version : ℕ) (lawful : List ℕ → Type 0) (old : OldFormat) : Type 0 where
  pub another : old.version ≢ Some version
  pub shape : (image : List ℕ) → old.lawful image → Words (8 * lines) image × (old.version ≡ Some (slice_index image 0))
  pub upgrades : (image : List ℕ) → old.lawful image → lawful (old.upgraded image)
  pub unchanged : (words : List ℕ) → old.version ≡ None → old.upgraded words ≡ words

-- an object without an old format takes over nothing
pub takes_over_nothing : (lines version : ℕ) (lawful : List ℕ → Type 0) → TakesOver lines version lawful no_old_format
takes_over_nothing lines version lawful = record {
  another = λ e. absurd cc;
  shape = λ image none. absurd none;
  upgrades = λ image none. absurd none;
  unchanged = λ words none. refl;
}
