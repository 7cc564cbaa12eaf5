-- An image in words of one region.
use Rattle.std.specs.Prelude.{◌≡◌, ◌+◌, ◌<◌, ℕ, List, length, slice_index}
use Rattle.cx_base.specs.Codes.{root_code_of}
use Rattle.cx_core.specs.declared.entry.Base.{Base}
use Rattle.cx_core.specs.Region.{region_words}
use Rattle.c_images.specs.Words.{HasHead}

-- a region at a place, as a base
abbrev pub base_at : ℕ → List ℕ → Base
base_at place region = record { place = place; words = region }

-- words of an image of an object of this kind, of one region at this place, with the root at the first replica
pub record IsWrittenOf (kind callers lines place : ℕ) (region words : List ℕ) : Type 0 where
  pub head : HasHead 2 kind callers lines (root_code_of callers place 0) words
  pub long : length words ≡ region_words lines + 8
  pub each : (at : ℕ) → at < region_words lines → slice_index words (at + 8) ≡ slice_index region at
