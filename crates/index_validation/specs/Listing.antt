-- Pairs that are listed one by one.
use Rattle.std.specs.Prelude.{◌<◌, ◌≤◌, ℕ, List, length, All}
use Rattle.index_validation.specs.Blocks.{IsTextAt}

-- a node names some bytes, at most 1,024
pub record HasPlainText (words : List ℕ) (node at : ℕ) : Type 0 where
  pub lines : List ℕ
  pub bytes : List ℕ
  pub text : IsTextAt words node at lines bytes
  pub short : length bytes ≤ 1024
  pub plain : All (λ b. b < 256) bytes
