-- What is read of a chain of blocks.
use Rattle.std.specs.Prelude.{◌≡◌, ◌+◌, ◌*◌, ◌/◌, ◌≤◌, ℕ, List, length, All}
use Rattle.avl_words.specs.Lines.{word_of, IsWithin}
use Rattle.index_validation.specs.Layout.{Holds}

-- a chain that holds some bytes, in `count` words with some byte in use
pub record HasChainWords (words : List ℕ) (first count : ℕ) : Type 0 where
  pub lines : List ℕ
  pub bytes : List ℕ
  pub holds : Holds words first lines bytes
  pub within : All (IsWithin words) lines
  pub counted : count ≡ (length bytes + 7) / 8

-- a node names these bytes by two of its words: the first block line, and the length
pub record IsTextAt (words : List ℕ) (node at : ℕ) (lines bytes : List ℕ) : Type 0 where
  pub holds : Holds words (word_of words node at) lines bytes
  pub long : word_of words node (at + 1) ≡ length bytes
  pub node_within : IsWithin words node
  pub within : All (IsWithin words) lines

-- a node names some bytes by two of its words, and they are at most 8n
pub record HasText (words : List ℕ) (node at n : ℕ) : Type 0 where
  pub lines : List ℕ
  pub bytes : List ℕ
  pub text : IsTextAt words node at lines bytes
  pub short : length bytes ≤ 8 * n
