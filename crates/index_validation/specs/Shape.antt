-- Whether any words have the shape of a balanced tree of the given number of nodes.
use Rattle.std.specs.Prelude.{◌≡◌, ◌+◌, ◌≤◌, max, ℕ, List}
use Rattle.avl_words.specs.Tree.{Tree, size, IsLevel, Balanced}
use Rattle.avl_words.specs.Lines.{word_of, IsWithin}
use Rattle.avl_words.specs.Words.{root, RepresentsTree}
use Rattle.avl_words.specs.Links.{high_of}

-- below a line stands a balanced tree of `count` nodes
pub record HasShape (words : List ℕ) (line count : ℕ) : Type 0 where
  pub tree : Tree ℕ
  pub stands : RepresentsTree words tree
  pub balanced : Balanced tree
  pub root_is : root tree ≡ line
  pub counted : size tree ≡ count

-- a node that is right as far as its own line and its children's heights say
pub record IsGood (words : List ℕ) (line : ℕ) : Type 0 where
  pub some : 1 ≤ line
  pub within : IsWithin words line
  pub height_is : word_of words line 2 ≡ 1 + max (high_of (word_of words line 0) words) (high_of (word_of words line 1) words)
  pub level : IsLevel (high_of (word_of words line 0) words) (high_of (word_of words line 1) words)
