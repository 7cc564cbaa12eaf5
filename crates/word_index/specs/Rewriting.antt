-- A document is put in another's place.
use Rattle.std.specs.Prelude.{◌≡◌, ◌≢◌, ◌↔◌, ◌+◌, ◌≤◌, ℕ, Bool, IsTrue, List, [], ◌∷◌, ◌++◌, length, All}
use Rattle.cx_base.specs.Store.{Store, blocks, pair_lines, lines_of}
use Rattle.avl_words.specs.Tree.{Tree}
use Rattle.avl_words.specs.Lines.{word_of, line_count, IsWithin}
use Rattle.index_validation.specs.Layout.{IsChain, PairLayout, Placed, RevisionHead, IsLaidOut}
use Rattle.word_index.specs.Exact.{document_blocks}

-- a chain of `count` lines that are there
pub record HasLines (words : List ℕ) (first count : ℕ) : Type 0 where
  pub lines : List ℕ
  pub chain : IsChain words first lines
  pub counted : count ≡ length lines
  pub within : All (IsWithin words) lines

-- the pair of a node, with room for a document in place of its own
pub record CanRewrite (words : List ℕ) (node : ℕ) (document : List ℕ) : Type 0 where
  pub head : RevisionHead
  pub tree : Tree ℕ
  pub lower : Store
  pub after : Store
  pub pair : List ℕ × List ℕ
  pub front : List PairLayout
  pub rest : List PairLayout
  pub place : PairLayout
  pub given : List ℕ
  pub here : node ≡ place.node
  pub arranged : IsLaidOut words head (lower ++ pair ∷ after) tree (front ++ place ∷ rest) given []
  pub placed_front : Placed words front lower
  pub room : lines_of lower + pair_lines (pair.0, document) + lines_of after + 1 ≤ line_count words

-- the pair of a node, with room for a document that needs as many blocks as the node's own
pub record CanRefit (words : List ℕ) (node : ℕ) (document : List ℕ) : Type 0 where
  pub can : CanRewrite words node document
  pub alike : document_blocks node words ≡ blocks document

-- the pair of a node, with room for a document that needs more or fewer blocks than the node's own
pub record CanRenew (words : List ℕ) (node : ℕ) (document : List ℕ) : Type 0 where
  pub can : CanRewrite words node document
  pub unlike : document_blocks node words ≢ blocks document

-- the pair of a node, with room for a document, and whether that needs as many blocks as the node's own
pub record CanExchange (words : List ℕ) (node : ℕ) (alike : Bool) (document : List ℕ) : Type 0 where
  pub can : CanRewrite words node document
  pub is_alike : IsTrue alike ↔ (document_blocks node words ≡ blocks document)

-- the document of a pair's node stands in a chain of `count` blocks from `first`, and there is room for another in its place
pub record IsOld (words : List ℕ) (node first count : ℕ) (document : List ℕ) : Type 0 where
  pub can : CanRewrite words node document
  pub first_is : word_of words node 5 ≡ first
  pub counted : document_blocks node words ≡ count
