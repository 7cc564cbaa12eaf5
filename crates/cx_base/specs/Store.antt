-- A store: pairs of a key and a document, and the room that they take.
use Rattle.std.specs.Prelude.{◌≡◌, ◌+◌, ◌/◌, ◌<◌, ◌≤◌, ℕ, List, [], ◌∷◌, length, sum_by, All}
use Rattle.std.specs.Cmp.Lexicographic.{slice_cmp}
use Rattle.std.specs.Ordering.{nat_cmp}
use Rattle.std.specs.declared.cmp.Ordering.{Ordering}
use Rattle.std.specs.declared.cmp.Ordering.TheVariants.{Less}

-- Pairs (key, document), each a list of bytes.
abbrev pub Store : Type 0
Store = List (List ℕ × List ℕ)

-- Keys are ordered byte by byte, and a key comes before one that goes on.
abbrev pub key_cmp : List ℕ → List ℕ → Ordering
key_cmp = slice_cmp nat_cmp

-- what a key may be: 1 to 64 visible ASCII characters
pub record IsKey (key : List ℕ) : Type 0 where
  pub some : 1 ≤ length key
  pub short : length key ≤ 64
  pub visible : All (λ b. (33 ≤ b) × (b ≤ 126)) key

-- what a document may be: 1 to 1,024 bytes, none a control character
pub record IsDocument (document : List ℕ) : Type 0 where
  pub some : 1 ≤ length document
  pub short : length document ≤ 1024
  pub plain : All (λ b. (32 ≤ b) × (b < 256)) document

-- each key is below those after it
abbrev pub KeysRise : Store → Type 0
KeysRise [] = Unit {0}
KeysRise (p ∷ store) = All (λ q. key_cmp p.0 q.0 ≡ Less) store × KeysRise store

-- a list of pairs with rising keys, within the limits
pub record IsStore (store : Store) : Type 0 where
  pub rising : KeysRise store
  pub keys : All (λ p. IsKey p.0) store
  pub documents : All (λ p. IsDocument p.1) store

-- the block lines that a key or a document takes, 56 bytes in each
abbrev pub blocks : List ℕ → ℕ
blocks bytes = (length bytes + 55) / 56

-- the lines of a pair: its node, the key's blocks and the document's
abbrev pub pair_lines : List ℕ × List ℕ → ℕ
pair_lines p = 1 + blocks p.0 + blocks p.1

-- the lines that a store takes
abbrev pub lines_of : Store → ℕ
lines_of store = sum_by pair_lines store
