-- What the calls of the index answer.
use Rattle.std.specs.Prelude.{◌≡◌, ◌+◌, ◌*◌, ◌≤◌, ℕ, List, length, All, [], ◌∷◌, Option, Some, None, MatchOption}
use Rattle.cx_base.specs.Store.{Store, IsKey, IsDocument}
use Rattle.cx_base.specs.Packing.{packed, unpacked}
use Rattle.std.specs.Option.{option_map}
use Rattle.doc_model.specs.Meaning.{document_at}
use Rattle.doc_model.specs.Revisions.{revision_at}
use Rattle.word_index.specs.Packed.{IsPacked}
use Rattle.word_index.specs.declared.texts.Key.{Key}
use Rattle.avl_words.specs.Lines.{word_of, IsPartLength}
use Rattle.index_validation.specs.Layout.{PairLayout, IsAt, lines_at, StandsFor}
use Rattle.index_validation.specs.Reading.{revised_in}

-- these bytes, packed
pub record IsPackOf (n len : ℕ) (words bytes : List ℕ) : Type 0 where
  pub long : len ≡ length bytes
  pub packs : words ≡ packed n bytes

-- a key that may be, packed
pub record IsPackedKey (name : Key) : Type 0 where
  pub key : IsPacked 8 name.len name.words
  pub is_key : IsKey (unpacked name.len name.words)

-- a key and a document that may be, packed
pub record IsPackedPair (name : Key) (len : ℕ) (words : List ℕ) : Type 0 where
  pub key : IsPackedKey name
  pub is_document : IsDocument (unpacked len words)

-- a node of this pair
pub record IsNodeOf (words : List ℕ) (node : ℕ) (pair : List ℕ × List ℕ) : Type 0 where
  pub place : PairLayout
  pub here : node ≡ place.node
  pub holds : IsAt words place pair
  pub within : All (λ line. 8 * line + 8 ≤ length words) (lines_at place)
  pub sized : IsPartLength (length words)
  pub is_key : IsKey pair.0
  pub is_document : IsDocument pair.1

-- a node of the pair with this key, and none exactly where the key is not there
abbrev pub IsFound : List ℕ → List ℕ → Option ℕ → Store → Type 0
IsFound words key found store =
    MatchOption found (document_at key store ≡ None)
    (λ node. (document : List ℕ) × (document_at key store ≡ Some document) × IsNodeOf words node (key, document))

-- a node of the pair with this key, for each store that the words stand for, and the node's word 7 is the key's revision
pub record IsFoundIn (words key : List ℕ) (found : Option ℕ) : Type 0 where
  pub node : (version : ℕ) (store : Store) → StandsFor words version store → IsFound words key found store
  pub revision : revision_at key (revised_in words) ≡ option_map (λ at. word_of words at 7) found

-- the first key of the pairs above a key, and none exactly where there are no such pairs
abbrev pub IsLeast : Option Key → Store → Type 0
IsLeast found above = MatchOption found (above ≡ []) (λ key. (pair : List ℕ × List ℕ) × (after : Store) × (above ≡ pair ∷ after) × IsPackOf 8 key.len key.words pair.0)
