-- How words stand for a store: a header, a balanced tree of nodes, chains of blocks, and a chain of given-back lines.
-- A line is 8 words; line 0 is the header, and a word that names no line is 0.
use Rattle.std.specs.Prelude.{◌≡◌, ◌+◌, ◌*◌, ◌/◌, ◌%◌, ◌<◌, ◌≤◌, ◌==◌, ◌&&◌, ◌⊎◌, nat_le, nat_lt, ℕ, List, [], ◌∷◌, ◌++◌, length, map, slice_index, count_by, if◌then◌else◌, All}
use Rattle.std.specs.List.{flat_map}
use Rattle.cx_base.specs.Store.{Store, IsStore, blocks}
use Rattle.cx_base.specs.Packing.{packed_at}
use Rattle.avl_words.specs.Tree.{Tree, items, Balanced}
use Rattle.avl_words.specs.Lines.{word_of, line_count, IsPartLength}
use Rattle.avl_words.specs.Words.{root, RepresentsTree}

-- word 0 of each line of a chain is the next line, and 0 at the end
abbrev pub IsChain : List ℕ → ℕ → List ℕ → Type 0
IsChain words first [] = first ≡ 0
IsChain words first (line ∷ lines) = (first ≡ line) × IsChain words (word_of words line 0) lines

-- A chain of blocks that holds bytes, 56 in each block: word i of the packed bytes is word 1 + i mod 7 of block i / 7.
-- Behind the last byte packed words are 0.
pub record Holds (words : List ℕ) (first : ℕ) (lines bytes : List ℕ) : Type 0 where
  pub chain : IsChain words first lines
  pub enough : length lines ≡ blocks bytes
  pub packed : (i : ℕ) → i < 7 * length lines → word_of words (slice_index lines (i / 7)) (1 + i % 7) ≡ packed_at bytes i

-- the lines of a pair: its node, and the blocks of its key and of its document; and its revision
pub record PairLayout : Type 0 where
  pub node : ℕ
  pub key_lines : List ℕ
  pub document_lines : List ℕ
  pub revision : ℕ

-- all lines of a pair: its node, the blocks of its key, and those of its document
abbrev pub lines_at : PairLayout → List ℕ
lines_at place = place.node ∷ place.key_lines ++ place.document_lines

-- a pair stands at a place; words 0 to 2 of its node are the tree's
pub record IsAt (words : List ℕ) (place : PairLayout) (pair : List ℕ × List ℕ) : Type 0 where
  pub key : Holds words (word_of words place.node 3) place.key_lines pair.0
  pub key_length : word_of words place.node 4 ≡ length pair.0
  pub document : Holds words (word_of words place.node 5) place.document_lines pair.1
  pub document_length : word_of words place.node 6 ≡ length pair.1
  pub revised : word_of words place.node 7 ≡ place.revision

-- the pairs of a store stand at places
abbrev pub Placed : List ℕ → List PairLayout → Store → Type 0
Placed words [] [] = Unit {0}
Placed words [] (pair ∷ store) = ⊥
Placed words (place ∷ places) [] = ⊥
Placed words (place ∷ places) (pair ∷ store) = IsAt words place pair × Placed words places store

-- the nodes of places
abbrev pub nodes_of : List PairLayout → List ℕ
nodes_of places = map (λ place. place.node) places

-- A balanced tree stands below a line, whose nodes in order are those of places, at which the pairs of a store stand.
pub record Nodes (words : List ℕ) (from : ℕ) (tree : Tree ℕ) (places : List PairLayout) (store : Store) : Type 0 where
  pub root_is : from ≡ root tree
  pub shape : RepresentsTree words tree
  pub balanced : Balanced tree
  pub in_order : items tree ≡ nodes_of places
  pub pairs : Placed words places store

-- what a header says of the pairs' revisions: the version of the format, and the last revision that was given
pub record RevisionHead : Type 0 where
  pub version : ℕ
  pub last : ℕ

-- what a header with this version and this last revision says
abbrev pub head_of : ℕ → ℕ → RevisionHead
head_of version last = record { version = version; last = last }

-- A header that may be: in version 1 no revision was given, and there is no version but 1 and 2.
abbrev pub IsHead : RevisionHead → Type 0
IsHead head = ((head.version ≡ 1) × (head.last ≡ 0)) ⊎ (head.version ≡ 2)

-- a revision that a pair may have: in version 1 it is 0, and in version 2 it is from 1 to the last one given
abbrev pub IsRevision : RevisionHead → ℕ → Type 0
IsRevision head revision = (head.version ≤ revision + 1) × (revision ≤ head.last)

-- each of these places has a revision that a pair may have
abbrev pub AreRevisions : RevisionHead → List PairLayout → Type 0
AreRevisions head places = All (λ place. IsRevision head place.revision) places

-- Words in which the pairs of a store stand in a tree at places, and lines are given back. While a change is made, some lines are loose: neither in use nor given back.
pub record IsLaidOut (words : List ℕ) (head : RevisionHead) (store : Store) (tree : Tree ℕ) (places : List PairLayout) (given loose : List ℕ) : Type 0 where
  pub sized : IsPartLength (length words)
  pub version_word : word_of words 0 0 ≡ head.version
  pub nodes : Nodes words (word_of words 0 1) tree places store
  pub given_back : IsChain words (word_of words 0 2) given
  pub end_from : 1 ≤ word_of words 0 3
  pub end_to : word_of words 0 3 ≤ line_count words
  -- every line from 1 to below the end is exactly one of these, once, and no other line is one
  pub once : (line : ℕ) → count_by (λ x. x == line) (flat_map lines_at places ++ given ++ loose) ≡ (if nat_le 1 line && nat_lt line (word_of words 0 3) then 1 else 0)
  pub given_count : word_of words 0 4 ≡ length given
  pub pair_count : word_of words 0 5 ≡ length store
  pub last_word : word_of words 0 6 ≡ head.last
  pub no_seventh : word_of words 0 7 ≡ 0

-- words of a version stand for a store
pub record StandsFor (words : List ℕ) (version : ℕ) (store : Store) : Type 0 where
  pub tree : Tree ℕ
  pub places : List PairLayout
  pub given : List ℕ
  pub last : ℕ
  pub arranged : IsLaidOut words (head_of version last) store tree places given []
  pub lawful : IsStore store
  pub known : IsHead (head_of version last)
  pub revisions : AreRevisions (head_of version last) places

-- words of version 2 that stand for some store
pub record IsIndex (words : List ℕ) : Type 0 where
  pub store : Store
  pub stands : StandsFor words 2 store
