-- What a check finds in words that may be anything: each line that it reaches is marked, so that none is used twice.
use Rattle.std.specs.Prelude.{◌≡◌, ◌+◌, ◌*◌, ◌/◌, ◌%◌, ◌<◌, ◌≤◌, ◌==◌, nat_lt, ℕ, Bool, false, List, ◌++◌, length, slice_index, take, count_by, slice_index_or, if◌then◌else◌, All}
use Rattle.std.specs.List.{flat_map}
use Rattle.std.specs.declared.cmp.Ordering.TheVariants.{Less}
use Rattle.cx_base.specs.Store.{Store, IsStore, IsKey, IsDocument, key_cmp}
use Rattle.index_validation.specs.Order.{nodes_in_order}
use Rattle.index_validation.specs.Shape.{HasShape}
use Rattle.avl_words.specs.Lines.{word_of, line_count, IsPartLength, IsWithin}
use Rattle.index_validation.specs.Layout.{IsChain, Holds, PairLayout, lines_at, IsAt, Placed, nodes_of, RevisionHead, head_of, IsHead, IsRevision, AreRevisions, StandsFor}

-- what the header says of revisions, whatever the words are
abbrev pub head_in : List ℕ → RevisionHead
head_in words = head_of (word_of words 0 0) (word_of words 0 6)

-- words stand for some store with this version
abbrev pub IsLawful : List ℕ → ℕ → Type 0
IsLawful words version = (store : Store) × StandsFor words version store

-- words stand for one store and no other, with this version and no other
pub record HasOneStore (words : List ℕ) (version : ℕ) : Type 0 where
  pub store : Store
  pub stands : StandsFor words version store
  pub only_store : (other : ℕ) (more : Store) → StandsFor words other more → more ≡ store
  pub only_version : (other : ℕ) (more : Store) → StandsFor words other more → other ≡ version

-- how often a line stands in a list
abbrev pub count_of : ℕ → List ℕ → ℕ
count_of line lines = count_by (λ x. x == line) lines

-- 1 where a line is marked
abbrev pub mark_of : List Bool → ℕ → ℕ
mark_of marks line = if slice_index_or marks line false then 1 else 0

-- these lines are marked now, beside those that were
pub record Marks (old : List Bool) (lines : List ℕ) (now : List Bool) : Type 0 where
  pub long : length now ≡ length old
  pub are : (line : ℕ) → mark_of now line ≡ count_of line lines + mark_of old line

-- each of these lines has a mark that is not set yet, and stands in the list once
pub record CanMark (marks : List Bool) (lines : List ℕ) : Type 0 where
  pub once : (line : ℕ) → count_of line lines + mark_of marks line ≤ (if nat_lt line (length marks) then 1 else 0)

-- a line is marked, or none of the lines that can be marked
abbrev pub IsLineMarked : List Bool → ℕ → Type 0
IsLineMarked marks line = (lines : List ℕ) → CanMark marks lines → count_of line lines ≡ 0

-- a chain of `count` lines, which are marked
pub record HasChain (words : List ℕ) (first count : ℕ) (old now : List Bool) : Type 0 where
  pub lines : List ℕ
  pub chain : IsChain words first lines
  pub counted : length lines ≡ count
  pub marks : Marks old lines now

-- no chain of `count` lines from `first` can be marked
abbrev pub NoChain : List ℕ → ℕ → ℕ → List Bool → Type 0
NoChain words first count old = (lines : List ℕ) → IsChain words first lines → length lines ≡ count → CanMark old lines → ⊥

-- a chain of `count` lines, all of them there
pub record HasBlocks (words : List ℕ) (first count : ℕ) : Type 0 where
  pub lines : List ℕ
  pub chain : IsChain words first lines
  pub counted : length lines ≡ count
  pub within : All (IsWithin words) lines

-- the seven words of each block of a chain stand in a row, and zeros behind them
pub record IsContent (words : List ℕ) (lines content : List ℕ) : Type 0 where
  pub front : (i : ℕ) → i < 7 * length lines → slice_index content i ≡ word_of words (slice_index lines (i / 7)) (1 + i % 7)
  pub behind : (i : ℕ) → 7 * length lines ≤ i → slice_index content i ≡ 0

-- bytes from one number to another
abbrev pub AreBytesBetween : ℕ → ℕ → ℕ → Type 0
AreBytesBetween least most byte = (least ≤ byte) × (byte ≤ most)

-- the first bytes are within these limits, and the others are 0
pub record IsFilled (bytes : List ℕ) (len least most : ℕ) : Type 0 where
  pub front : All (AreBytesBetween least most) (take len bytes)
  pub behind : (i : ℕ) → len ≤ i → slice_index bytes i ≡ 0

-- a text in a chain of blocks, which are marked
pub record ReadsText (words : List ℕ) (first len least most : ℕ) (old now : List Bool) (text : List ℕ) : Type 0 where
  pub lines : List ℕ
  pub holds : Holds words first lines text
  pub long : length text ≡ len
  pub limits : All (AreBytesBetween least most) text
  pub marks : Marks old lines now

-- no text of this length, of bytes within these limits, stands in a chain from `first` that can be marked
abbrev pub NoText : List ℕ → ℕ → ℕ → ℕ → ℕ → List Bool → Type 0
NoText words first len least most old =
    (lines text : List ℕ) → Holds words first lines text → length text ≡ len → All (AreBytesBetween least most) text → CanMark old lines → ⊥

-- a node has this key, whose blocks are marked
pub record HasKey (words : List ℕ) (node : ℕ) (old now : List Bool) (key : List ℕ) : Type 0 where
  pub lines : List ℕ
  pub holds : Holds words (word_of words node 3) lines key
  pub long : word_of words node 4 ≡ length key
  pub is_key : IsKey key
  pub marks : Marks old lines now

-- a node has no key whose blocks can be marked
abbrev pub NoKey : List ℕ → ℕ → List Bool → Type 0
NoKey words node old = (lines key : List ℕ) → Holds words (word_of words node 3) lines key → word_of words node 4 ≡ length key → IsKey key → CanMark old lines → ⊥

-- a node has a document, whose blocks are marked
pub record HasDocument (words : List ℕ) (node : ℕ) (old now : List Bool) : Type 0 where
  pub lines : List ℕ
  pub document : List ℕ
  pub holds : Holds words (word_of words node 5) lines document
  pub long : word_of words node 6 ≡ length document
  pub is_document : IsDocument document
  pub marks : Marks old lines now

-- a node has no document whose blocks can be marked
abbrev pub NoDocument : List ℕ → ℕ → List Bool → Type 0
NoDocument words node old = (lines document : List ℕ) → Holds words (word_of words node 5) lines document → word_of words node 6 ≡ length document → IsDocument document → CanMark old lines → ⊥

-- the node of a pair whose key is above another, with all its lines marked
pub record HasPair (words : List ℕ) (node : ℕ) (last : List ℕ) (old now : List Bool) (key : List ℕ) : Type 0 where
  pub place : PairLayout
  pub document : List ℕ
  pub here : node ≡ place.node
  pub is : IsAt words place (key, document)
  pub is_revision : IsRevision (head_in words) place.revision
  pub is_key : IsKey key
  pub is_document : IsDocument document
  pub rises : key_cmp last key ≡ Less
  pub marks : Marks old (lines_at place) now

-- a node is that of no pair whose key is above another and all of whose lines can be marked
abbrev pub NoPair : List ℕ → ℕ → List ℕ → List Bool → Type 0
NoPair words node last old =
    (place : PairLayout) (pair : List ℕ × List ℕ) → node ≡ place.node → IsAt words place pair → IsRevision (head_in words) place.revision → IsKey pair.0 → IsDocument pair.1 → key_cmp last pair.0 ≡ Less → CanMark old (lines_at place) → ⊥

-- the nodes of the tree, in order, are those of the pairs of a store, with all their lines marked
pub record HasNodes (words : List ℕ) (old now : List Bool) : Type 0 where
  pub places : List PairLayout
  pub store : Store
  pub placed : Placed words places store
  pub nodes : nodes_of places ≡ nodes_in_order (word_of words 0 1) words
  pub lawful : IsStore store
  pub revisions : AreRevisions (head_in words) places
  pub marks : Marks old (flat_map lines_at places) now

-- the nodes of the tree, in order, are those of no store's pairs all of whose lines can be marked
abbrev pub NoNodes : List ℕ → List Bool → Type 0
NoNodes words old =
    (places : List PairLayout) (store : Store) → Placed words places store → nodes_of places ≡ nodes_in_order (word_of words 0 1) words → IsStore store → AreRevisions (head_in words) places → CanMark old (flat_map lines_at places) → ⊥

-- the words of a header that name no line
pub record IsHeader (words : List ℕ) (version : ℕ) : Type 0 where
  pub sized : IsPartLength (length words)
  pub version_word : word_of words 0 0 ≡ version
  pub end_from : 1 ≤ word_of words 0 3
  pub end_to : word_of words 0 3 ≤ line_count words
  pub known : IsHead (head_in words)
  pub no_seventh : word_of words 0 7 ≡ 0

-- a balanced tree of as many nodes as the header says, fewer than there are lines
pub record HasRoot (words : List ℕ) : Type 0 where
  pub few : word_of words 0 5 < word_of words 0 3
  pub shape : HasShape words (word_of words 0 1) (word_of words 0 5)

-- there is a header, a tree, and a line for each mark
pub record CanCheck (words : List ℕ) (marks : List Bool) : Type 0 where
  pub sized : IsPartLength (length words)
  pub few : word_of words 0 5 < line_count words
  pub shape : HasShape words (word_of words 0 1) (word_of words 0 5)
  pub there : 8 * length marks ≤ length words

-- the pairs of a store at the tree's nodes and the given-back lines, as many as the header says, are the lines without
-- a mark, each once
pub record AreLinesLawful (words : List ℕ) (marks : List Bool) : Type 0 where
  pub places : List PairLayout
  pub store : Store
  pub given : List ℕ
  pub placed : Placed words places store
  pub nodes : nodes_of places ≡ nodes_in_order (word_of words 0 1) words
  pub lawful : IsStore store
  pub revisions : AreRevisions (head_in words) places
  pub given_back : IsChain words (word_of words 0 2) given
  pub given_counted : length given ≡ word_of words 0 4
  pub once : (line : ℕ) → count_of line (flat_map lines_at places ++ given) + mark_of marks line ≡ (if nat_lt line (length marks) then 1 else 0)
