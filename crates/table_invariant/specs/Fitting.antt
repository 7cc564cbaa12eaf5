-- What a caller noted of the replicas that it holds tells of their words: which words they may have had first, and which they
-- then have now.
use Rattle.std.specs.Prelude.{false, ◌≡◌, ◌+◌, ◌*◌, ◌<◌, ◌≤◌, ◌⊎◌, ◌==◌, if◌then◌else◌, ℕ, List, [], ◌∷◌, length, map, slice_get, slice_index, Option, Some, None}
use Rattle.cx_base.specs.Noted.{Note, NotesLead}
use Rattle.cx_core.specs.declared.entry.Base.{Base}
use Rattle.cx_core.specs.declared.entry.Entry.{Entry}
use Rattle.cx_core.specs.declared.local.Cell.{Cell}
use Rattle.cx_core.specs.declared.local.HeldShared.{HeldShared}
use Rattle.cx_core.specs.declared.local.Linked.{Linked}
use Rattle.cx_core.specs.Base.{LawfulBase}
use Rattle.cx_core.specs.History.{IsLawfulEntry}
use Rattle.cx_core.specs.Region.{place_of}
use Rattle.cx_core.specs.Step.{full_step_of}
use Rattle.cx_core.specs.WriteSet.{stored}
use Rattle.core_queue.specs.NotedSets.{IsNotedSet}
use Rattle.table_invariant.specs.declared.rule.KeptSet.{KeptSet}
use Rattle.table_invariant.specs.declared.rule.Known.{Known}
use Rattle.table_invariant.specs.declared.rule.Noted.{Noted}
use Rattle.table_invariant.specs.Seats.{place_noted}

-- words as a base
abbrev pub base_of : List ℕ → Base
base_of words = record { place = place_of words; words = words }

-- A pair of lists fits the accesses of a replica held exclusively: the first is lawful as a base, at a place from the base's
-- on, and the accesses lead from it to the second.
pub record IsConsistentWith (lines : ℕ) (lawful : List ℕ → Type 0) (base : Base) (accesses : List Note) (first now : List ℕ) : Type 0 where
  pub origin : LawfulBase lines lawful (base_of first)
  pub from : base.place ≤ place_of first
  pub leads : NotesLead accesses first now

-- the words loaded of a replica held shared, as accesses
abbrev pub loads_of : List (ℕ × ℕ) → List Note
loads_of loaded = map (λ (x : ℕ × ℕ). (false, x.0, x.1)) loaded

-- A pair of lists fits the words loaded of a replica held shared, which nobody stores to: the first is lawful as a base, at a place from the base's on, and
-- has those words, and the second is the first.
pub record ReadFits (lines : ℕ) (lawful : List ℕ → Type 0) (base : Base) (loaded : List (ℕ × ℕ)) (first now : List ℕ) : Type 0 where
  pub fits : IsConsistentWith lines lawful base (loads_of loaded) first now
  pub same : now ≡ first

-- the accesses tell this word of a replica that has this number of words
abbrev pub TellsWord : ℕ → List Note → ℕ → ℕ → Type 0
TellsWord region accesses at word = (first now : List ℕ) → length first ≡ region → NotesLead accesses first now → slice_index now at ≡ word

-- some pair of lists fits the words loaded of a replica held shared
abbrev pub SomeReadFits : ℕ → (List ℕ → Type 0) → Base → List (ℕ × ℕ) → Type 0
SomeReadFits lines lawful base loaded = ∥ ((first : List ℕ) × (now : List ℕ) × ReadFits lines lawful base loaded first now) ∥₁

-- each word of an entry is noted with a ticket
pub record IsNoted (noted : List Noted) (ticket : ℕ) (entry : Entry) : Type 0 where
  pub long : length entry.op ≡ 144
  pub each : (i : ℕ) → i < 145 → (n : ℕ) × (slice_get noted n ≡ Some (record { ticket = ticket; caller = entry.caller; index = i; word = slice_index (entry.number ∷ entry.op) i }))

-- the words loaded of the replica that is held shared
abbrev pub loaded_of : Option HeldShared → List (ℕ × ℕ)
loaded_of None = []
loaded_of (Some h) = h.loaded

-- the word at a place that accesses loaded or stored last, where this one was known before
abbrev pub word_noted : Option ℕ → ℕ → List Note → Option ℕ
word_noted word i [] = word
word_noted word i ((stores, at, v) ∷ accesses) = word_noted (if at == i then Some v else word) i accesses

-- Each word below n of the replica held shared was loaded, and it is the word noted last of the replica held exclusively. So
-- the two agree below n, whatever fits the notes.
abbrev pub AgreeTo : Known → ℕ → Type 0
AgreeTo known n = (i : ℕ) → i < n → (word : ℕ) × (word_noted None i known.accesses ≡ Some word) × (word_noted None i (loads_of (loaded_of known.local.shared)) ≡ Some word)

-- Each of the n words of the replica held shared was loaded, and these are they.
pub record TellsWords (known : Known) (n : ℕ) (words : List ℕ) : Type 0 where
  pub long : length words ≡ n
  pub each : (i : ℕ) → i < n → word_noted None i (loads_of (loaded_of known.local.shared)) ≡ Some (slice_index words i)

-- The words now are those first after noted entries and write sets, of the tickets from the place first on to below a place,
-- in order.
pub data Chain (step : List ℕ → List ℕ → List ℕ × List ℕ) (has_entry : ℕ → Entry → Type 0) (has_set : ℕ → List ℕ → Type 0) (first : List ℕ) : ℕ → List ℕ → Type 0 where
  start : (place : ℕ) (now : List ℕ) → place ≡ place_of first → now ≡ first → Chain step has_entry has_set first place now
  with_entry : (place : ℕ) (now : List ℕ) (ticket : ℕ) (before : List ℕ) (entry : Entry) → place ≡ ticket + 1 → now ≡ full_step_of step entry before → has_entry ticket entry → Chain step has_entry has_set first ticket before → Chain step has_entry has_set first place now
  with_set : (place : ℕ) (now : List ℕ) (ticket : ℕ) (before set : List ℕ) → place ≡ ticket + 1 → now ≡ stored (slice_index set 0) set before → has_set ticket set → Chain step has_entry has_set first ticket before → Chain step has_entry has_set first place now

-- an own entry has the ticket
pub record IsOwn (own : List Linked) (ticket : ℕ) (entry : Entry) : Type 0 where
  pub i : ℕ
  pub at : slice_get own i ≡ Some (record { ticket = ticket; entry = entry })

-- the entries that a caller has: those that it noted, and its own
abbrev pub entries_of : Known → List Noted × List Linked
entries_of known = (known.noted, known.local.own)

-- an entry is noted whole with a ticket, or an own one has it
abbrev pub HasEntry : List Noted × List Linked → ℕ → Entry → Type 0
HasEntry entries ticket entry = IsNoted entries.0 ticket entry ⊎ IsOwn entries.1 ticket entry

-- which entries and which sets a seat has, by tickets
pub record Has : Type 1 where
  pub entry : ℕ → Entry → Type 0
  pub set : ℕ → List ℕ → Type 0

-- an own cell that has the ticket is offered with it, and this is its set
pub record IsOwnSet (cells : List Cell) (ticket : ℕ) (set : List ℕ) : Type 0 where
  pub j : ℕ
  pub cell : Cell
  pub at : slice_get cells j ≡ Some cell
  pub named : cell.ticket ≡ Some ticket
  pub offered : cell.offer ≡ ticket + 1
  pub is : cell.set ≡ set

-- this set was kept with the ticket
abbrev pub IsKeptSet : List KeptSet → ℕ → List ℕ → Type 0
IsKeptSet kept ticket set = (n : ℕ) × (slice_get kept n ≡ Some (record { ticket = ticket; set = set }))

-- what a seat has: what it read whole, and what is its caller's own
abbrev pub has_of : Known → Has
has_of known = record {
  entry = HasEntry (entries_of known);
  set = λ t s. IsNotedSet known.sets t s ⊎ (IsOwnSet known.local.cells t s ⊎ IsKeptSet known.kept t s);
}

-- from the first words on, what a seat has leads to the words now, which are at this place
abbrev pub ReplayedTo : (List ℕ → List ℕ → List ℕ × List ℕ) → Has → List ℕ → ℕ → List ℕ → Type 0
ReplayedTo step has = Chain step has.entry has.set

-- The accesses lead from the first list to the second, and whatever the entries and sets that a seat has lead to from the first is lawful
-- as a base at its place. So a list fits that stays lawful through what was applied.
pub record FitsOn (lines : ℕ) (lawful : List ℕ → Type 0) (base : Base) (step : List ℕ → List ℕ → List ℕ × List ℕ) (has : Has) (accesses : List Note) (first now : List ℕ) : Type 0 where
  pub fits : IsConsistentWith lines lawful base accesses first now
  pub stays : (place : ℕ) (mid : List ℕ) → ReplayedTo step has first place mid → LawfulBase lines lawful (record { place = place; words = mid })

-- a pair fits what a seat knows of the replica that its caller holds exclusively or held so last
abbrev pub FitsKnown : ℕ → (List ℕ → Type 0) → Base → (List ℕ → List ℕ → List ℕ × List ℕ) → Known → List ℕ → List ℕ → Type 0
FitsKnown lines lawful base step known = FitsOn lines lawful base step (has_of known) known.accesses

-- some pair does
abbrev pub SomeFits : ℕ → (List ℕ → Type 0) → Base → (List ℕ → List ℕ → List ℕ × List ℕ) → Known → Type 0
SomeFits lines lawful base step known = ∥ ((first : List ℕ) × (now : List ℕ) × FitsKnown lines lawful base step known first now) ∥₁

-- a set has at most 256 pairs, each with the address of a word of a region of this size
pub record IsSetWithin (size : ℕ) (set : List ℕ) : Type 0 where
  pub few : slice_index set 0 ≤ 256
  pub within : (m : ℕ) → m < slice_index set 0 → slice_index set (2 * m + 1) < size

-- Some pair fits what a caller noted: of the replica that it holds exclusively or held so last, and of one that it holds
-- shared. What is really there does. And each entry that it noted whole is lawful at its ticket, and each set that it has is one of a region.
pub record Fitting (lines : ℕ) (lawful : List ℕ → Type 0) (base : Base) (step : List ℕ → List ℕ → List ℕ × List ℕ) (known : Known) : Type 0 where
  pub exclusive : SomeFits lines lawful base step known
  pub shared : (h : HeldShared) → known.local.shared ≡ Some h → SomeReadFits lines lawful base h.loaded
  pub entries : (ticket : ℕ) (entry : Entry) → base.place ≤ ticket → IsNoted known.noted ticket entry → IsLawfulEntry ticket entry
  pub sets : (ticket : ℕ) (set : List ℕ) → base.place ≤ ticket → (has_of known).set ticket set → IsSetWithin (length base.words) set

-- whatever fits the notes, the words of the replica held exclusively are those of the replica held shared
abbrev pub AreEqual : ℕ → (List ℕ → Type 0) → Base → (List ℕ → List ℕ → List ℕ × List ℕ) → Known → Type 0
AreEqual lines lawful base step known =
    (first now from read : List ℕ) → FitsKnown lines lawful base step known first now → ReadFits lines lawful base (loaded_of known.local.shared) from read → now ≡ read

-- whatever pair of lists fits what a seat knows, the entries and the write sets that the seat has lead from the first list to the second
-- (`ReplayedTo`)
abbrev pub IsReplayed : ℕ → (List ℕ → Type 0) → Base → (List ℕ → List ℕ → List ℕ × List ℕ) → Known → Type 0
IsReplayed lines lawful base step known = (first now : List ℕ) → FitsKnown lines lawful base step known first now → (place : ℕ) × ReplayedTo step (has_of known) first place now

-- Whatever pair of lists fits what a seat knows, the entries and the write sets that the seat has lead from the first list to the second
-- (`ReplayedTo`), and the second is at the place that was last loaded or stored.
abbrev pub IsReplayedToPlace : ℕ → (List ℕ → Type 0) → Base → (List ℕ → List ℕ → List ℕ × List ℕ) → Known → Type 0
IsReplayedToPlace lines lawful base step known = (first now : List ℕ) → FitsKnown lines lawful base step known first now → ReplayedTo step (has_of known) first (place_noted 0 known.accesses) now
