-- The rule of the table, which holds between any two steps of any callers: there is a lawful state of the core whose words
-- are the table's and whose local states are what the seats show.
use Rattle.std.specs.Prelude.{◌≡◌, ◌+◌, ◌*◌, ◌^◌, ◌<◌, ◌≤◌, ◌⊎◌, ℕ, List, [], ◌∷◌, ◌++◌, Some, length, map, slice_get, slice_index}
use mathlib.Core.Option.{some}
use lib.ListN.{get_elem?}
use Rattle.atomic_table.specs.Table as atomic
use Rattle.cx_base.specs.Codes.{root_place_of}
use Rattle.cx_base.specs.Memory.{Words}
use Rattle.cx_base.specs.Noted.{Note, NotesLead}
use Rattle.cx_core.specs.declared.entry.Entry.{Entry}
use Rattle.cx_core.specs.declared.kinds.Event.{Event}
use Rattle.cx_core.specs.declared.local.Answer.{Answer}
use Rattle.cx_core.specs.declared.local.HeldDowngraded.{HeldDowngraded}
use Rattle.cx_core.specs.declared.local.HeldExclusive.{HeldExclusive}
use Rattle.cx_core.specs.declared.local.HeldShared.{HeldShared}
use Rattle.cx_core.specs.declared.local.Local.{Local}
use Rattle.cx_core.specs.declared.local.SeenRead.{SeenRead}
use Rattle.cx_core.specs.Events.{Run}
use Rattle.cx_core.specs.Gaps.{IsGap, gap_of}
use Rattle.cx_core.specs.History.{full_image}
use Rattle.cx_core.specs.Lawful.{Lawful, LocalShape, OwnTickets}
use Rattle.cx_core.specs.LawfulLocks.{FewRights}
use Rattle.cx_core.specs.Merge.{IsLinked}
use Rattle.cx_core.specs.Region.{place_of, slot_number}
use Rattle.cx_core.specs.Shown.{shown}
use Rattle.cx_core.specs.State.{EachLocal, Instance, State, opening_words}
use Rattle.cx_core.specs.WriteSet.{IsWriteSetOf}
use Rattle.core_queue.specs.NotedSets.{OwnSetsHold, SetNotesHold}
use Rattle.table_invariant.specs.declared.rule.KeptSet.{KeptSet}
use Rattle.table_invariant.specs.declared.rule.Known.{Known}
use Rattle.table_invariant.specs.declared.rule.Noted.{Noted}
use Rattle.table_invariant.specs.Fitting.{IsKeptSet, has_of, loads_of}
use Rattle.table_invariant.specs.Having.{IsOfHistory}
use Rattle.table_invariant.specs.Seats.{opening_view}
use Rattle.table_invariant.specs.Timing.{AreTimes}

-- a noted word is the history's. With a ticket below the base's place, which no entry has, it says nothing.
pub record IsOfEntry (instance : Instance) (history : List Entry) (noted : Noted) : Type 0 where
  pub entry : Entry
  pub linked : IsLinked instance.base.place history noted.ticket entry
  pub caller : entry.caller ≡ noted.caller
  pub word : slice_index (entry.number ∷ entry.op) noted.index ≡ noted.word

-- what was noted is so: words 0 to 144 are those of an entry; any other is a word of the ring of gaps, with the slot as its ticket
pub record IsTrueNote (instance : Instance) (history : List Entry) (noted : Noted) : Type 0 where
  pub entry : noted.index < 145 → instance.base.place ≤ noted.ticket → IsOfEntry instance history noted
  pub gap : 145 ≤ noted.index → IsGap instance history (gap_of instance.callers noted.ticket noted.word)

-- each noted word is so in the history
abbrev pub NotesHold : Instance → List Entry → List Noted → Type 0
NotesHold instance history notes = (n : ℕ) (noted : Noted) → slice_get notes n ≡ Some noted → IsTrueNote instance history noted

-- a region has the words of the full image after its place, which is between the base's and the end of the history
pub record IsOrigin (instance : Instance) (history : List Entry) (region : List ℕ) : Type 0 where
  pub from : instance.base.place ≤ place_of region
  pub to : place_of region ≤ instance.base.place + length history
  pub long : length region ≡ length instance.base.words
  pub words : (i : ℕ) → i < length instance.base.words → slice_index region i ≡ slice_index (full_image instance.step instance.base history (place_of region)) i

-- images are those of the history after their places
abbrev pub AreImages : Instance → List Entry → List (List ℕ) → Type 0
AreImages instance history images = (i : ℕ) (words : List ℕ) → slice_get images i ≡ Some words → IsOrigin instance history words

-- no image is added to them, or one
abbrev pub AddsImage : Instance → List Entry → List (List ℕ) → List (List ℕ) → Type 0
AddsImage instance history before after = (after ≡ before) ⊎ ((words : List ℕ) × (after ≡ before ++ words ∷ []) × IsOrigin instance history words)

-- accesses lead on from a full image, and where a replica is held exclusively, to its words
pub record IsTraced (instance : Instance) (history : List Entry) (accesses : List Note) (l : Local) : Type 0 where
  pub first : List ℕ
  pub now : List ℕ
  pub origin : IsOrigin instance history first
  pub leads : NotesLead accesses first now
  pub held : (h : HeldExclusive) → l.exclusive ≡ Some h → now ≡ h.words

-- what a seat knows of a caller is so: it shows the caller's local state, which no other place of any view shows, the noted
-- words are the history's, and the accesses are those of the replica held exclusively
pub record IsKnown (instance : Instance) (history : List Entry) (locals : List Local) (place_of : ℕ → ℕ × ℕ) (seat i : ℕ) (known : Known) : Type 0 where
  pub local : Local
  pub of_caller : slice_get locals known.local.number ≡ Some local
  pub shows : known.local ≡ shown local
  pub only : place_of known.local.number ≡ (seat, i)
  pub notes : NotesHold instance history known.noted
  pub traced : IsTraced instance history known.accesses local

-- what is downgraded is a replica that there is, at a place that histories reach
pub record IsPlacedRight (instance : Instance) (h : HeldDowngraded) : Type 0 where
  pub replica : h.replica < 2 * instance.callers
  pub place : h.place ≤ 2 ^ 40

-- What the lawful state says of a caller's local state by itself. Each answer has a ticket below the floor, and each read that was
-- answered a place at most the floor.
pub record IsLawfulLocal (instance : Instance) (l : Local) : Type 0 where
  pub shape : LocalShape l.number l
  pub tickets : OwnTickets instance l.number l
  pub from : instance.base.place ≤ l.front
  pub to : l.front ≤ 2 ^ 40
  pub floor : l.floor ≤ l.front
  pub cur : root_place_of instance.callers l.seen_cur ≤ l.front
  pub floor_cur : l.floor ≤ root_place_of instance.callers l.seen_cur
  pub few : FewRights instance.callers l
  pub downgraded : (h : HeldDowngraded) → l.downgraded ≡ Some h → IsPlacedRight instance h
  pub answered : (i : ℕ) (x : Answer) → slice_get l.answered i ≡ Some x → x.ticket < l.floor
  pub reads : (i : ℕ) (x : SeenRead) → slice_get l.seen_reads i ≡ Some x → x.place ≤ l.floor

-- the entries of a history, by their callers' numbers in the base
pub record IsEntryFrom (instance : Instance) (i : ℕ) (entry : Entry) : Type 0 where
  pub caller : entry.caller < 8
  pub some : 0 < entry.number
  pub most : entry.number ≤ slot_number entry.caller instance.base.words + i + 1
  pub op : Words 144 entry.op

-- words are the full image after their place of some history of entries
pub record IsImageOfSome (instance : Instance) (image : List ℕ) : Type 0 where
  pub history : List Entry
  pub small : instance.base.place + length history ≤ 2 ^ 40
  pub entries : (i : ℕ) (entry : Entry) → slice_get history i ≡ Some entry → IsEntryFrom instance i entry
  pub origin : IsOrigin instance history image

-- what really is there, where a caller noted this: a history that has the noted words and what its seat has, the full image that its
-- accesses lead on from, and the one that was loaded under a shared right
pub record IsBehindNotes (instance : Instance) (known : Known) : Type 0 where
  pub history : List Entry
  pub small : instance.base.place + length history ≤ 2 ^ 40
  pub entries : (i : ℕ) (entry : Entry) → slice_get history i ≡ Some entry → IsEntryFrom instance i entry
  pub noted : NotesHold instance history known.noted
  pub had : IsOfHistory instance history (has_of known)
  pub first : List ℕ
  pub now : List ℕ
  pub origin : IsOrigin instance history first
  pub leads : NotesLead known.accesses first now
  pub shared : (h : HeldShared) → known.local.shared ≡ Some h → (words : List ℕ) × IsOrigin instance history words × NotesLead (loads_of h.loaded) words words

-- the state with which a table opens whose callers have these limits of steps
abbrev pub opening_limited : Instance → List ℕ → State
opening_limited instance limits = record { words = opening_words instance.callers instance.base; locals = map (λ (k : Known). k.local) (opening_view instance.callers instance.base.place limits) }

-- the steps that all callers made, in the order in which they made them: a run of the core from the opening to these words and local states
pub record IsReached (instance : Instance) (words : List ℕ) (locals : List Local) : Type 0 where
  pub limits : List ℕ
  pub events : List Event
  pub ran : Run instance (opening_limited instance limits) events (record { words = words; locals = locals })

-- each set that a caller kept is a write set of its ticket, which is linked
abbrev pub KeptHolds : Instance → List Entry → List KeptSet → Type 0
KeptHolds instance history kept = (ticket : ℕ) (set : List ℕ) → IsKeptSet kept ticket set → (ticket < instance.base.place + length history) × IsWriteSetOf instance history ticket set

-- what a seat knows of write sets is so: what it noted of those that it read, and those that its caller kept
pub record SetsHold (instance : Instance) (s : State) (history : List Entry) (known : Known) : Type 0 where
  pub noted : SetNotesHold instance s history known.sets
  pub kept : KeptHolds instance history known.kept

-- The rule of the table: there are local states, one a caller, which are lawful together with the words of the table; and what each seat knows is
-- true of them, as the fields say.
pub record RuleHolds (instance : Instance) (s : atomic.State ℕ (List Known)) : Type 0 where
  pub locals : List Local
  -- the seat, and the place in its view, that have a caller's local state
  pub place_of : ℕ → ℕ × ℕ
  pub law : Lawful instance (record { words = s.words; locals = locals })
  pub reached : IsReached instance s.words locals
  pub each : (seat i : ℕ) (view : List Known) (known : Known) → get_elem? s.views seat ≡ some view → slice_get view i ≡ Some known → IsKnown instance law.history locals place_of seat i known
  -- the times at which operations began and were answered are those of a run that led here
  pub times : (seat i : ℕ) (view : List Known) (known : Known) → get_elem? s.views seat ≡ some view → slice_get view i ≡ Some known →
      AreTimes instance (opening_limited instance reached.limits) reached.events known.local.number known.local known.times
  -- the images that were taken are the history's
  pub images : (seat i : ℕ) (view : List Known) (known : Known) → get_elem? s.views seat ≡ some view → slice_get view i ≡ Some known → AreImages instance law.history known.images
  -- each cell that is offered with the ticket that the cell still has holds a write set of that ticket
  pub own : EachLocal locals (λ _ l. OwnSetsHold instance law.history l.cells)
  -- what is known of write sets is so
  pub sets : (seat i : ℕ) (view : List Known) (known : Known) → get_elem? s.views seat ≡ some view → slice_get view i ≡ Some known → SetsHold instance (record { words = s.words; locals = locals }) law.history known
  pub some : 0 < length instance.base.words
