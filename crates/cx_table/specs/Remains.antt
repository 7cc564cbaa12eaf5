-- What is handed to the closing of a table, and what it leaves.
use Rattle.std.specs.Prelude.{◌≡◌, ◌+◌, ◌*◌, ◌<◌, ◌↔◌, ℕ, Bool, true, List, All, Contains, length, map, slice_get, slice_range, Some}
use Rattle.std.specs.List.{range_with_len}
use Rattle.cx_core.specs.declared.entry.Base.{Base}
use Rattle.cx_core.specs.declared.local.HeldExclusive.{HeldExclusive}
use Rattle.cx_core.specs.declared.local.Local.{Local}
use Rattle.cx_core.specs.Lawful.{Lawful}
use Rattle.cx_core.specs.Layout.{vol_at, per_at}
use Rattle.cx_core.specs.Merge.{IsHistory}
use Rattle.cx_core.specs.Region.{slot_number}
use Rattle.cx_core.specs.Shown.{shown}
use Rattle.cx_core.specs.State.{Instance}
use Rattle.table_invariant.specs.declared.rule.Known.{Known}
use Rattle.cx_table.specs.declared.remains.Remains.{Remains}
use Rattle.cx_core.specs.Chain.{IsCodeChain}
use Rattle.table_invariant.specs.Ending.{locals_known}
use Rattle.table_invariant.specs.Rule.{AreImages, IsReached, NotesHold, opening_limited}
use Rattle.table_invariant.specs.Running.{IsSeatOf, Running}
use Rattle.table_invariant.specs.Seats.{Seated, opening_known}
use Rattle.table_invariant.specs.Timing.{AreTimes}

-- what the seats know of their callers
abbrev pub known_by : List Seated → List Known
known_by seats = map (λ (s : Seated). s.known) seats

-- the local states of the seats' callers
abbrev pub locals_of : List Seated → List Local
locals_of seats = locals_known (known_by seats)

-- item i is the seat of caller i of this table, and there are all
pub record AreSeats {O : Type 0} (r : Running O) (seats : List Seated) : Type 0 where
  pub of : All (IsSeatOf r) seats
  pub numbers : map (λ (s : Seated). s.known.local.number) seats ≡ range_with_len 0 r.callers

-- for how many callers the room for what a closing hands out is, and for how many lines
pub record RoomFor : Type 0 where
  pub callers : ℕ
  pub lines : ℕ

-- the room for what a closing hands out is for as many callers and lines as this table has
pub record IsRoomOf {O : Type 0} (r : Running O) (room : RoomFor) : Type 0 where
  pub callers : room.callers ≡ r.callers
  pub lines : room.lines ≡ r.lines

-- a caller's seat as it is made
abbrev pub opening_seat : {O : Type 0} → Running O → List ℕ → ℕ → Seated
opening_seat r limits caller = record { table = r.table; before = slot_number caller r.base.words; region = length r.base.words; known = opening_known r.callers r.base.place limits caller }

-- a table of this number of callers that opens from a base, and the callers' seats
pub record IsMade {O : Type 0} (callers : ℕ) (limits : List ℕ) (base : Base) (lines : ℕ) (object : O) (r : Running O) (made : List Seated) : Type 0 where
  pub table : r ≡ record { table = r.table; callers = callers; lines = lines; base = base; object = object }
  pub seats : made ≡ map (opening_seat r limits) (range_with_len 0 callers)
  pub all : AreSeats r made

-- a word of a replica is dirty: some caller holds the replica exclusively, and stored there and did not persist
pub record IsDirty (locals : List Local) (replica at : ℕ) : Type 0 where
  pub caller : ℕ
  pub local : Local
  pub held : HeldExclusive
  pub of_caller : slice_get locals caller ≡ Some local
  pub holds : local.exclusive ≡ Some held
  pub here : held.replica ≡ replica
  pub dirty : Contains held.dirty at

-- the marks say of each word of each replica whether it is dirty; each has as many words as a region
pub record MarksDirty (locals : List Local) (replicas region : ℕ) (marks : List Bool) : Type 0 where
  pub long : length marks ≡ region * replicas
  pub is : (replica at : ℕ) → replica < replicas → at < region → (slice_get marks (region * replica + at) ≡ Some true) ↔ IsDirty locals replica at

-- What a closed table leaves whose callers had these seats. There are words that with the callers' local states are a
-- lawful state of the core, whose history is the trail's: each caller's own entries are in it, each once and in order. Of the
-- local states the seats show all but the words of replicas held exclusively.
pub record ClosingWitness {O : Type 0} (table : Running O) (instance : Instance) (seats : List Seated) (r : Remains) : Type 0 where
  pub callers : r.callers ≡ table.callers
  pub lines : r.lines ≡ table.lines
  pub first : r.first ≡ table.base.place
  pub published : r.published.items ≡ r.trail.chain
  -- the trail is of this table
  pub of : r.trail.table ≡ table.table
  pub base : r.trail.base ≡ table.base
  pub locals : r.trail.locals ≡ locals_of seats
  -- the state that was closed
  pub words : List ℕ
  pub whole : List Local
  pub shows : map shown whole ≡ locals_of seats
  pub state : Lawful instance (record { words = words; locals = whole })
  -- the steps that all callers made, in the order in which they made them
  pub reached : IsReached instance words whole
  pub history : state.history ≡ r.trail.history
  pub merged : IsHistory table.base.place r.trail.history (locals_of seats)
  pub chain : IsCodeChain words (locals_of seats) r.trail.chain
  pub volatile : r.volatile.items ≡ slice_range words (vol_at table.callers (length table.base.words) 0 0) (vol_at table.callers (length table.base.words) (2 * table.callers) 0)
  pub durable : r.durable.items ≡ slice_range words (per_at table.callers (length table.base.words) 0 0) (per_at table.callers (length table.base.words) (2 * table.callers) 0)
  pub dirty : MarksDirty (locals_of seats) (2 * table.callers) (length table.base.words) r.dirty.items
  -- what a caller noted of entries is the history's
  pub notes : All (λ (s : Seated). NotesHold instance r.trail.history s.known.noted) seats
  -- when each caller's operations began and were answered, among those steps
  pub times : All (λ (s : Seated). AreTimes instance (opening_limited instance reached.limits) reached.events s.known.local.number s.known.local s.known.times) seats
  -- the images that callers took are the history's
  pub images : All (λ (s : Seated). AreImages instance r.trail.history s.known.images) seats
