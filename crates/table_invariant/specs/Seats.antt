-- What a seat of the table knows, what a step of a caller teaches it, and the numbers of it that code reads.
use Rattle.std.specs.Prelude.{true, false, ◌≡◌, ◌+◌, ◌/◌, ◌^◌, ◌<◌, ◌≤◌, ◌==◌, ◌&&◌, if◌then◌else◌, ℕ, Bool, List, [], ◌∷◌, ◌++◌, length, map, min, slice_get, slice_index, Option, Some, None}
use Rattle.std.specs.List.{range_with_len}
use Rattle.std.specs.Option.{option_map}
use Rattle.atomic_table.specs.Seated.{TableId}
use Rattle.cx_core.specs.declared.kinds.Kind.{Kind}
use Rattle.cx_base.specs.Codes.{root_place_of}
use Rattle.cx_base.specs.Noted.{Note}
use Rattle.cx_core.specs.declared.kinds.Kind.TheVariants.{WriteCell, Link, ReadCell, LoadCur, TryExclusive, Downgrade, ReleaseExclusive, LoadWord, StoreWord, Persist, Raise, Offer, ReadSet, WriteSet, NoteGap, LoadGap}
use Rattle.cx_core.specs.declared.local.Cell.{Cell}
use Rattle.cx_core.specs.declared.local.Linked.{Linked}
use Rattle.cx_core.specs.declared.local.Local.{Local}
use Rattle.cx_core.specs.Events.{Guard, next}
use Rattle.cx_core.specs.Lawful.{CellShape}
use Rattle.cx_core.specs.Layout.{gap_slots, max_word}
use Rattle.cx_core.specs.LockEvents.{IsClean, is_fresh_on}
use Rattle.cx_core.specs.QueueEvents.{seen_word}
use Rattle.cx_core.specs.RegionEvents.{CanLoad}
use Rattle.cx_core.specs.Rights.{exclusive_on, is_at, shared_on}
use Rattle.cx_core.specs.SetEvents.{CanWriteSet}
use Rattle.core_queue.specs.declared.notes.SetNoted.{SetNoted}
use Rattle.cx_core.specs.State.{Instance, Scene, one_more, opening_local}
use Rattle.table_invariant.specs.declared.rule.ImageTimes.{ImageTimes}
use Rattle.table_invariant.specs.declared.rule.Known.{Known}
use Rattle.table_invariant.specs.declared.rule.Noted.{Noted}
use Rattle.table_invariant.specs.declared.rule.Times.{Times}

-- The scene that is not seen: a seat knows neither the history nor the words. For most kinds neither the guard, nor what is
-- shown of the local state afterwards, depends on them.
abbrev pub unseen : Scene
unseen = record { history = []; words = [] }

-- The kinds whose guard, whose word put and whose shown local state afterwards look at no word of a region and not at the history. The others look at
-- these: to release an exclusive right its words have to be a full image, what is persisted is one of them, a load that is marked as a refusal found
-- another place, what a raise answers is the history's, and so are a set that is offered and a gap that is noted.
abbrev pub IsByShown : Kind → Type 0
IsByShown (Downgrade r) = ⊥
IsByShown (ReleaseExclusive r) = ⊥
IsByShown (Persist r i) = ⊥
IsByShown (LoadWord r i true) = ⊥
IsByShown (Raise code read) = ⊥
IsByShown (Offer j) = ⊥
IsByShown (NoteGap s i v) = ⊥
IsByShown _ = Unit {0}

-- the guard as far as a seat sees it: not that words are a full image, nor what a load will find
abbrev pub SeenGuard : Instance → Kind → Local → Type 0
SeenGuard instance (Downgrade r) l = IsClean instance.callers r l
SeenGuard instance (ReleaseExclusive r) l = IsClean instance.callers r l
SeenGuard instance (LoadWord r i refused) l = CanLoad instance.callers (length instance.base.words) r i l
SeenGuard instance (Offer j) l = CanWriteSet l j
SeenGuard instance (NoteGap s i v) l = (s < gap_slots instance.callers) × (i < 16) × (v < 2 ^ 64)
SeenGuard instance kind l = Guard instance unseen kind l

-- what the rule asks of a kind beside its guard: a word that a step stores has 64 bits
abbrev pub WordFits : Kind → Type 0
WordFits (WriteCell j i v) = v < 2 ^ 64
WordFits (StoreWord r i v) = v < 2 ^ 64
WordFits (WriteSet j i v) = v < 2 ^ 64
WordFits (NoteGap s i v) = v < 2 ^ 64
WordFits _ = Unit {0}

-- what a seat shows of its caller's local state after a step that found this word
abbrev pub shown_next : Instance → Kind → Local → ℕ → Local
shown_next instance kind l found = next instance unseen kind l found

-- the times of a caller without operations
abbrev pub no_times : Times
no_times = record { linked = []; answered = []; loaded = 0; seen = false; reads = []; images = [] }

-- the images that a caller took, and when
abbrev pub images_of : Known → List (List ℕ) × List ImageTimes
images_of k = (k.images, k.times.images)

-- what a caller knows that made no step: its opening local state, with its limit of steps
abbrev pub opening_known : ℕ → ℕ → List ℕ → ℕ → Known
opening_known callers place limits caller = record { local = record (opening_local callers place caller) { limit = slice_index limits caller }; noted = []; accesses = []; sets = []; times = no_times; images = []; kept = [] }

-- what the first seat knows: the openings of all callers, in order
abbrev pub opening_view : ℕ → ℕ → List ℕ → List Known
opening_view callers place limits = map (opening_known callers place limits) (range_with_len 0 callers)

-- what stands for what a seat with no caller knows
abbrev pub nobody : Known
nobody = record { local = opening_local 1 0 0; noted = []; accesses = []; sets = []; times = no_times; images = []; kept = [] }

-- what the first caller of a seat knows
abbrev pub known_of : List Known → Known
known_of [] = nobody
known_of (k ∷ ks) = k

-- the words of entries that a step notes, given the word found: a cell is of the caller whose 16 cells it is among
abbrev pub noted_by : Kind → ℕ → List Noted
noted_by (ReadCell t k i) found = record { ticket = t; caller = k / 16; index = i; word = found } ∷ []
noted_by (LoadGap s i) found = record { ticket = s; caller = 0; index = 145; word = found } ∷ []
noted_by _ found = []

-- the accesses of the replica held exclusively after a step that found this word. They begin anew with each exclusive try.
abbrev pub accesses_after : Kind → Known → ℕ → List Note
accesses_after (TryExclusive r) k found = []
accesses_after (LoadWord r i refused) k found = if is_at r (exclusive_on k.local) then k.accesses ++ (false, i, found) ∷ [] else k.accesses
accesses_after (StoreWord r i v) k found = k.accesses ++ (true, i, v) ∷ []
accesses_after _ k found = k.accesses

-- the words of write sets noted after a step that found this word
abbrev pub sets_after : Kind → Known → ℕ → List SetNoted
sets_after (ReadSet k t i) known found = known.sets ++ record { ticket = t; index = i; word = found } ∷ []
sets_after _ known found = known.sets

-- the times of a caller's operations after a step that found this word: a link that won has its time, and so has a load of CUR behind which
-- what was seen of CUR may answer a read, where nothing seen before could. A raise has its answers' (`times_raised`).
abbrev pub times_by : Kind → Local → Times → ℕ → Times
times_by (Link j) l t found = record t { linked = t.linked ++ (if found == seen_word l.seen_slot then l.steps ∷ [] else []) }
times_by LoadCur l t found = record t { loaded = if l.fresh then t.loaded else l.steps; seen = if l.fresh then t.seen else true }
times_by _ l t found = t

-- the last word that was loaded from the place of a replica or stored there, where this one was known before
abbrev pub place_noted : ℕ → List Note → ℕ
place_noted place [] = place
place_noted place ((stores, at, word) ∷ accesses) = place_noted (if at == 0 then word else place) accesses

-- what a seat shows of its caller's local state after a step, where the place after a downgrade is the one noted
abbrev pub known_local : Instance → Kind → Known → ℕ → Local
known_local instance (Downgrade r) k found = record k.local {
  exclusive = None;
  downgraded = Some (record { replica = r; place = place_noted 0 k.accesses });
  steps = one_more k.local.steps;
}
known_local instance kind k found = shown_next instance kind k.local found

-- what a caller knows after a step of its own that found this word: of the local state it shows what the event shows
abbrev pub known_after : Instance → Kind → Known → ℕ → Known
known_after instance kind k found = record {
  local = known_local instance kind k found;
  noted = k.noted ++ noted_by kind found;
  accesses = accesses_after kind k found;
  sets = sets_after kind k found;
  times = times_by kind k.local k.times found;
  images = k.images;
  kept = k.kept;
}

-- what a caller knows that kept this set more, of its own entry with a ticket
abbrev pub known_kept : ℕ → List ℕ → Known → Known
known_kept ticket set known = record known { kept = known.kept ++ record { ticket = ticket; set = set } ∷ [] }

-- whether the place word of a replica held shared, which the code last loaded from CUR names, was found to be another place
abbrev pub is_outdated : Instance → ℕ → ℕ → Local → ℕ → Bool
is_outdated instance r i l found =
    (i == 0) && (is_at r (shared_on l) && (is_fresh_on instance.callers r l && (if found == root_place_of instance.callers l.seen_cur then false else true)))

-- the kind of a load that found this word: it is marked as a refusal where that is asked for and the word shows it
abbrev pub marked_load : Instance → ℕ → ℕ → Bool → Local → ℕ → Kind
marked_load instance r i mark l found = LoadWord r i (mark && is_outdated instance r i l found)

-- the kind of an event that found this word
abbrev pub kind_found : Instance → Kind → Local → ℕ → Kind
kind_found instance (LoadWord r i mark) l found = marked_load instance r i mark l found
kind_found instance kind l found = kind

-- what contracts see of a caller's seat: its table, the number of the caller's last entry in the table's base, the words of
-- a region, and what it knows
pub record Seated : Type 0 where
  pub table : TableId
  pub before : ℕ
  pub region : ℕ
  pub known : Known

-- the seat after a step of its caller that found this word
abbrev pub stepped : Instance → Kind → Seated → ℕ → Seated
stepped instance kind seat found = record seat { known = known_after instance kind seat.known found }

-- no further step is allowed: the steps equal the limit, where 2^64 - 1 is none
abbrev pub IsAtLimit : Local → Type 0
IsAtLimit l = (l.steps ≡ l.limit) × (l.limit < max_word)

-- this many steps were made, where the count is not at its end
abbrev pub HasMadeSteps : ℕ → Seated → Type 0
HasMadeSteps steps seat = min steps max_word ≤ seat.known.local.steps

-- no step is taken back
abbrev pub StepsOn : Seated → Seated → Type 0
StepsOn before after = HasMadeSteps before.known.local.steps after

-- at most this many steps were made
abbrev pub StepsBy : ℕ → Seated → Seated → Type 0
StepsBy n before after = after.known.local.steps ≤ before.known.local.steps + n

-- no more steps were made than the limit allows
abbrev pub IsWithinLimit : Local → Type 0
IsWithinLimit l = l.limit < max_word → l.steps ≤ l.limit

-- the ticket of the entry that is not answered yet: entries are answered in order
abbrev pub unanswered_ticket : Local → Option ℕ
unanswered_ticket l = option_map (λ (x : Linked). x.ticket) (slice_get l.own (length l.answered))

-- a caller has 16 cells, each of 145 words and with a write set of 513
pub record HasCells (l : Local) : Type 0 where
  pub count : length l.cells ≡ 16
  pub each : (j : ℕ) (cell : Cell) → slice_get l.cells j ≡ Some cell → CellShape cell
