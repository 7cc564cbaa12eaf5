-- What a step leaves of its caller's seat.
use Rattle.std.specs.Prelude.{◌≡◌, ◌^◌, ◌<◌, ℕ, Bool, List, [], ◌∷◌, ◌++◌, if◌then◌else◌, slice_index}
use Rattle.atomic_table.specs.Seated.{TableId}
use Rattle.atomic_table.specs.Table.{Me}
use Rattle.cx_core.specs.Events.{Guard, new_word, step_word}
use Rattle.cx_core.specs.State.{Instance}
use Rattle.cx_base.specs.Codes.{root_place_of}
use Rattle.table_invariant.specs.declared.rule.ImageTimes.{ImageTimes}
use Rattle.table_invariant.specs.declared.rule.Known.{Known}
use Rattle.cx_core.specs.declared.kinds.Kind.{Kind}
use Rattle.cx_core.specs.declared.kinds.Kind.TheVariants.{BackOff}
use Rattle.cx_core.specs.declared.local.Local.{Local}
use Rattle.table_invariant.specs.Fitting.{loaded_of, loads_of}
use Rattle.table_invariant.specs.Learns.{LearnsInAnyState, LearnsBy}
use Rattle.table_invariant.specs.Rule.{IsBehindNotes, IsImageOfSome, IsLawfulLocal}
use Rattle.table_invariant.specs.Running.{IsSeatOf, Running, instance_at}
use Rattle.table_invariant.specs.Seats.{IsAtLimit, IsByShown, IsWithinLimit, Seated, WordFits, kind_found, known_after, known_kept, known_of, stepped, unseen}
use Rattle.table_invariant.specs.FoundWords.{KnownOfLoad}

-- an event of this kind is allowed for the caller of a seat of this table, and this is the word that it is on
pub record IsEventOn {O : Type 0} (r : Running O) (step : O → List ℕ → List ℕ → List ℕ × List ℕ) (reads : O → List ℕ → Bool) (kind : Kind) (word : ℕ) (table : TableId) (me : Me ℕ (List Known)) : Type 0 where
  pub of_table : table ≡ r.table
  pub one : me ≡ (known_of me.0 ∷ [], [])
  pub by_shown : IsByShown kind
  pub fits : WordFits kind
  pub guard : Guard (instance_at r step reads) unseen kind (known_of me.0).local
  pub place : word ≡ step_word (instance_at r step reads) kind (known_of me.0).local
  pub within : word < r.table.words

-- what an event of this kind teaches the seat of its caller is known by what the caller noted
abbrev pub MayStepKnowing : Instance → Kind → Known → ℕ → (ℕ → ℕ) → Type 0
MayStepKnowing instance kind known word put = LearnsBy instance (kind_found instance kind known.local) known word put

-- what the event puts, by the word found
abbrev pub Puts : Instance → Kind → Local → (ℕ → ℕ) → Type 0
Puts instance kind l put = (x : ℕ) → new_word instance kind l x ≡ put x

-- whatever word an event finds, its caller knows the same after it, and the rule says nothing of the word
pub record IsBlind (instance : Instance) (kind : Kind) (known : Known) : Type 0 where
  pub blind : (x y : ℕ) → known_after instance kind known x ≡ known_after instance kind known y
  pub silent : KnownOfLoad instance kind known.local 0

-- the event is a store of this word: whatever it finds, it puts this, its caller knows the same after it, and the rule says nothing of the word found
pub record IsStoreEvent (instance : Instance) (kind : Kind) (known : Known) (new : ℕ) : Type 0 where
  pub puts : Puts instance kind known.local (λ _. new)
  pub blind : (x y : ℕ) → known_after instance kind known x ≡ known_after instance kind known y
  pub silent : KnownOfLoad instance kind known.local 0

-- what an event of a caller that found this word teaches the caller's seat: what it then knows, what the lawful state says of
-- the caller's local state by itself, before and after, what the rule says of the word found, and what is behind the notes
pub record KnowledgeAfter (instance : Instance) (kind : Kind) (known : Known) (found : ℕ) (after : Me ℕ (List Known)) : Type 0 where
  pub knows : after ≡ (known_after instance kind known found ∷ [], [])
  pub lawful : IsLawfulLocal instance known.local
  pub lawful_after : IsLawfulLocal instance (known_after instance kind known found).local
  pub found_word : KnownOfLoad instance kind known.local found
  pub behind : IsBehindNotes instance (known_after instance kind known found)

-- The step was made, which the limit allowed: the seat is the one after the event of this kind that found this word. The
-- step also tells what the event teaches.
pub record Steps {O : Type 0} (r : Running O) (step : O → List ℕ → List ℕ → List ℕ × List ℕ) (reads : O → List ℕ → Bool) (kind : Kind) (found : ℕ) (before after : Seated) : Type 0 where
  pub allowed : ¬ IsAtLimit before.known.local
  pub made : after ≡ stepped (instance_at r step reads) kind before found
  pub lawful : IsLawfulLocal (instance_at r step reads) before.known.local
  pub lawful_after : IsLawfulLocal (instance_at r step reads) after.known.local
  pub found_word : KnownOfLoad (instance_at r step reads) kind before.known.local found
  pub within : IsWithinLimit after.known.local
  pub seat : IsSeatOf r after

-- What a caller knows after it released a shared right whose words it had copied: the words loaded are what is noted of the
-- replica held exclusively, in place of what was noted of it before.
abbrev pub known_copied : Instance → Kind → Known → ℕ → Known
known_copied instance kind known found = record (known_after instance kind known found) { accesses = loads_of (loaded_of known.local.shared) }

-- what the release of a shared right whose words were copied teaches is known by what the caller noted
abbrev pub MayReleaseKnowing : Instance → Kind → Known → ℕ → (ℕ → ℕ) → Type 0
MayReleaseKnowing instance kind known word put =
    (words : List ℕ) → slice_index words word < 2 ^ 64 →
    LearnsInAnyState instance words kind known word (put (slice_index words word)) (known_copied instance kind known (slice_index words word))

-- what the release of a shared right whose words were copied teaches: what each release of a shared right does, and what is behind the words loaded as
-- those of the replica held exclusively
pub record KnowledgeAfterCopy (instance : Instance) (kind : Kind) (known : Known) (found : ℕ) (after : Me ℕ (List Known)) : Type 0 where
  pub knows : after ≡ (known_copied instance kind known found ∷ [], [])
  pub event : KnowledgeAfter instance kind known found (known_after instance kind known found ∷ [], [])
  pub behind : IsBehindNotes instance (known_copied instance kind known found)

-- The shared right on a replica was released, whose words had been copied: the event's step was made, and beside it the words
-- loaded are now what is noted of the replica held exclusively.
pub record StepsCopied {O : Type 0} (r : Running O) (step : O → List ℕ → List ℕ → List ℕ × List ℕ) (reads : O → List ℕ → Bool) (replica found : ℕ) (before after : Seated) : Type 0 where
  pub event : Steps r step reads (BackOff replica) found before (stepped (instance_at r step reads) (BackOff replica) before found)
  pub made : after ≡ record before { known = known_copied (instance_at r step reads) (BackOff replica) before.known found }
  pub seat : IsSeatOf r after

-- the times of an image that a caller takes by a step behind which it knows this: it has them where CUR was loaded
abbrev pub times_of : Instance → Known → Known → ImageTimes
times_of instance known after = record {
  begun = known.times.loaded;
  ended = after.local.steps;
  place = root_place_of instance.callers known.local.seen_cur;
  durable = root_place_of instance.callers known.local.raised;
}

-- the times of that image, where the load of CUR behind them was noted
abbrev pub image_times : Instance → Known → Known → List ImageTimes
image_times instance known after = if known.times.seen then times_of instance known after ∷ [] else []

-- What a caller knows after it released a shared right on a replica of which it had loaded all words: these are one image more that it took.
abbrev pub known_taken : Instance → Kind → List ℕ → Known → ℕ → Known
known_taken instance kind image known found =
    let after = known_after instance kind known found in
    record after { times = record after.times { images = known.times.images ++ image_times instance known after }; images = known.images ++ image ∷ [] }

-- what the release of a shared right all of whose words were loaded teaches is known by what the caller noted
abbrev pub IsImageLearned : Instance → Kind → List ℕ → Known → ℕ → (ℕ → ℕ) → Type 0
IsImageLearned instance kind image known word put =
    (words : List ℕ) → slice_index words word < 2 ^ 64 →
    LearnsInAnyState instance words kind known word (put (slice_index words word)) (known_taken instance kind image known (slice_index words word))

-- what the release of a shared right all of whose words were loaded teaches: what each release of a shared right does, what is behind the notes then,
-- and a history of which the words are the image
pub record TeachesImage (instance : Instance) (kind : Kind) (image : List ℕ) (known : Known) (found : ℕ) (after : Me ℕ (List Known)) : Type 0 where
  pub knows : after ≡ (known_taken instance kind image known found ∷ [], [])
  pub event : KnowledgeAfter instance kind known found (known_after instance kind known found ∷ [], [])
  pub behind : IsBehindNotes instance (known_taken instance kind image known found)
  pub of_some : IsImageOfSome instance image

-- The shared right on a replica was released, all of whose words had been loaded: the event's step was made, and beside it they are one
-- image more that the caller took.
pub record StepsTaking {O : Type 0} (r : Running O) (step : O → List ℕ → List ℕ → List ℕ × List ℕ) (reads : O → List ℕ → Bool) (replica found : ℕ) (image : List ℕ) (before after : Seated) : Type 0 where
  pub event : Steps r step reads (BackOff replica) found before (stepped (instance_at r step reads) (BackOff replica) before found)
  pub made : after ≡ record before { known = known_taken (instance_at r step reads) (BackOff replica) image before.known found }
  pub seat : IsSeatOf r after

-- what a caller's seat is taught by no event, where the caller keeps this set of its own entry with a ticket
pub record TeachesKept (instance : Instance) (ticket : ℕ) (set : List ℕ) (known : Known) (after : Me ℕ (List Known)) : Type 0 where
  pub knows : after ≡ (known_kept ticket set known ∷ [], [])
  pub behind : IsBehindNotes instance (known_kept ticket set known)

-- The set of an own entry with a ticket was kept: no step was made, and nothing else is changed.
pub record KeepsSet {O : Type 0} (r : Running O) (ticket : ℕ) (set : List ℕ) (before after : Seated) : Type 0 where
  pub made : after ≡ record before { known = known_kept ticket set before.known }
  pub seat : IsSeatOf r after

-- No step was made, since the steps equal the limit: nothing is changed.
pub record Halts {O : Type 0} (r : Running O) (before after : Seated) : Type 0 where
  pub limit : IsAtLimit before.known.local
  pub same : after ≡ before
  pub seat : IsSeatOf r after
