-- What an event of the core teaches the seat of its caller, whatever the state is that the seat does not show.
use Rattle.std.specs.Prelude.{◌≡◌, ◌^◌, ◌<◌, ℕ, List, Some, length, slice_get, slice_index}
use Rattle.cx_core.specs.declared.entry.Entry.{Entry}
use Rattle.cx_core.specs.declared.kinds.Kind.{Kind}
use Rattle.cx_core.specs.declared.local.Local.{Local}
use Rattle.cx_core.specs.Events.{Guard, local_after, new_word, step_word}
use Rattle.cx_core.specs.Lawful.{Lawful}
use Rattle.cx_core.specs.Merge.{scene_of}
use Rattle.cx_core.specs.Shown.{shown}
use Rattle.cx_core.specs.State.{Instance, State}
use Rattle.core_queue.specs.NotedSets.{OwnSetsHold}
use Rattle.table_invariant.specs.declared.rule.Known.{Known}
use Rattle.table_invariant.specs.Rule.{AddsImage, IsTraced, NotesHold, SetsHold}
use Rattle.table_invariant.specs.Seats.{WordFits, known_after}
use Rattle.table_invariant.specs.Timing.{AddTimes}

-- An event of a caller with this local state is allowed in this state, is on this word and puts that one, and what the
-- caller's seat knows afterwards is so: it shows the local state after the event, what it knows of entries and of write sets is the
-- history's, its accesses are those of the replica held exclusively, the times of its operations go on, and where
-- it took an image more, that is the history's.
pub record Learns (instance : Instance) (s : State) (history : List Entry) (kind : Kind) (l : Local) (known : Known) (word new : ℕ) (after : Known) : Type 0 where
  pub guard : Guard instance (scene_of instance s) kind l
  pub word_is : word ≡ step_word instance kind l
  pub new_is : new ≡ new_word instance kind l (slice_index s.words word)
  pub shows : after.local ≡ shown (local_after instance (scene_of instance s) kind l)
  pub notes : NotesHold instance history after.noted
  pub traced : IsTraced instance history after.accesses (local_after instance (scene_of instance s) kind l)
  pub sets : SetsHold instance s history after
  pub timed : AddTimes instance.callers l (local_after instance (scene_of instance s) kind l) known.times after.times
  pub imaged : AddsImage instance history known.images after.images
  pub fits : WordFits kind

-- `Learns` holds in each lawful state with these words, of each local state that a seat shows which knows this of its caller
abbrev pub LearnsInAnyState : Instance → List ℕ → Kind → Known → ℕ → ℕ → Known → Type 0
LearnsInAnyState instance words kind known word new after =
    (locals : List Local) (law : Lawful instance (record { words = words; locals = locals })) (l : Local) → slice_get locals known.local.number ≡ Some l → known.local ≡ shown l →
    NotesHold instance law.history known.noted → IsTraced instance law.history known.accesses l → SetsHold instance (record { words = words; locals = locals }) law.history known →
    OwnSetsHold instance law.history l.cells → 0 < length instance.base.words → Learns instance (record { words = words; locals = locals }) law.history kind l known word new after

-- what an event teaches, by the word found, of which its kind and the word put may depend on it
abbrev pub LearnsBy : Instance → (ℕ → Kind) → Known → ℕ → (ℕ → ℕ) → Type 0
LearnsBy instance kind known word f =
    (words : List ℕ) → slice_index words word < 2 ^ 64 →
    LearnsInAnyState instance words (kind (slice_index words word)) known word (f (slice_index words word)) (known_after instance (kind (slice_index words word)) known (slice_index words word))
