-- Histories: the entries of a queue in the order of their tickets. The first has the place of the base as its ticket,
-- and each next one the ticket plus 1.
use Rattle.std.specs.Prelude.{◌≡◌, ◌+◌, ◌-◌, ◌<◌, ◌≤◌, ℕ, List, Option, Some, fold, length, take, slice_get}
use Rattle.std.specs.Option.{option_map}
use Rattle.cx_base.specs.Memory.{Words}
use Rattle.cx_core.specs.Region.{place_of}
use Rattle.cx_core.specs.State.{Instance}
use Rattle.cx_core.specs.Step.{full_step_of}
use Rattle.cx_core.specs.declared.entry.Base.{Base}
use Rattle.cx_core.specs.declared.entry.Entry.{Entry}

-- the object's image after some entries, from an image on
abbrev pub image_after : (List ℕ → List ℕ → List ℕ × List ℕ) → List ℕ → List Entry → List ℕ
image_after step image entries = fold (λ before entry. (step before entry.op).0) image entries

-- the reply at a ticket, where the history has that ticket; the first ticket and the image before it are given
abbrev pub reply_at : (List ℕ → List ℕ → List ℕ × List ℕ) → ℕ → List ℕ → List Entry → ℕ → Option (List ℕ)
reply_at step first image history ticket =
    option_map (λ entry. (step (image_after step image (take (ticket - first) history)) entry.op).1) (slice_get history (ticket - first))

-- the region after the full steps of some entries, from a region on
abbrev pub image_from : (List ℕ → List ℕ → List ℕ × List ℕ) → List ℕ → List Entry → List ℕ
image_from step region entries = fold (λ before entry. full_step_of step entry before) region entries

-- the full image after a place: the full steps of the entries with tickets below it, from a base on
unfoldable pub full_image : (List ℕ → List ℕ → List ℕ × List ℕ) → Base → List Entry → ℕ → List ℕ
full_image step base history place = image_from step base.words (take (place - base.place) history)

-- a region is the full image after its place, which is between the base's and the end of the history
pub record IsFull (instance : Instance) (history : List Entry) (region : List ℕ) : Type 0 where
  pub from : instance.base.place ≤ place_of region
  pub to : place_of region ≤ instance.base.place + length history
  pub full : region ≡ full_image instance.step instance.base history (place_of region)

-- an entry that a lawful base may take at this place: its number may be at most the place plus 1
pub record IsLawfulEntry (place : ℕ) (entry : Entry) : Type 0 where
  pub caller : entry.caller < 8
  pub some : 0 < entry.number
  pub most : entry.number ≤ place + 1
  pub op : Words 144 entry.op

-- each entry of a history, whose first one has this ticket, is one that a lawful base may take at the entry's place
abbrev pub AreLawful : ℕ → List Entry → Type 0
AreLawful place history = (i : ℕ) (entry : Entry) → slice_get history i ≡ Some entry → IsLawfulEntry (place + i) entry
