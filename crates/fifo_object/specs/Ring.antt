-- Texts in a ring of places, of which the first is at the head.
use Rattle.std.specs.Prelude.{◌≡◌, ◌+◌, ◌%◌, ◌<◌, ◌≤◌, ◌==◌, ℕ, List, length, slice_get, Some, if◌then◌else◌}
use Rattle.fifo_object.specs.Queue.{Queue}

-- what stands at each place, with one text put at a place
abbrev pub put_at : ℕ → List ℕ → (ℕ → List ℕ) → ℕ → List ℕ
put_at place text at p = if p == place then text else at p

-- a queue stands in a ring of the given number of places
pub record IsQueueInRing (places head count : ℕ) (at : ℕ → List ℕ) (queue : Queue) : Type 0 where
  pub long : length queue ≡ count
  pub start : head < places
  pub within : count ≤ places
  pub items : (i : ℕ) (text : List ℕ) → slice_get queue i ≡ Some text → at ((head + i) % places) ≡ text
