-- The words of a slot of the ring of gaps, read one behind another.
use Rattle.std.specs.Prelude.{◌≡◌, ◌+◌, ◌%◌, ◌^◌, ◌<◌, ℕ, zero, suc, List, [], ◌∷◌, length, slice_index}
use Rattle.cx_core.specs.Gaps.{Gap, gap_of}

-- the line from which word n of a slot goes on: that which the word before names, and 0 at first
abbrev pub start_at : List ℕ → ℕ → ℕ
start_at words zero = 0
start_at words (suc n) = slice_index words n % 2 ^ 17

-- this number of words of a slot name gaps of a ticket, each from where the one before ends
abbrev pub AreNamed : ℕ → ℕ → ℕ → List ℕ → ℕ → Type 0
AreNamed callers slot ticket words n = (k : ℕ) → k < n → gap_of callers slot (slice_index words k) ≡ record { ticket = ticket; from = start_at words k; to = slice_index words k % 2 ^ 17 }

-- n words of a slot name gaps of a ticket, each from where the one before ends, and the next word a gap from there to the end of a region
pub record TellsLines (callers slot ticket lines : ℕ) (words : List ℕ) (n : ℕ) : Type 0 where
  pub within : n < length words
  pub each : AreNamed callers slot ticket words n
  pub last : gap_of callers slot (slice_index words n) ≡ record { ticket = ticket; from = start_at words n; to = lines }

-- the lines that they name
abbrev pub lines_from : ℕ → ℕ → List ℕ → List ℕ
lines_from from zero words = []
lines_from from (suc n) words = slice_index words from % 2 ^ 17 ∷ lines_from (from + 1) n words

-- a word of a slot names this gap
abbrev pub IsNamed : ℕ → ℕ → List ℕ → Gap → Type 0
IsNamed callers slot words g = (i : ℕ) × (i < length words) × (gap_of callers slot (slice_index words i) ≡ g)

-- m words of a slot were read, which name gaps of a ticket, each from where the one before ends, up to this line
pub record ReadsTo (callers slot ticket : ℕ) (words : List ℕ) (m at : ℕ) : Type 0 where
  pub each : AreNamed callers slot ticket words m
  pub line : at ≡ start_at words m
