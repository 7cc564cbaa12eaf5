-- Which lines of a replica an entry leaves as they are. A gap of a ticket is a stretch of lines, strictly between two, whose words are the
-- same in the full images at the ticket and at the next place. Whether it is one is a fact of the history alone, for good. So each word of the ring
-- of gaps tells the truth, whoever wrote it and whenever: a word that another ticket's replaced is missed, and never misleads.
use Rattle.std.specs.Prelude.{◌≡◌, ◌+◌, ◌*◌, ◌/◌, ◌%◌, ◌^◌, ◌<◌, ◌≤◌, ◌⊎◌, ℕ, List, [], ◌∷◌, length, slice_index}
use Rattle.std.specs.List.{Contains}
use Rattle.cx_core.specs.declared.entry.Entry.{Entry}
use Rattle.cx_core.specs.History.{full_image}
use Rattle.cx_core.specs.Layout.{gap_at, gap_slots}
use Rattle.cx_core.specs.State.{Instance}

-- a gap of a ticket: the lines strictly between the lines `from` and `to`
pub record Gap : Type 0 where
  pub ticket : ℕ
  pub from : ℕ
  pub to : ℕ

-- line `n` of 8 words is equal in two lists of words
abbrev pub IsSameLine : ℕ → List ℕ → List ℕ → Type 0
IsSameLine n before after = (k : ℕ) → k < 8 → slice_index after (8 * n + k) ≡ slice_index before (8 * n + k)

-- the images at the ticket of this gap and at the next place are equal in each line of the gap
abbrev pub IsQuiet : (ℕ → List ℕ) → Gap → Type 0
IsQuiet full g = (n : ℕ) → g.from < n → n < g.to → IsSameLine n (full g.ticket) (full (g.ticket + 1))

-- Gaps of a ticket lead from one line to another, over the lines between: each of those may have changed, and all others beyond the first and
-- below the last are in a gap.
abbrev pub Walk : (Gap → Type 0) → ℕ → ℕ → List ℕ → ℕ → Type 0
Walk G ticket from [] last = G (record { ticket = ticket; from = from; to = last })
Walk G ticket from (line ∷ lines) last = G (record { ticket = ticket; from = from; to = line }) × Walk G ticket line lines last

-- the gaps of each ticket from one place to below another lead over the lines of its list, from line 0, which is the place's own, to the end of a region
abbrev pub AreWalked : (Gap → Type 0) → ℕ → ℕ → ℕ → (ℕ → List ℕ) → Type 0
AreWalked G lines from to lists = (ticket : ℕ) → from ≤ ticket → ticket < to → Walk G ticket 0 (lists ticket) lines

-- a line is in no list of these tickets, and not that of the place
abbrev pub IsUnlisted : ℕ → ℕ → (ℕ → List ℕ) → ℕ → Type 0
IsUnlisted from to lists n = (0 < n) × ((ticket : ℕ) → from ≤ ticket → ticket < to → Contains (lists ticket) n → ⊥)

-- words after a copy by lists: those of a line that is listed are the source's, the others are what they were first
pub record IsListedCopy (lines from to : ℕ) (lists : ℕ → List ℕ) (first now source : List ℕ) : Type 0 where
  pub each : (n : ℕ) → n < lines → IsSameLine n source now ⊎ (IsUnlisted from to lists n × IsSameLine n first now)

-- a region has the words of the image by its place
pub record IsOfPlace (lines : ℕ) (full : ℕ → List ℕ) (place : ℕ) (region : List ℕ) : Type 0 where
  pub long : length region ≡ 8 * lines
  pub words : (i : ℕ) → i < 8 * lines → slice_index region i ≡ slice_index (full place) i

-- the gap that a word of a slot names
abbrev pub gap_of : ℕ → ℕ → ℕ → Gap
gap_of callers slot word = record { ticket = word / 2 ^ 34 * gap_slots callers + slot; from = word / 2 ^ 17 % 2 ^ 17; to = word % 2 ^ 17 }

-- the images of a history by places
abbrev pub images : Instance → List Entry → ℕ → List ℕ
images instance history = full_image instance.step instance.base history

-- a gap of a history: its ticket is below the history's end, where the gap has a line
pub record IsGap (instance : Instance) (history : List Entry) (g : Gap) : Type 0 where
  pub below : g.from + 1 < g.to → g.ticket + 1 ≤ instance.base.place + length history
  pub quiet : IsQuiet (images instance history) g

-- Gaps: each word of the ring names a gap of the history
pub record Gaps (instance : Instance) (history : List Entry) (words : List ℕ) : Type 0 where
  pub each : (slot i : ℕ) → slot < gap_slots instance.callers → i < 16 →
      IsGap instance history (gap_of instance.callers slot (slice_index words (gap_at instance.callers slot i)))

-- a caller may note a word that names a gap
abbrev pub CanNoteGap : Instance → List Entry → ℕ → ℕ → ℕ → Type 0
CanNoteGap instance history s i v = (s < gap_slots instance.callers) × (i < 16) × (v < 2 ^ 64) × IsGap instance history (gap_of instance.callers s v)
