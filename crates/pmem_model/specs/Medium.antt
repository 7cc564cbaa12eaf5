-- What a medium holds, what its calls do to a word, and what a crash may leave of it.
use Rattle.std.specs.Prelude.{◌≡◌, ◌+◌, ◌*◌, ◌/◌, ◌%◌, ◌^◌, ◌-◌, ◌<◌, ◌≤◌, ◌⊎◌, ◌==◌, ℕ, List, length, map, min, slice_index, slice_index_or, slice_set, if◌then◌else◌}
use Rattle.std.specs.List.{range_with_len}
use Rattle.pmem_model.specs.declared.medium.Mark.{Mark}
use Rattle.pmem_model.specs.declared.medium.Mark.TheVariants.{Durable, Dirty, Pending}
use Rattle.pmem_model.specs.declared.medium.Word.{Word}

-- what a medium holds: its words, and for each line of 8 words how often it was stored to
pub record MediumState : Type 0 where
  pub words : List Word
  pub stores : List ℕ

-- a word whose value is durable
abbrev pub durable_word : ℕ → Word
durable_word v = record { value = v; durable = v; mark = Durable }

-- a word of a medium
abbrev pub word_in : List Word → ℕ → Word
word_in words at = slice_index_or words at (durable_word 0)

abbrev pub medium_word : MediumState → ℕ → Word
medium_word m at = word_in m.words at

-- a count that stays at its type's end
abbrev pub counted_up : ℕ → ℕ
counted_up n = min (n + 1) (2 ^ 64 - 1)

-- a word after a store: it is dirty, also where it was being written back
abbrev pub word_stored : Word → ℕ → Word
word_stored w v = record w { value = v; mark = Dirty }

-- what a medium holds after a store
abbrev pub after_store : MediumState → ℕ → ℕ → MediumState
after_store m at v = record {
  words = slice_set m.words at (word_stored (medium_word m at) v);
  stores = slice_set m.stores (at / 8) (counted_up (slice_index m.stores (at / 8)));
}

-- a word after a write-back of its line: what was dirty is on its way
abbrev pub mark_written_back : Mark → Mark
mark_written_back Durable = Durable
mark_written_back Dirty = Pending
mark_written_back Pending = Pending

abbrev pub written_back : Word → Word
written_back w = record w { mark = mark_written_back w.mark }

-- a write-back of the words from one place to below another: they are written back, and every other is as it was
pub record WritesBack (first end : ℕ) (old new : List Word) : Type 0 where
  pub long : length new ≡ length old
  pub inside : (i : ℕ) → first ≤ i → i < end → i < length old → word_in new i ≡ written_back (word_in old i)
  pub outside : (i : ℕ) → (i < first) ⊎ (end ≤ i) → word_in new i ≡ word_in old i

-- a word after a fence: one that was on its way is durable, with its present value
abbrev pub fenced_at : Mark → Word → Word
fenced_at Durable w = w
fenced_at Dirty w = w
fenced_at Pending w = record w { durable = w.value; mark = Durable }

abbrev pub fenced : Word → Word
fenced w = fenced_at w.mark w

-- whether a word may be lost
abbrev pub IsDirtyMark : Mark → Type 0
IsDirtyMark Durable = ⊥
IsDirtyMark Dirty = Unit {0}
IsDirtyMark Pending = Unit {0}

-- what a dirty word may hold after a crash: its last durable value, its present value, or any other
abbrev pub any_value : ℕ → ℕ → Word → ℕ
any_value choice at w = if choice == 0 then w.durable else (if choice == 1 then w.value else choice * (at + 1) % 2 ^ 64)

-- what a crash leaves of a word, by choice
abbrev pub left_at : Mark → ℕ → ℕ → Word → ℕ
left_at Durable choice at w = w.value
left_at Dirty choice at w = any_value choice at w
left_at Pending choice at w = any_value choice at w

abbrev pub left_in_medium : ℕ → MediumState → ℕ → ℕ
left_in_medium choice m at = left_at (medium_word m at).mark choice at (medium_word m at)

-- a crash image
abbrev pub image_of : ℕ → MediumState → List ℕ
image_of choice m = map (left_in_medium choice m) (range_with_len 0 (length m.words))

-- a word that is not dirty is durable with its value
abbrev pub IsSettledAt : Mark → Word → Type 0
IsSettledAt Durable w = w.durable ≡ w.value
IsSettledAt Dirty w = Unit {0}
IsSettledAt Pending w = Unit {0}

abbrev pub IsSettled : Word → Type 0
IsSettled w = IsSettledAt w.mark w
