-- Lines of eight words; line 0 is a header, and a word that names no line is 0.
use Rattle.std.specs.Prelude.{◌≡◌, ◌^◌, ◌+◌, ◌*◌, ◌/◌, ◌≤◌, ℕ, List, length, slice_index, slice_set, IsTrue}
use Rattle.cx_base.specs.Memory.{Always}
use Rattle.cx_base.specs.declared.memory.Memory.{Ghosts}

-- word i of a line
abbrev pub word_of : List ℕ → ℕ → ℕ → ℕ
word_of words line i = slice_index words (8 * line + i)

-- the number of lines
abbrev pub line_count : List ℕ → ℕ
line_count words = length words / 8

-- a line that is there
abbrev pub IsWithin : List ℕ → ℕ → Type 0
IsWithin words line = 8 * line + 8 ≤ length words

-- word i of a line is stored
abbrev pub with_word : ℕ → ℕ → ℕ → List ℕ → List ℕ
with_word line i v words = slice_set words (8 * line + i) v

-- n words are whole lines, from 1 to 2 ^ 32 of them
pub record IsPartLength (n : ℕ) : Type 0 where
  pub whole : n ≡ 8 * (n / 8)
  pub some : 1 ≤ n / 8
  pub few : n / 8 ≤ 2 ^ 32

-- A memory of 1 to 2 ^ 32 whole lines that may be loaded, and P holds of all words that may be in it.
pub record IsLoadable {Memory : Type 0} (m : Ghosts Memory) (memory : Memory) (P : List ℕ → Type 0) : Type 0 where
  pub sized : IsPartLength (m.size memory)
  pub all : Always (m.stands memory) P

-- a memory of 1 to 2 ^ 32 whole lines that may be loaded and stored to, and P holds of all words that may be in it
pub record IsStorable {Memory : Type 0} (m : Ghosts Memory) (memory : Memory) (P : List ℕ → Type 0) : Type 0 where
  pub sized : IsPartLength (m.size memory)
  pub writable : IsTrue (m.writable memory)
  pub all : Always (m.stands memory) P
