-- Write sets as words, as they lie in a cell: word 0 is the number of pairs, words 2m + 1 and 2m + 2 are the address and the value of pair m.
use Rattle.std.specs.Prelude.{◌≡◌, ◌+◌, ◌*◌, ◌<◌, ◌≤◌, ℕ, List, slice_index, slice_set}
use Rattle.cx_core.specs.WriteSet.{stored}

-- a set with one pair more, after the others
abbrev pub set_with_pair : ℕ → ℕ → List ℕ → List ℕ
set_with_pair at v set = slice_set (slice_set (slice_set set (2 * slice_index set 0 + 1) at) (2 * slice_index set 0 + 2) v) 0 (slice_index set 0 + 1)

-- the words after all pairs of a set were stored over them in order
unfoldable pub put_over : List ℕ → List ℕ → List ℕ
put_over set words = stored (slice_index set 0) set words

-- the words after a number of pairs of a set, from the first one on, were stored over them in order
pub record IsFrontOver (set before now : List ℕ) : Type 0 where
  pub count : ℕ
  pub some : count ≤ slice_index set 0
  pub is : now ≡ stored count set before

-- each address of a set is that of a word of a region of this size
abbrev pub AreWithin : ℕ → List ℕ → Type 0
AreWithin size set = (m : ℕ) → m < slice_index set 0 → slice_index set (2 * m + 1) < size
