-- The instructions of seats on words of a table.
use Rattle.std.specs.Prelude.{◌≡◌, ◌+◌, ◌-◌, ◌%◌, ◌^◌, ◌<◌, ◌==◌, if◌then◌else◌, ℕ, max, List, [], ◌∷◌, length}
use Rattle.atomic_table.specs.Seated.{TableId}
use Rattle.atomic_table.specs.Table.{Me}
use Rattle.table_invariant.specs.declared.rule.Known.{Known}
use Rattle.table_invariant.specs.Running.{Running}
use Rattle.table_invariant.specs.Seats.{known_of}
use Rattle.cx_table.specs.declared.events.Instruction.{Instruction}
use Rattle.cx_table.specs.declared.events.Instruction.TheVariants.{Load, Exchange, Add, Subtract, Raise}

-- the word that an instruction puts, by the word found
abbrev pub put_by : Instruction → ℕ → ℕ
put_by Load x = x
put_by (Exchange old new) x = if x == old then new else x
put_by (Add k) x = (x + k) % 2 ^ 64
put_by (Subtract k) x = (x + (2 ^ 64 - k)) % 2 ^ 64
put_by (Raise v) x = max x v

-- the seat is of this table and knows one caller
pub record IsOfOne {O : Type 0} (r : Running O) (table : TableId) (me : Me ℕ (List Known)) : Type 0 where
  pub table_is : table ≡ r.table
  pub one : me ≡ (known_of me.0 ∷ [], [])

-- the seat is of this table and knows one caller, and the table has the word
pub record IsOnWord {O : Type 0} (r : Running O) (word : ℕ) (table : TableId) (me : Me ℕ (List Known)) : Type 0 where
  pub table_is : table ≡ r.table
  pub one : me ≡ (known_of me.0 ∷ [], [])
  pub within : word < r.table.words

-- a call left the seat on the table that it was of, and taught the seat this
pub record KeepsTableKnowing (before after : TableId) (lesson : Type 0) : Type 0 where
  pub table : after ≡ before
  pub taught : lesson

-- a call that loads into words left the seat on the table that it was of, taught the seat this, and left as many words as before
pub record FillsKnowing (before after : TableId) (old new : List ℕ) (lesson : Type 0) : Type 0 where
  pub table : after ≡ before
  pub taught : lesson
  pub length : length new ≡ length old
