-- What contracts see of a running table, and which seats are its callers'.
use Rattle.std.specs.Prelude.{◌≡◌, ◌<◌, ◌≤◌, ℕ, Bool, List, length}
use Rattle.atomic_table.specs.Seated.{TableId}
use Rattle.cx_core.specs.declared.entry.Base.{Base}
use Rattle.cx_core.specs.Base.{LawfulBase}
use Rattle.cx_core.specs.Layout.{word_count}
use Rattle.cx_core.specs.Region.{slot_number}
use Rattle.cx_core.specs.State.{Instance}
use Rattle.table_invariant.specs.Seats.{Seated, StepsBy, StepsOn}

-- a running table: which table it is, how many callers it has, the lines of its object, the base that it was made with, and the object
pub record Running (O : Type 0) : Type 0 where
  pub table : TableId
  pub callers : ℕ
  pub lines : ℕ
  pub base : Base
  pub object : O

-- the instance that a running table shows, where the object means this
abbrev pub instance_at : {O : Type 0} → Running O → (O → List ℕ → List ℕ → List ℕ × List ℕ) → (O → List ℕ → Bool) → Instance
instance_at r step reads = record { callers = r.callers; base = r.base; step = step r.object; reads = reads r.object }

-- the seat is a caller's of this table
pub record IsSeatOf {O : Type 0} (r : Running O) (seat : Seated) : Type 0 where
  pub table : seat.table ≡ r.table
  pub caller : seat.known.local.number < r.callers
  pub before : seat.before ≡ slot_number seat.known.local.number r.base.words
  pub region : seat.region ≡ length r.base.words

-- a running table is within the limits: 1 to 8 callers, 64 to 16,384 lines, a lawful base, and all words of the table
pub record IsTableWithinLimits {O : Type 0} (line_count : O → ℕ) (lawful : O → List ℕ → Type 0) (r : Running O) : Type 0 where
  pub some : 1 ≤ r.callers
  pub few : r.callers ≤ 8
  pub lines : r.lines ≡ line_count r.object
  pub enough : 64 ≤ r.lines
  pub small : r.lines ≤ 16384
  pub base : LawfulBase r.lines (lawful r.object) r.base
  pub words : r.table.words ≡ word_count r.callers (length r.base.words)
  pub slots : r.table.slots ≡ 0

-- What a call of at most this many steps leaves of its caller: the seat is one of the table, and no step is taken back.
pub record StepsWithin {O : Type 0} (r : Running O) (n : ℕ) (before after : Seated) : Type 0 where
  pub seat : IsSeatOf r after
  pub since : StepsOn before after
  pub most : StepsBy n before after
