-- What a trail tells of the table that was closed: its callers' local states, its history, and the codes that a crash may
-- leave.
use Rattle.std.specs.Prelude.{ℕ, List, map}
use Rattle.atomic_table.specs.Seated.{TableId}
use Rattle.cx_core.specs.declared.entry.Base.{Base}
use Rattle.cx_core.specs.declared.entry.Entry.{Entry}
use Rattle.cx_core.specs.declared.local.Local.{Local}
use Rattle.table_invariant.specs.declared.rule.Known.{Known}

-- the local states of what the callers know
abbrev pub locals_known : List Known → List Local
locals_known known = map (λ (k : Known). k.local) known

-- which table was closed, the base that it was made with, its history, the chain of codes, and the local states that its
-- callers ended with
pub record Ending : Type 0 where
  pub table : TableId
  pub base : Base
  pub history : List Entry
  pub chain : List ℕ
  pub locals : List Local
