-- What a seat has is the history's, and what is really there fits what it knows.
use Rattle.std.specs.Prelude.{◌≡◌, ◌+◌, ◌<◌, ◌≤◌, ℕ, List, Some, length}
use Rattle.cx_core.specs.declared.entry.Base.{Base}
use Rattle.cx_core.specs.declared.entry.Entry.{Entry}
use Rattle.cx_core.specs.declared.local.HeldExclusive.{HeldExclusive}
use Rattle.cx_core.specs.declared.local.Local.{Local}
use Rattle.cx_core.specs.Merge.{IsLinked}
use Rattle.cx_core.specs.State.{Instance}
use Rattle.cx_core.specs.WriteSet.{IsWriteSetOf}
use Rattle.table_invariant.specs.declared.rule.Known.{Known}
use Rattle.table_invariant.specs.Fitting.{FitsKnown, Has}

-- what a seat has is the history's: each entry is linked with its ticket, and each set is a write set of its ticket, which is linked
pub record IsOfHistory (instance : Instance) (history : List Entry) (has : Has) : Type 0 where
  pub entries : (ticket : ℕ) (entry : Entry) → instance.base.place ≤ ticket → has.entry ticket entry → IsLinked instance.base.place history ticket entry
  pub sets : (ticket : ℕ) (set : List ℕ) → instance.base.place ≤ ticket → has.set ticket set → (ticket < instance.base.place + length history) × IsWriteSetOf instance history ticket set

-- some pair fits what a seat knows, and where its caller holds a replica exclusively, the second list is that replica's words
pub record FitsThere (lines : ℕ) (lawful : List ℕ → Type 0) (base : Base) (step : List ℕ → List ℕ → List ℕ × List ℕ) (known : Known) (l : Local) : Type 0 where
  pub first : List ℕ
  pub now : List ℕ
  pub fits : FitsKnown lines lawful base step known first now
  pub held : (h : HeldExclusive) → l.exclusive ≡ Some h → now ≡ h.words
