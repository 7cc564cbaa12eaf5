-- The parts of the lawful state on locks and on regions, and what keeps them.
use Rattle.std.specs.Prelude.{ℕ, List}
use Rattle.cx_core.specs.declared.entry.Entry.{Entry}
use Rattle.cx_core.specs.declared.kinds.Kind.{Kind}
use Rattle.cx_core.specs.declared.local.Local.{Local}
use Rattle.cx_core.specs.Events.{Makes}
use Rattle.cx_core.specs.Lawful.{Shape}
use Rattle.cx_core.specs.LawfulLocks.{Locks}
use Rattle.cx_core.specs.LawfulRegions.{Regions}
use Rattle.cx_core.specs.Merge.{IsHistory}
use Rattle.cx_core.specs.State.{Instance, State}

-- A state is lawful in all that concerns the replicas: its locks and its regions, for the given history.
pub record ReplicasLawful (instance : Instance) (history : List Entry) (words : List ℕ) (locals : List Local) : Type 0 where
  pub locks : Locks instance.callers words locals
  pub regions : Regions instance history words locals

-- each step of this kind keeps the parts of `ReplicasLawful`, whichever caller makes it, where the shape holds and the history is the state's
abbrev pub KeepsReplicas : Kind → Type 0
KeepsReplicas kind =
    (instance : Instance) (history : List Entry) (before after : State) (caller : ℕ) →
    Shape instance before.words before.locals → IsHistory instance.base.place history before.locals → ReplicasLawful instance history before.words before.locals →
    Makes instance (record { caller = caller; kind = kind }) before after → ReplicasLawful instance history after.words after.locals
