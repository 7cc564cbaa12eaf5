-- What it is to keep the part of the lawful state on the root.
use Rattle.std.specs.Prelude.{ℕ}
use Rattle.cx_core.specs.declared.kinds.Kind.{Kind}
use Rattle.cx_core.specs.Events.{Makes}
use Rattle.cx_core.specs.Lawful.{Fronts, Shape}
use Rattle.cx_core.specs.LawfulLocks.{Locks}
use Rattle.cx_core.specs.LawfulRegions.{Regions}
use Rattle.cx_core.specs.LawfulRoot.{Root}
use Rattle.cx_core.specs.State.{Instance, State}

-- each step of this kind keeps `Root`, whichever caller makes it, where the parts on shape, locks, regions and fronts hold too
abbrev pub KeepsRoot : Kind → Type 0
KeepsRoot kind =
    (instance : Instance) (history : _) (before after : State) (caller : ℕ) →
    Shape instance before.words before.locals → Locks instance.callers before.words before.locals →
    Regions instance history before.words before.locals → Fronts instance history before.words before.locals → Root instance before.words before.locals →
    Makes instance (record { caller = caller; kind = kind }) before after → Root instance after.words after.locals
