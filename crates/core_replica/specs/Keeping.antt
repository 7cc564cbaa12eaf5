-- What keeps the part of the lawful state on answers.
use Rattle.std.specs.Prelude.{ℕ, List}
use Rattle.cx_core.specs.declared.entry.Entry.{Entry}
use Rattle.cx_core.specs.declared.kinds.Kind.{Kind}
use Rattle.cx_core.specs.declared.local.Local.{Local}
use Rattle.cx_core.specs.Events.{Makes}
use Rattle.cx_core.specs.Lawful.{Fronts, Shape, Tickets}
use Rattle.cx_core.specs.LawfulAnswers.{Answers}
use Rattle.cx_core.specs.LawfulLocks.{Locks}
use Rattle.cx_core.specs.LawfulRegions.{Regions}
use Rattle.cx_core.specs.State.{Instance, State}

-- the parts that the one on answers rests on
pub record Grounds (instance : Instance) (history : List Entry) (words : List ℕ) (locals : List Local) : Type 0 where
  pub shape : Shape instance words locals
  pub tickets : Tickets instance history locals
  pub fronts : Fronts instance history words locals
  pub locks : Locks instance.callers words locals
  pub regions : Regions instance history words locals

-- each step of this kind keeps `Answers` where the parts of `Grounds` hold too, whichever caller makes it, with the history as it was
abbrev pub KeepsAnswers : Kind → Type 0
KeepsAnswers kind =
    (instance : Instance) (history : List Entry) (before after : State) (caller : ℕ) →
    Grounds instance history before.words before.locals → Answers instance history before.words before.locals →
    Makes instance (record { caller = caller; kind = kind }) before after → Answers instance history after.words after.locals
