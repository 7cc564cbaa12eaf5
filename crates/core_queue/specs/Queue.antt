-- The parts of the lawful state on tickets, links, cells, fronts and the ring, with the shape, and what keeps them.
use Rattle.std.specs.Prelude.{ℕ, List}
use Rattle.cx_core.specs.declared.entry.Entry.{Entry}
use Rattle.cx_core.specs.declared.kinds.Kind.{Kind}
use Rattle.cx_core.specs.declared.local.Local.{Local}
use Rattle.cx_core.specs.Events.{Makes}
use Rattle.cx_core.specs.Frames.{Continues}
use Rattle.cx_core.specs.Lawful.{Cells, Fronts, Links, Shape, Tickets}
use Rattle.cx_core.specs.LawfulRing.{Ring}
use Rattle.cx_core.specs.LawfulRoot.{RootBounds}
use Rattle.cx_core.specs.State.{Instance, State}

-- A state is lawful in all that concerns the queue: its shape, tickets, links, cells, fronts and the ring, for the given history.
pub record QueueLawful (instance : Instance) (history : List Entry) (words : List ℕ) (locals : List Local) : Type 0 where
  pub shape : Shape instance words locals
  pub tickets : Tickets instance history locals
  pub links : Links instance history words
  pub cells : Cells instance history words locals
  pub fronts : Fronts instance history words locals
  pub ring : Ring instance words locals

-- the parts of `QueueLawful` hold, with a history that begins with this one
pub record QueueContinues (instance : Instance) (history : List Entry) (words : List ℕ) (locals : List Local) : Type 0 where
  pub after : List Entry
  pub continues : Continues history after
  pub lawful : QueueLawful instance after words locals

-- each step of this kind keeps the parts of `QueueLawful`, whichever caller makes it, where what callers have seen of the root is within it
abbrev pub KeepsQueue : Kind → Type 0
KeepsQueue kind =
    (instance : Instance) (history : List Entry) (before after : State) (caller : ℕ) → QueueLawful instance history before.words before.locals →
    RootBounds instance history before.words before.locals → Makes instance (record { caller = caller; kind = kind }) before after → QueueContinues instance history after.words after.locals
