-- A step that is apart from a part of the lawful state: on a word that the part does not name, with the fields as they were that
-- the part names. And a history that goes on.
use Rattle.std.specs.Prelude.{◌≡◌, ◌<◌, ◌≤◌, ◌⊎◌, ◌++◌, ℕ, List, Some, slice_get, slice_set}
use Rattle.cx_core.specs.declared.entry.Entry.{Entry}
use Rattle.cx_core.specs.declared.local.Local.{Local}
use Rattle.cx_core.specs.State.{State}

-- a step of a caller that puts one word, and leaves of the caller's local state what is said
pub record StepApart (Off : ℕ → Type 0) (Same : Local → Local → Type 0) (before after : State) : Type 0 where
  pub caller : ℕ
  pub at : ℕ
  pub word : ℕ
  pub local : Local
  pub next : Local
  pub of_caller : slice_get before.locals caller ≡ Some local
  pub off : Off at
  pub same : Same local next
  pub words : after.words ≡ slice_set before.words at word
  pub locals : after.locals ≡ slice_set before.locals caller next

-- a word is none of those from one place on and before another
abbrev pub IsOff : ℕ → ℕ → ℕ → Type 0
IsOff from until at = (at < from) ⊎ (until ≤ at)

-- nothing is asked of a word
abbrev pub AnyWord : ℕ → Type 0
AnyWord at = Unit {0}

-- nothing is asked of two local states
abbrev pub AnyLocal : Local → Local → Type 0
AnyLocal l l' = Unit {0}

-- a history begins with another
pub record Continues (history history' : List Entry) : Type 0 where
  pub more : List Entry
  pub is : history' ≡ history ++ more
