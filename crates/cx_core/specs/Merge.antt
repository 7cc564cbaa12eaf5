-- The history of a state is the merge of all own lists by ticket. There is no other copy of it.
use Rattle.std.specs.Prelude.{◌≡◌, ◌+◌, ◌-◌, ◌<◌, ◌≤◌, ◌==◌, ℕ, zero, suc, if◌then◌else◌, List, [], ◌∷◌, ◌++◌, length, slice_get, Option, Some, None}
use Rattle.std.specs.Option.{option_to_list}
use Rattle.cx_core.specs.declared.entry.Entry.{Entry}
use Rattle.cx_core.specs.declared.local.Linked.{Linked}
use Rattle.cx_core.specs.declared.local.Local.{Local}
use Rattle.cx_core.specs.State.{EachLocal, Instance, Scene, State}

-- the entries of one caller with their tickets, from a ticket on
abbrev pub own_of : ℕ → ℕ → List Entry → List Linked
own_of caller ticket [] = []
own_of caller ticket (entry ∷ rest) =
    if entry.caller == caller
    then record { ticket = ticket; entry = entry } ∷ own_of caller (ticket + 1) rest
    else own_of caller (ticket + 1) rest

-- each caller's own list is its entries of the history with their tickets, and the history has entries of no others
pub record IsHistory (place : ℕ) (history : List Entry) (locals : List Local) : Type 0 where
  pub own : EachLocal locals (λ caller l. l.own ≡ own_of caller place history)
  pub of_callers : (i : ℕ) (entry : Entry) → slice_get history i ≡ Some entry → entry.caller < length locals

-- an entry is linked with a ticket
pub record IsLinked (place : ℕ) (history : List Entry) (ticket : ℕ) (entry : Entry) : Type 0 where
  pub from : place ≤ ticket
  pub at : slice_get history (ticket - place) ≡ Some entry

-- the entry with a ticket among linked ones
abbrev pub entry_at : ℕ → List Linked → Option Entry
entry_at ticket [] = None
entry_at ticket (x ∷ xs) = if x.ticket == ticket then Some x.entry else entry_at ticket xs

-- the own lists of all callers
abbrev pub all_own : List Local → List Linked
all_own [] = []
all_own (l ∷ ls) = l.own ++ all_own ls

-- the given number of entries among linked ones, in the order of their tickets from one on
abbrev pub in_order : ℕ → ℕ → List Linked → List Entry
in_order zero ticket linked = []
in_order (suc n) ticket linked = option_to_list (entry_at ticket linked) ++ in_order n (ticket + 1) linked

-- the history is the merge of the own lists by ticket, from the base's place on
unfoldable pub history_of : ℕ → List Local → List Entry
history_of place locals = in_order (length (all_own locals)) place (all_own locals)

-- what a caller's step meets in a state
abbrev pub scene_of : Instance → State → Scene
scene_of instance s = record { history = history_of instance.base.place s.locals; words = s.words }
