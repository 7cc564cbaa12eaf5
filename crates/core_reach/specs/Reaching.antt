-- Answers that some run gives.
use Rattle.std.specs.Prelude.{◌≡◌, ◌+◌, ◌^◌, ◌<◌, ℕ, List, [], ◌∷◌, ◌++◌, Some, length, map, slice_get}
use Rattle.cx_base.specs.Memory.{Words}
use Rattle.cx_core.specs.Events.{Run}
use Rattle.cx_core.specs.Free.{HoldsNone}
use Rattle.cx_core.specs.Merge.{history_of}
use Rattle.cx_core.specs.QueueEvents.{IsIdleAt, cell_of, next_number}
use Rattle.cx_core.specs.RootEvents.{reply_after}
use Rattle.cx_core.specs.State.{Instance, State}
use Rattle.cx_core.specs.declared.entry.Entry.{Entry}
use Rattle.cx_core.specs.declared.kinds.Event.{Event}
use Rattle.cx_core.specs.declared.local.Answer.{Answer}
use Rattle.cx_core.specs.declared.local.Linked.{Linked}
use Rattle.cx_core.specs.declared.local.Local.{Local}
use Rattle.cx_core.specs.declared.local.SeenRead.{SeenRead}

-- the words of an operation: 144 of 64 bits
abbrev pub AreOpWords : List ℕ → Type 0
AreOpWords op = Words 144 op

-- the history of a state: the own entries of all callers by their tickets
abbrev pub history_in : Instance → State → List Entry
history_in instance s = history_of instance.base.place s.locals

-- the ticket that is linked next
abbrev pub next_ticket : Instance → State → ℕ
next_ticket instance s = instance.base.place + length (history_in instance s)

-- some run of `events` leads from `from` to `to`, where the caller has one acknowledged read more than in its local state `l`: `read`, of the
-- operation `op`, with the reply that the object gives after all entries below the read's place. `after` is the caller's local state in `to`.
pub record ReachesRead (instance : Instance) (from : State) (caller : ℕ) (l : Local) (op : List ℕ) : Type 0 where
  pub events : List Event
  pub to : State
  pub ran : Run instance from events to
  pub after : Local
  pub of_caller : slice_get to.locals caller ≡ Some after
  pub read : SeenRead
  pub op_is : read.op ≡ op
  pub reply : read.reply ≡ reply_after instance (history_in instance to) read.place op
  pub reads : after.seen_reads ≡ l.seen_reads ++ read ∷ []

-- the answer to an entry: the reply that the object gives after all entries with lower tickets
abbrev pub answer_to : Instance → List Entry → Linked → Answer
answer_to instance history x = record { ticket = x.ticket; reply = reply_after instance history x.ticket x.entry.op }

-- some run of `events` leads from `from` to `to`, which has this history, and in which the caller's entries are `own`. Each has its answer
-- (`answer_to`), and the caller holds no replica. `after` is the caller's local state in `to`.
pub record ReachesAnswers (instance : Instance) (from : State) (caller : ℕ) (history : List Entry) (own : List Linked) : Type 0 where
  pub events : List Event
  pub to : State
  pub ran : Run instance from events to
  pub of_history : history_in instance to ≡ history
  pub after : Local
  pub of_caller : slice_get to.locals caller ≡ Some after
  pub linked : after.own ≡ own
  pub answered : after.answered ≡ map (answer_to instance history) own
  pub rests : HoldsNone after

-- There is a cell and a ticket for an update of the caller with the local state `l`: one of its 16 cells has no ticket, or one of the history
-- (`known`), and there is a further ticket (`ticket`). Whether the cell may be written yet is not asked.
pub record HasCellAndTicket (instance : Instance) (s : State) (l : Local) : Type 0 where
  pub cell : ℕ
  pub within : cell < 16
  pub known : IsIdleAt (next_ticket instance s) (cell_of l cell).ticket
  pub ticket : next_ticket instance s < 2 ^ 40

-- the entry of a caller with the local state `l` and the operation `op`, with its ticket, where it is linked next
abbrev pub entry_linked_next : Instance → State → ℕ → Local → List ℕ → Linked
entry_linked_next instance s caller l op =
    record { ticket = next_ticket instance s; entry = record { caller = caller; number = next_number instance.base l; op = op } }

-- some run leads to a state in which the caller's entry with the operation `op` is linked as well, behind all others, and each of its entries is
-- answered; `x` is the new one
abbrev pub ReachesUpdate : Instance → State → ℕ → Local → List ℕ → Type 0
ReachesUpdate instance from caller l op =
    let x = entry_linked_next instance from caller l op in ReachesAnswers instance from caller (history_in instance from ++ x.entry ∷ []) (l.own ++ x ∷ [])
