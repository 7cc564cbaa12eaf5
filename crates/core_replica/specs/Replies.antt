-- What an answer tells its caller.
use Rattle.std.specs.Prelude.{◌≡◌, ◌≤◌, ℕ, List, Some, slice_get}
use Rattle.cx_core.specs.declared.entry.Entry.{Entry}
use Rattle.cx_core.specs.declared.local.Answer.{Answer}
use Rattle.cx_core.specs.declared.local.Local.{Local}
use Rattle.cx_core.specs.declared.local.SeenRead.{SeenRead}
use Rattle.cx_core.specs.Merge.{IsLinked}
use Rattle.cx_core.specs.RootEvents.{reply_after}
use Rattle.cx_core.specs.State.{Instance, State}

-- a caller's answer with this index is to its own entry with this index, which is linked with the answer's ticket, and the reply is the
-- object's to the entry's operation after all entries with lower tickets
pub record IsReplyToOwn (instance : Instance) (history : List Entry) (l : Local) (i : ℕ) (x : Answer) : Type 0 where
  pub entry : Entry
  pub own : slice_get l.own i ≡ Some (record { ticket = x.ticket; entry = entry })
  pub linked : IsLinked instance.base.place history x.ticket entry
  pub reply : x.reply ≡ reply_after instance history x.ticket entry.op

-- each answer that a caller was given it still has, and its floor did not fall
pub record HasAnswersOf (l l' : Local) : Type 0 where
  pub answered : (i : ℕ) (x : Answer) → slice_get l.answered i ≡ Some x → slice_get l'.answered i ≡ Some x
  pub reads : (i : ℕ) (x : SeenRead) → slice_get l.seen_reads i ≡ Some x → slice_get l'.seen_reads i ≡ Some x
  pub floor : l.floor ≤ l'.floor

-- in a state a caller still has each answer that it was given by this local state, and its floor did not fall
pub record StillAnswered (s : State) (caller : ℕ) (l : Local) : Type 0 where
  pub local : Local
  pub of_caller : slice_get s.locals caller ≡ Some local
  pub has : HasAnswersOf l local
