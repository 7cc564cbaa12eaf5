-- A state that a run reached is that of a linearizable object, and durably so.
use Rattle.std.specs.Prelude.{◌≡◌, ◌+◌, ◌≤◌, ℕ, List, Some, length, slice_get}
use Rattle.core_replica.specs.Replies.{IsReplyToOwn}
use Rattle.cx_core.specs.declared.entry.Entry.{Entry}
use Rattle.cx_core.specs.declared.local.Answer.{Answer}
use Rattle.cx_core.specs.declared.local.SeenRead.{SeenRead}
use Rattle.cx_core.specs.Crash.{CrashImage, IsCrashImage, IsKept, recovered}
use Rattle.cx_core.specs.Merge.{IsHistory}
use Rattle.cx_core.specs.RootEvents.{reply_after}
use Rattle.cx_core.specs.State.{EachLocal, Instance, State}
use Rattle.core_runs.specs.RealTime.{KeepsRealTime}

-- There is one sequence of all updates, in which each caller's stand in its order. Each answer to an update is the object's reply there, and each
-- to a read the object's after the updates below its place. What was answered before something else began stands before it. And whatever a crash
-- leaves at this moment, what is recovered from it is the object after a prefix of the sequence that has each operation that was answered.
pub record IsLinearizable (instance : Instance) (from to : State) : Type 0 where
  pub history : List Entry
  pub merged : IsHistory instance.base.place history to.locals
  pub replies : EachLocal to.locals (λ _ l. (i : ℕ) (x : Answer) → slice_get l.answered i ≡ Some x → IsReplyToOwn instance history l i x)
  pub reads : EachLocal to.locals (λ _ l. (i : ℕ) (x : SeenRead) → slice_get l.seen_reads i ≡ Some x →
      (instance.base.place ≤ x.place) × (x.place ≤ instance.base.place + length history) × (x.reply ≡ reply_after instance history x.place x.op))
  pub real_time : KeepsRealTime instance from to
  pub durable : (image : CrashImage) → IsCrashImage instance to image → IsKept instance history to (recovered instance image)
