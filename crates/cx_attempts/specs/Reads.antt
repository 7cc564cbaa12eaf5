-- A read beside the queue: the replica that the code last loaded from CUR names is held shared at that code's place, and the
-- object answers an operation on it.
use Rattle.std.specs.Prelude.{◌≡◌, true, false, ℕ, List, Option, Some, None}
use Rattle.std.specs.List.{Contains}
use Rattle.cx_base.specs.declared.object.Object.{Ghosts}
use Rattle.cx_core.specs.RootEvents.{ShowsPlace}
use Rattle.table_invariant.specs.Fitting.{loaded_of}
use Rattle.table_invariant.specs.Raises.{TellsRead}
use Rattle.table_invariant.specs.Running.{IsSeatOf, Running}
use Rattle.table_invariant.specs.Seats.{Seated, StepsBy}
use Rattle.cx_table.specs.Right.{Right}
use Rattle.cx_attempts.specs.Keeping.{HoldsCurrent}
use Rattle.cx_attempts.specs.Attempts.{MeetsRefusal, StepsOn}
use Rattle.replica.specs.Held.{IsHeldSharedIn}
use Rattle.strong_trylock.specs.Held.{all_rights, no_rights}

-- what no read changes: the seat but for the shared right and what was tried and loaded of it, whether what was seen of CUR is
-- fresh, and the counts of steps and refusals
abbrev pub unchanged_by_read : Seated → Seated
unchanged_by_read s = record s {
  known = record s.known { local = record s.known.local { fresh = false; seen_lock = None; shared = None; passer = None; steps = 0; met = 0 } };
}

-- A reply was read. The caller has one right, shared, on the replica that the code last loaded from CUR names, at the code's
-- place, and nothing ended that code's use.
pub record IsReplyRead {O : Type 0} (o : Ghosts O) (r : Running O) (op reply : List ℕ) (before after : Seated) (hold : Right) : Type 0 where
  pub current : HoldsCurrent o r no_rights before after hold
  pub shows : ShowsPlace r.callers after.known.local.seen_cur after.known.local.shared
  pub tells : TellsRead (o.line_count r.object) (o.lawful r.object) r.base (o.step r.object) after.known op reply

-- the result of reading it; the read is refused where the replica is held exclusively, or is at another place, by at most three steps
abbrev pub ReadsCurrent : {O : Type 0} → Ghosts O → Running O → List ℕ → List ℕ → Seated → Seated → Option Right → Type 0
ReadsCurrent o r op reply before after (Some hold) = IsReplyRead o r op reply before after hold
ReadsCurrent o r op reply before after None = MeetsRefusal before after × StepsBy 3 before after × StepsOn before after

-- a caller of this table without rights, that has just loaded CUR
pub record MayReadReply {O : Type 0} (r : Running O) (seat : Seated) : Type 0 where
  pub of : IsSeatOf r seat
  pub free : all_rights seat ≡ no_rights
  pub fresh : seat.known.local.fresh ≡ true

-- a replica is held shared whose place was loaded
pub record HoldsPlace {O : Type 0} (o : Ghosts O) (r : Running O) (place : ℕ) (seat : Seated) (hold : Right) : Type 0 where
  pub held : IsHeldSharedIn o r seat hold
  pub loaded : Contains (loaded_of seat.known.local.shared) (0, place)
