-- A replica held exclusively that is brought up to a ticket.
use Rattle.std.specs.Prelude.{◌≡◌, ◌+◌, ◌<◌, ℕ, Bool, IsTrue, List, [], ◌∷◌, None}
use Rattle.std.specs.Option.{option_map}
use Rattle.cx_base.specs.Memory.{Becomes}
use Rattle.cx_base.specs.declared.object.Object.{Ghosts}
use Rattle.cx_core.specs.declared.entry.Entry.{Entry}
use Rattle.cx_core.specs.declared.local.HeldShared.{HeldShared}
use Rattle.cx_core.specs.declared.local.Protection.TheVariants.{Unprotected}
use Rattle.table_invariant.specs.Running.{Running}
use Rattle.table_invariant.specs.Seats.{IsWithinLimit, Seated, StepsOn}
use Rattle.table_invariant.specs.Stores.{FitsIn, FittingIn}
use Rattle.cx_table.specs.Right.{Right}
use Rattle.cx_attempts.specs.Bringing.{BringsAtMost}
use Rattle.cx_attempts.specs.Attempts.{KeepsCount, except_sets, unguarded}
use Rattle.mutation_queue.specs.Entries.{IsNotedEntry, MayReplay, ReadsEntry}
use Rattle.redo_set.specs.Taking.{CountsTaken}
use Rattle.replica.specs.Flushes.{IsFlushed}
use Rattle.replica.specs.Held.{IsHeldIn, unchanged_by_access, except_words}
use Rattle.replica.specs.Regions.{HasPlace}
use Rattle.replica.specs.Replays.{IsHeldImageIn, IsReady, ShowsReplyIn, noted_place}

-- a replica held shared but for what is loaded of it
abbrev pub except_shared_loads : HeldShared → HeldShared
except_shared_loads h = record { replica = h.replica; loaded = [] }

-- what no work on the replica held exclusively changes: the seat but for its words and what is noted of entries and replicas, the
-- slot last looked at, and the steps
abbrev pub unchanged_by_work : Seated → Seated
unchanged_by_work s = record s {
  known = record s.known {
    local = record s.known.local {
      seen_slot = None;
      exclusive = option_map except_words s.known.local.exclusive;
      shared = option_map except_shared_loads s.known.local.shared;
      steps = 0;
    };
    noted = [];
    accesses = [];
  };
}

-- what no replay on it changes: all of that but what work with write sets changes
abbrev pub unchanged_by_replay : Seated → Seated
unchanged_by_replay s = except_sets (unchanged_by_work s)

-- the entry with a ticket was read: it is noted, it is one that may come there, and what is noted fits what is there
pub record ReadsNext {O : Type 0} (o : Ghosts O) (r : Running O) (ticket : ℕ) (entry : Entry) (before after : Seated) : Type 0 where
  pub read : ReadsEntry entry.caller ticket (entry.number ∷ entry.op) before after
  pub noted : IsNotedEntry ticket after entry
  pub fits : FittingIn o r after.known

-- A replica held exclusively is the image after a place above a ticket, no word of it is dirty, and the caller's last entry there
-- has this reply.
pub record IsBroughtUp {O : Type 0} (o : Ghosts O) (r : Running O) (held : Right) (ticket : ℕ) (seat : Seated) (reply : List ℕ) : Type 0 where
  pub is_held : IsHeldIn o r seat held
  pub image : IsHeldImageIn o r seat.known
  pub clean : IsFlushed seat
  pub place : ticket < noted_place seat
  pub reply_is : ShowsReplyIn o r seat.known seat.known.local.number reply
  pub none : seat.known.local.protection ≡ Unprotected

-- A replica held exclusively is the image after a place above a ticket. Where the last entry that was applied is the caller's own and its step
-- was done, the replica has this reply for the caller.
pub record IsReplayedPast {O : Type 0} (o : Ghosts O) (r : Running O) (held : Right) (ticket : ℕ) (reply : List ℕ) (seat : Seated) (own : Bool) : Type 0 where
  pub ready : IsReady o r held (noted_place seat) seat
  pub place : ticket < noted_place seat
  pub replied : IsTrue own → ShowsReplyIn o r seat.known seat.known.local.number reply

-- the entry whose ticket is the place of a replica held exclusively may be applied to it
pub record MayApply {O : Type 0} (o : Ghosts O) (r : Running O) (held : Right) (at : ℕ) (seat : Seated) : Type 0 where
  pub ready : IsReady o r held at seat
  pub may : MayReplay r at seat

-- Another's entry with a ticket was applied to a replica held exclusively, which is the image after the next place. Where a set was taken, one set was
-- read; that the entry was applied by it, and not by its step, is not said here.
pub record AppliesAnother {O : Type 0} (o : Ghosts O) (r : Running O) (held : Right) (ticket : ℕ) (before after : Seated) (taken : Bool) : Type 0 where
  pub ready : IsReady o r held (ticket + 1) after
  pub counted : CountsTaken before after taken
  pub by_sets : BringsAtMost ticket before after

-- Another's entry was applied so, and the sets of others that were read stay counted.
pub record ReplaysAnother {O : Type 0} (o : Ghosts O) (r : Running O) (held : Right) (ticket taken : ℕ) (before : Seated) (now : ℕ) (after : Seated) : Type 0 where
  pub ready : IsReady o r held (ticket + 1) after
  pub counted : KeepsCount taken before now after
  pub by_sets : BringsAtMost ticket before after

-- The entry with a ticket was applied to a replica held exclusively, which is the image after the next place. Where it is the caller's own and
-- its step was done, the replica has this reply for the caller.
pub record IsApplied {O : Type 0} (o : Ghosts O) (r : Running O) (held : Right) (ticket : ℕ) (reply : List ℕ) (seat : Seated) (own : Bool) : Type 0 where
  pub ready : IsReady o r held (ticket + 1) seat
  pub replied : IsTrue own → ShowsReplyIn o r seat.known seat.known.local.number reply

-- A replica held exclusively is the image after its place. Where the caller has the reply to its last entry there, since it made that entry's
-- step, it is this one.
pub record IsReplayedWith {O : Type 0} (o : Ghosts O) (r : Running O) (held : Right) (reply : List ℕ) (seat : Seated) (own : Bool) : Type 0 where
  pub ready : IsReady o r held (noted_place seat) seat
  pub replied : IsTrue own → ShowsReplyIn o r seat.known seat.known.local.number reply

-- A replica held exclusively is the image after the place that it had before, no word of it is dirty, and the caller's last entry there has this
-- reply.
pub record IsReplicaSettled {O : Type 0} (o : Ghosts O) (r : Running O) (held : Right) (before after : Seated) (reply : List ℕ) : Type 0 where
  pub ready : IsReady o r held (noted_place before) after
  pub clean : IsFlushed after
  pub reply_is : ShowsReplyIn o r after.known after.known.local.number reply

-- Words of the replica held were loaded, no step was taken back, and nothing else is changed.
pub record LoadsOnly {O : Type 0} (o : Ghosts O) (r : Running O) (held : Right) (before after : Seated) : Type 0 where
  pub still : IsHeldIn o r after held
  pub unchanged : Becomes (FitsIn o r before.known) (FitsIn o r after.known) ◌≡◌
  pub begun : HasPlace after.known.accesses
  pub within : IsWithinLimit after.known.local
  pub since : StepsOn before after
  pub rest : unchanged_by_access held.replica after ≡ unchanged_by_access held.replica before

-- the seat beside replay on the replica and the caller's protection
abbrev pub unchanged_by_bringing : Seated → Seated
unchanged_by_bringing s = unchanged_by_replay (unguarded s)
