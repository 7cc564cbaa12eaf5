-- A caller between its calls, what a refusal and a halt leave, and what no step of an attempt changes before its raise.
use Rattle.std.specs.Prelude.{◌≡◌, ◌+◌, ◌-◌, ◌<◌, ◌≤◌, false, ℕ, [], None, Some, map, min}
use Rattle.cx_core.specs.declared.local.Local.{Local}
use Rattle.cx_core.specs.declared.local.Protection.TheVariants.{Unprotected}
use Rattle.cx_core.specs.Layout.{max_word}
use Rattle.cx_core.specs.State.{one_more}
use Rattle.cx_core.specs.Rights.{exclusive_on}
use Rattle.table_invariant.specs.Running.{IsSeatOf, Running}
use Rattle.table_invariant.specs.Seats.{IsAtLimit, Seated, StepsBy}
use Rattle.table_invariant.specs.Timing.{KeepsTimes}
pub use Rattle.table_invariant.specs.Seats.{StepsOn}
use Rattle.redo_set.specs.Taking.{sets_read}
use Rattle.redo_replay.specs.Own.{except_set}
use Rattle.strong_trylock.specs.Held.{all_rights, no_rights}

-- a caller that is in no call: it has no right, no protection and no scan, no replica is refused to it, and what it saw of CUR is
-- not fresh
pub record IsAtRest (l : Local) : Type 0 where
  pub exclusive : l.exclusive ≡ None
  pub shared : l.shared ≡ None
  pub passer : l.passer ≡ None
  pub downgraded : l.downgraded ≡ None
  pub won : l.won ≡ None
  pub protection : l.protection ≡ Unprotected
  pub scan : l.scan ≡ None
  pub refused : l.refused ≡ []
  pub fresh : l.fresh ≡ false

-- A refusal was met: one more is counted, the caller has no right, what was seen of CUR is not used again, and nothing is answered.
pub record MeetsRefusal (before after : Seated) : Type 0 where
  pub rights : all_rights after ≡ no_rights
  pub fresh : after.known.local.fresh ≡ false
  pub met : after.known.local.met ≡ one_more before.known.local.met
  pub answered : after.known.local.answered ≡ before.known.local.answered
  pub reads : after.known.local.seen_reads ≡ before.known.local.seen_reads
  pub times : KeepsTimes before.known.times after.known.times

-- an attempt in which a refusal was met: its caller is at rest again
pub record AttemptRefused (before after : Seated) : Type 0 where
  pub refusal : MeetsRefusal before after
  pub rest : IsAtRest after.known.local

-- what no step of an attempt changes before its raise: the seat but for the front, the slot last looked at, the protection and the greatest
-- LOW found, what was seen of CUR and when, the rights and what was tried and noted of them, and the counts of steps and refusals
abbrev pub unchanged_by_attempt : Seated → Seated
unchanged_by_attempt s = record s {
  known = record s.known {
    local = record s.known.local {
      front = 0;
      seen_slot = None;
      protection = Unprotected;
      seen_low = 0;
      seen_cur = 0;
      fresh = false;
      refused = [];
      seen_lock = None;
      exclusive = None;
      shared = None;
      passer = None;
      downgraded = None;
      won = None;
      steps = 0;
      met = 0;
    };
    noted = [];
    accesses = [];
    times = record s.known.times { loaded = 0; seen = false };
  };
}

-- a seat but for what work with write sets changes: the sets and the offers of the caller's cells, the offer last seen, and what is noted of sets and kept
abbrev pub except_sets : Seated → Seated
except_sets s = record s { known = record s.known { local = record s.known.local { cells = map except_set s.known.local.cells; seen_offer = None }; sets = []; kept = [] } }

-- what no step of an attempt that prepares a replica changes: of what no other step changes all but that
abbrev pub unchanged_by_prepare : Seated → Seated
unchanged_by_prepare s = except_sets (unchanged_by_attempt s)

-- the write sets of others that were taken, as code counts them: the count stays at its type's end
abbrev pub IsCounted : ℕ → Seated → Type 0
IsCounted taken seat = taken ≡ min (sets_read seat.known.sets) max_word

-- a count of them stays one
abbrev pub KeepsCount : ℕ → Seated → ℕ → Seated → Type 0
KeepsCount taken before now after = IsCounted taken before → IsCounted now after

-- what a call leaves of a seat: it is one of the table, no step is taken back, and what the call does not change, which this function gives,
-- is as it was
pub record KeepsSeat {O : Type 0} (r : Running O) (untouched : Seated → Seated) (before after : Seated) : Type 0 where
  pub seat : IsSeatOf r after
  pub since : StepsOn before after
  pub rest : untouched after ≡ untouched before

-- what a call of at most this many steps leaves of its caller: the seat but for what it may touch
pub record KeepsSeatIn {O : Type 0} (r : Running O) (untouched : Seated → Seated) (n : ℕ) (before after : Seated) : Type 0 where
  pub seat : IsSeatOf r after
  pub since : StepsOn before after
  pub rest : untouched after ≡ untouched before
  pub steps : StepsBy n before after

-- what a call that may raise the front leaves of its caller
pub record RaisesFront {O : Type 0} (r : Running O) (untouched : Seated → Seated) (before after : Seated) : Type 0 where
  pub seat : IsSeatOf r after
  pub since : StepsOn before after
  pub rest : untouched after ≡ untouched before
  pub front : before.known.local.front ≤ after.known.local.front

-- what a call of at most this many steps that may raise the front leaves of its caller
pub record RaisesFrontIn {O : Type 0} (r : Running O) (untouched : Seated → Seated) (n : ℕ) (before after : Seated) : Type 0 where
  pub seat : IsSeatOf r after
  pub since : StepsOn before after
  pub rest : untouched after ≡ untouched before
  pub front : before.known.local.front ≤ after.known.local.front
  pub steps : StepsBy n before after

-- what a call that may raise the front and loads CUR leaves of its caller: the code that was seen of CUR does not fall
pub record RaisesCur {O : Type 0} (r : Running O) (untouched : Seated → Seated) (before after : Seated) : Type 0 where
  pub attempts : RaisesFront r untouched before after
  pub rises : before.known.local.seen_cur ≤ after.known.local.seen_cur

-- what a call that may raise the front and does not load CUR leaves of its caller: the code that was seen of CUR stays
pub record KeepsCur {O : Type 0} (r : Running O) (untouched : Seated → Seated) (before after : Seated) : Type 0 where
  pub attempts : RaisesFront r untouched before after
  pub same : after.known.local.seen_cur ≡ before.known.local.seen_cur

-- by how much what was seen of CUR rose: at least by one for each exchange that was lost
abbrev pub cur_rises : Seated → Seated → ℕ
cur_rises before after = after.known.local.seen_cur - before.known.local.seen_cur

-- The step limit was reached, and a further step was due: no refusal was met, or a right stands that is still to be released. At most one
-- refusal was met, and none is taken back.
pub record HaltsAttempt (before after : Seated) : Type 0 where
  pub limit : IsAtLimit after.known.local
  pub counted : before.known.local.met ≤ after.known.local.met
  pub most : after.known.local.met ≤ before.known.local.met + 1
  pub due : all_rights after ≡ no_rights → after.known.local.met ≡ before.known.local.met

-- what a halt leaves of an attempt that holds a replica exclusively: it is still to be released
pub record HaltsHolding (replica : ℕ) (before after : Seated) : Type 0 where
  pub limit : IsAtLimit after.known.local
  pub counted : before.known.local.met ≤ after.known.local.met
  pub most : after.known.local.met ≤ before.known.local.met + 1
  pub holds : exclusive_on after.known.local ≡ Some replica

-- a caller in no call that may begin an attempt for its entry with a ticket, which is linked
pub record MayAttempt {O : Type 0} (r : Running O) (ticket : ℕ) (seat : Seated) : Type 0 where
  pub of : IsSeatOf r seat
  pub rest : IsAtRest seat.known.local
  pub linked : ticket < seat.known.local.front

-- the step limit was reached, at most one refusal was met, and none is taken back
pub record HaltsMeeting (before after : Seated) : Type 0 where
  pub limit : IsAtLimit after.known.local
  pub counted : before.known.local.met ≤ after.known.local.met
  pub most : after.known.local.met ≤ before.known.local.met + 1

-- a seat but for the protection and the steps
abbrev pub unguarded : Seated → Seated
unguarded s = record s { known = record s.known { local = record s.known.local { protection = Unprotected; steps = 0 } } }
