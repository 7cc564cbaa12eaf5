-- What a step has to leave so that it keeps the parts on locks and on regions: the words and the fields that they name.
use Rattle.std.specs.Prelude.{◌≡◌, ◌≢◌, ◌<◌, ℕ}
use Rattle.cx_core.specs.Frames.{IsOff}
use Rattle.cx_core.specs.declared.local.Local.{Local}
use Rattle.cx_core.specs.Layout.{cur_at, link_at, lock_at, replicas_at}
use Rattle.cx_core.specs.Rights.{downgraded_on, exclusive_on, shared_on}
use Rattle.cx_core.specs.State.{Instance}

-- neither CUR nor a lock word, which stand in front of the links
abbrev pub OffLocks : Instance → ℕ → Type 0
OffLocks instance at = (at ≢ cur_at) × IsOff (lock_at instance.callers 0) (link_at instance.callers 0) at

-- no word of a replica
abbrev pub OffRegions : Instance → ℕ → Type 0
OffRegions instance at = at < replicas_at instance.callers

-- the rights that the part on locks names: on which replicas they are, and nothing of the words there
pub record SameRights (l l' : Local) : Type 0 where
  pub exclusive : exclusive_on l' ≡ exclusive_on l
  pub shared : shared_on l' ≡ shared_on l
  pub passer : l'.passer ≡ l.passer
  pub downgraded : downgraded_on l' ≡ downgraded_on l
  pub won : l'.won ≡ l.won

-- the fields that the part on regions names
pub record SameHeld (l l' : Local) : Type 0 where
  pub exclusive : l'.exclusive ≡ l.exclusive
  pub shared : l'.shared ≡ l.shared
