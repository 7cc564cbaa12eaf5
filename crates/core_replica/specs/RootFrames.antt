-- What a step has to leave so that it keeps the part on the root: the words and the fields that it names.
use Rattle.std.specs.Prelude.{◌≡◌, ◌≢◌, ◌*◌, ◌<◌, ℕ, Some, length}
use Rattle.cx_core.specs.declared.local.HeldDowngraded.{HeldDowngraded}
use Rattle.cx_core.specs.declared.local.Local.{Local}
use Rattle.cx_core.specs.Layout.{cur_at, dur_at, vol_at}
use Rattle.cx_core.specs.State.{Instance}

-- neither CUR nor DUR, nor the place word of a replica
pub record OffRoot (instance : Instance) (at : ℕ) : Type 0 where
  pub cur : at ≢ cur_at
  pub dur : at ≢ dur_at
  pub places : (r : ℕ) → r < 2 * instance.callers → at ≢ vol_at instance.callers (length instance.base.words) r 0

-- the fields that the part on the root names. A downgraded right may end: the part then says less.
pub record SameRoot (l l' : Local) : Type 0 where
  pub seen_cur : l'.seen_cur ≡ l.seen_cur
  pub won : l'.won ≡ l.won
  pub downgraded : (h : HeldDowngraded) → l'.downgraded ≡ Some h → l.downgraded ≡ Some h
