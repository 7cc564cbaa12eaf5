-- Free replicas.
use Rattle.std.specs.Prelude.{◌≡◌, ◌*◌, ◌<◌, ℕ, List, None, slice_index}
use Rattle.cx_core.specs.declared.local.Local.{Local}
use Rattle.cx_core.specs.Layout.{lock_at}

-- a caller holds none
pub record HoldsNone (l : Local) : Type 0 where
  pub exclusive : l.exclusive ≡ None
  pub shared : l.shared ≡ None
  pub passer : l.passer ≡ None
  pub downgraded : l.downgraded ≡ None
  pub won : l.won ≡ None

-- some replica is free: nothing is counted in its lock word
pub record SomeFree (callers : ℕ) (words : List ℕ) : Type 0 where
  pub replica : ℕ
  pub below : replica < 2 * callers
  pub free : slice_index words (lock_at callers replica) ≡ 0
