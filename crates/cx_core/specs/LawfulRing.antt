-- The lawful state's part on the ring: what is opened was closed first and is needed by no caller.
use Rattle.std.specs.Prelude.{◌≡◌, ◌<◌, ◌≤◌, ℕ, List, Some, slice_get, slice_index}
use Rattle.cx_base.specs.Codes.{root_place_of}
use Rattle.cx_core.specs.declared.local.Local.{Local}
use Rattle.cx_core.specs.declared.local.Protection.TheVariants.{Confirmed}
use Rattle.cx_core.specs.declared.local.Scan.{Scan}
use Rattle.cx_core.specs.Layout.{cur_at, free_at, low_at, need_at}
use Rattle.cx_core.specs.RingEvents.{need_word}
use Rattle.cx_core.specs.State.{EachLocal, Instance}

-- a scan's bound is at most its target, which is closed, and at most each confirmed protection of a caller that it has passed
pub record ScanStands (instance : Instance) (words : List ℕ) (locals : List Local) (s : Scan) : Type 0 where
  pub bound : s.bound ≤ s.target
  pub closed : s.target ≤ slice_index words low_at
  pub next : s.next ≤ instance.callers
  pub passed : (d : ℕ) (l : Local) → slice_get locals d ≡ Some l → d < s.next → (p : ℕ) → l.protection ≡ Confirmed p → s.bound ≤ p

-- a caller's need stands in its word, what it needs by a confirmed protection is not opened, and its scan's bound stands
pub record InRing (instance : Instance) (words : List ℕ) (locals : List Local) (caller : ℕ) (l : Local) : Type 0 where
  pub need : slice_index words (need_at caller) ≡ need_word l.protection
  pub kept : (p : ℕ) → l.protection ≡ Confirmed p → slice_index words free_at ≤ p
  pub scan : (s : Scan) → l.scan ≡ Some s → ScanStands instance words locals s

-- Ring: what is opened is closed, what is closed is at most the place of CUR, and each caller's need, protection and scan stand
pub record Ring (instance : Instance) (words : List ℕ) (locals : List Local) : Type 0 where
  pub closed : slice_index words free_at ≤ slice_index words low_at
  pub current : slice_index words low_at ≤ root_place_of instance.callers (slice_index words cur_at)
  pub each : EachLocal locals (InRing instance words locals)
