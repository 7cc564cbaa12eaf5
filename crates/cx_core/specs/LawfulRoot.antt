-- The lawful state's part on the root: the chain leads from DUR to CUR, what callers have seen of CUR and won with stands in
-- it, and each replica that it names has the place of its code.
use Rattle.std.specs.Prelude.{◌≡◌, ◌+◌, ◌*◌, ◌<◌, ◌≤◌, ℕ, List, Some, length, slice_index}
use Rattle.std.specs.List.{Contains}
use Rattle.cx_base.specs.Codes.{root_place_of, root_replica_of}
use Rattle.cx_core.specs.declared.entry.Entry.{Entry}
use Rattle.cx_core.specs.declared.local.HeldDowngraded.{HeldDowngraded}
use Rattle.cx_core.specs.declared.local.Local.{Local}
use Rattle.cx_core.specs.declared.local.WonCode.{WonCode}
use Rattle.cx_core.specs.Chain.{Leads, WinsApart}
use Rattle.cx_core.specs.LawfulRegions.{vol_word}
use Rattle.cx_core.specs.Layout.{cur_at, dur_at}
use Rattle.cx_core.specs.State.{EachLocal, Instance}

-- a code is at most CUR, and above DUR it stands in the chain, whose codes above DUR are given
pub record OnChain (words : List ℕ) (above : List ℕ) (code : ℕ) : Type 0 where
  pub most : code ≤ slice_index words cur_at
  pub among : slice_index words dur_at < code → Contains above code

-- the replica that a code names has the code's place
abbrev pub IsPlaced : Instance → List ℕ → ℕ → Type 0
IsPlaced instance words code = vol_word instance words (root_replica_of instance.callers code) 0 ≡ root_place_of instance.callers code

-- a win rises in place, its code stands, and the code before it is placed
pub record WinStands (instance : Instance) (words above : List ℕ) (won : WonCode) : Type 0 where
  pub rises : root_place_of instance.callers won.before < root_place_of instance.callers won.code
  pub stands : OnChain words above won.code
  pub placed : IsPlaced instance words won.before

-- what a caller has seen of CUR and won with stands, and the replica that it has downgraded has the place of its right
pub record InChain (instance : Instance) (words above : List ℕ) (l : Local) : Type 0 where
  pub seen : OnChain words above l.seen_cur
  pub won : (won : WonCode) → l.won ≡ Some won → WinStands instance words above won
  pub downgraded : (h : HeldDowngraded) → l.downgraded ≡ Some h → vol_word instance words h.replica 0 ≡ h.place

-- Root: there is a chain, which is the only one, the code in CUR is placed, and what each caller has seen of CUR, won with and downgraded stands in the
-- chain
pub record Root (instance : Instance) (words : List ℕ) (locals : List Local) : Type 0 where
  pub above : List ℕ
  pub leads : Leads locals (slice_index words dur_at) above (slice_index words cur_at)
  pub apart : WinsApart locals
  pub current : IsPlaced instance words (slice_index words cur_at)
  pub each : EachLocal locals (λ _ l. InChain instance words above l)

-- what the part on fronts needs of a caller and of the root, where the history ends there: what it has seen and won with is at
-- most CUR, and what it has downgraded is a replica that there is, at a place that is no further
pub record WithinRoot (instance : Instance) (end_ cur : ℕ) (l : Local) : Type 0 where
  pub seen : l.seen_cur ≤ cur
  pub won : (won : WonCode) → l.won ≡ Some won → won.code ≤ cur
  pub replica : (h : HeldDowngraded) → l.downgraded ≡ Some h → h.replica < 2 * instance.callers
  pub place : (h : HeldDowngraded) → l.downgraded ≡ Some h → h.place ≤ end_

-- DUR is at most CUR, CUR's place is at most the history's end, and what each caller has seen, won with and downgraded is within these. It follows from the
-- parts on locks, regions and the root.
pub record RootBounds (instance : Instance) (history : List Entry) (words : List ℕ) (locals : List Local) : Type 0 where
  pub dur : slice_index words dur_at ≤ slice_index words cur_at
  pub current : root_place_of instance.callers (slice_index words cur_at) ≤ instance.base.place + length history
  pub each : EachLocal locals (λ _ l. WithinRoot instance (instance.base.place + length history) (slice_index words cur_at) l)
