-- The outcome of collecting cells.
use Rattle.std.specs.Prelude.{◌≡◌, ◌+◌, ◌<◌, ◌≤◌, ◌⊎◌, false, ℕ, min, Option, Some, None, Result, Ok, Err}
use Rattle.cx_base.specs.Codes.{root_place_of}
use Rattle.cx_core.specs.declared.local.Scan.{Scan}
use Rattle.cx_core.specs.declared.local.SeenNeed.{SeenNeed}
use Rattle.cx_core.specs.Layout.{max_word}
use Rattle.cx_core.specs.RingEvents.{need_word}
use Rattle.cx_core.specs.State.{one_more}
use Rattle.cx_table.specs.Running.{IsSeatOf, Running}
use Rattle.cx_table.specs.Seats.{IsAtLimit, Seated}
use Rattle.mutation_queue.specs.declared.reclamation.Collected.{Collected}

-- a seat but for the scan under way, the greatest FREE found, what scans found, whether what was seen of CUR is fresh, and the counts of
-- steps and scans
abbrev pub except_collected : Seated → Seated
except_collected s = record s { known = record s.known { local = record s.known.local { seen_free = 0; seen_need = None; scan = None; fresh = false; steps = 0; scans = 0 } } }

-- LOW may be raised to a target: it is at most the place of the code last loaded from CUR, and no scan is under way
pub record MayCollect {O : Type 0} (r : Running O) (target : ℕ) (seat : Seated) : Type 0 where
  pub of : IsSeatOf r seat
  pub below : target ≤ root_place_of r.callers seat.known.local.seen_cur
  pub none : seat.known.local.scan ≡ None

-- LOW was raised to a target, each caller's need was scanned, and FREE was raised to the least of them and the target. What the scan
-- found is noted: the least need, and the least caller that had it. The caller's own is the one that it states.
pub record Collects (callers target : ℕ) (before after : Seated) (found : Collected) : Type 0 where
  pub same : except_collected after ≡ except_collected before
  pub fresh : after.known.local.fresh ≡ false
  pub scan : after.known.local.scan ≡ None
  pub scans : after.known.local.scans ≡ one_more before.known.local.scans
  pub seen : after.known.local.seen_need ≡ Some (record { need = found.need; caller = found.holder })
  pub free : after.known.local.seen_free ≡ found.free
  pub rises : before.known.local.seen_free ≤ found.free
  pub opened : min target found.need ≤ found.free
  pub holder : found.holder < callers
  pub own : found.holder ≡ before.known.local.number → found.need ≡ need_word before.known.local.protection
  pub count : after.known.local.steps ≡ min (before.known.local.steps + callers + 3) max_word

-- a seat but for the scan under way and its steps
abbrev pub except_scanned : Seated → Seated
except_scanned s = record s { known = record s.known { local = record s.known.local { scan = None; steps = 0 } } }

-- What a scan of the callers below one found: the bound is the least of the target and their needs, and the least need is noted with
-- the least caller that had it. Where that is the caller which scans, it is the caller's own need.
abbrev pub FindsLeast : ℕ → ℕ → ℕ → ℕ → ℕ → Option SeenNeed → Type 0
FindsLeast target d number own bound None = (d ≡ 0) × (bound ≡ target)
FindsLeast target d number own bound (Some least) = (least.caller < d) × (bound ≡ min target least.need) × (least.caller ≡ number → least.need ≡ own)

-- a scan that has reached a caller
abbrev pub ScansTo : ℕ → ℕ → ℕ → ℕ → Option Scan → Type 0
ScansTo target d number own None = ⊥
ScansTo target d number own (Some s) = (s.next ≡ d) × FindsLeast target d number own s.bound s.least

-- LOW was raised to a target, and the needs of the callers below one were scanned
pub record Scans (target d : ℕ) (before after : Seated) : Type 0 where
  pub same : except_scanned after ≡ except_scanned before
  pub scan : ScansTo target d before.known.local.number (need_word before.known.local.protection) after.known.local.scan
  pub count : after.known.local.steps ≡ min (before.known.local.steps + d + 1) max_word

-- nothing was done, or LOW was raised and the needs of some of the callers were scanned, with which FREE is still to be raised
abbrev pub ScansSome : ℕ → ℕ → Seated → Seated → Type 0
ScansSome callers target before after = (after ≡ before) ⊎ ((d : ℕ) × (d ≤ callers) × Scans target d before after)

-- what a scan leaves: the needs of all callers were scanned, or the limit came before some
abbrev pub EndsScanning : {E A : Type 0} → ℕ → ℕ → Seated → Seated → Result A E → Type 0
EndsScanning callers target before after (Ok x) = Scans target callers before after
EndsScanning callers target before after (Err e) = ScansSome callers target before after

-- FREE was raised to what a scan found, and is still to be loaded
pub record Opens (callers : ℕ) (before after : Seated) : Type 0 where
  pub same : except_collected after ≡ except_collected before
  pub scan : after.known.local.scan ≡ None
  pub scans : after.known.local.scans ≡ one_more before.known.local.scans
  pub count : after.known.local.steps ≡ min (before.known.local.steps + callers + 2) max_word

-- The limit came before the last of the steps.
pub record HaltsCollecting (callers target : ℕ) (before after : Seated) : Type 0 where
  pub limit : IsAtLimit after.known.local
  pub left : ScansSome callers target before after ⊎ Opens callers before after

-- what collecting leaves: FREE was raised, or the limit came before the last of the steps
abbrev pub EndsCollecting : {E : Type 0} → ℕ → ℕ → Seated → Seated → Result Collected E → Type 0
EndsCollecting callers target before after (Ok found) = Collects callers target before after found
EndsCollecting callers target before after (Err e) = HaltsCollecting callers target before after
