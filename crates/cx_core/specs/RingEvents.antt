-- The kinds of step of the ring, in which cells come round again: a caller states from which ticket on it needs cells, confirms
-- that they are not closed yet, and releases the protection; and a caller closes tickets below a target, scans what the callers
-- need, and opens what none of them needs.
use Rattle.std.specs.Prelude.{◌≡◌, ◌+◌, ◌≤◌, ◌&&◌, ℕ, max, min, nat_le, nat_lt, Bool, false, if◌then◌else◌, Option, Some, None, IsNone}
use Rattle.cx_base.specs.Codes.{root_place_of}
use Rattle.cx_core.specs.declared.local.Local.{Local}
use Rattle.cx_core.specs.declared.local.Protection.{Protection}
use Rattle.cx_core.specs.declared.local.Protection.TheVariants.{Unprotected, Stated, Confirmed}
use Rattle.cx_core.specs.declared.local.Scan.{Scan}
use Rattle.cx_core.specs.declared.local.SeenNeed.{SeenNeed}
use Rattle.cx_core.specs.Layout.{max_word}
use Rattle.cx_core.specs.State.{one_more}

-- no protection stands
abbrev pub IsUnprotected : Protection → Type 0
IsUnprotected Unprotected = Unit {0}
IsUnprotected (Stated p) = ⊥
IsUnprotected (Confirmed p) = ⊥

-- a protection is stated and not confirmed
abbrev pub IsStated : Protection → Type 0
IsStated Unprotected = ⊥
IsStated (Stated p) = Unit {0}
IsStated (Confirmed p) = ⊥

-- a protection stands, stated or confirmed
abbrev pub IsProtected : Protection → Type 0
IsProtected Unprotected = ⊥
IsProtected (Stated p) = Unit {0}
IsProtected (Confirmed p) = Unit {0}

-- a ticket is kept by a protection that is confirmed at or below it
abbrev pub Protects : ℕ → Protection → Type 0
Protects ticket Unprotected = ⊥
Protects ticket (Stated p) = ⊥
Protects ticket (Confirmed p) = p ≤ ticket

-- the word of a caller's need: the place at which its protection stands, and 2^64 - 1 where it has none
abbrev pub need_word : Protection → ℕ
need_word Unprotected = max_word
need_word (Stated p) = p
need_word (Confirmed p) = p

-- a caller may close tickets up to the place of the code last found in CUR, while it scans nothing
abbrev pub CanClose : ℕ → ℕ → Local → Type 0
CanClose callers target l = (target ≤ root_place_of callers l.seen_cur) × IsNone l.scan

-- this is the next caller of the scan
abbrev pub IsNext : ℕ → Option Scan → Type 0
IsNext d None = ⊥
IsNext d (Some s) = s.next ≡ d

-- the protection after LOW was found: it is confirmed where LOW is at most its place
abbrev pub confirmed_by : ℕ → Protection → Protection
confirmed_by found Unprotected = Unprotected
confirmed_by found (Stated p) = if nat_le found p then Confirmed p else Stated p
confirmed_by found (Confirmed p) = Confirmed p

-- whether LOW was found above the place of a protection, though that is not below the place of the code last loaded from CUR: then
-- that code is outdated
abbrev pub shows_outdated : ℕ → Local → ℕ → Protection → Bool
shows_outdated callers l found Unprotected = false
shows_outdated callers l found (Stated p) = nat_lt p found && (nat_le (root_place_of callers l.seen_cur) p && l.fresh)
shows_outdated callers l found (Confirmed p) = false

-- the local state after a protection was stated
abbrev pub stated : ℕ → Local → Local
stated p l = record l { protection = Stated p; steps = one_more l.steps }

-- the local state after LOW was loaded to confirm a protection
abbrev pub confirmed : ℕ → Local → ℕ → Local
confirmed callers l found = record l {
  seen_low = max l.seen_low found;
  protection = confirmed_by found l.protection;
  met = if shows_outdated callers l found l.protection then one_more l.met else l.met;
  fresh = if shows_outdated callers l found l.protection then false else l.fresh;
  steps = one_more l.steps;
}

-- the local state after LOW was raised to a target: a scan begins
abbrev pub closing : ℕ → Local → Local
closing target l = record l { scan = Some (record { target = target; bound = target; next = 0; least = None }); steps = one_more l.steps }

-- the least need found so far, and the least caller that had it
abbrev pub lesser : ℕ → ℕ → Option SeenNeed → SeenNeed
lesser d found None = record { need = found; caller = d }
lesser d found (Some least) = if nat_lt found least.need then record { need = found; caller = d } else least

-- a scan after the need of its next caller was found
abbrev pub scanned_on : ℕ → ℕ → Scan → Scan
scanned_on d found s = record s { bound = min s.bound found; next = d + 1; least = Some (lesser d found s.least) }

-- the scan, if any, after the need of its next caller was found
abbrev pub scan_after : ℕ → ℕ → Option Scan → Option Scan
scan_after d found None = None
scan_after d found (Some s) = Some (scanned_on d found s)

-- the local state after a caller's need was found
abbrev pub scanned : ℕ → Local → ℕ → Local
scanned d l found = record l { scan = scan_after d found l.scan; steps = one_more l.steps }

-- below which no caller that was scanned needs a ticket
abbrev pub bound_in : Option Scan → ℕ
bound_in None = 0
bound_in (Some s) = s.bound

-- the least need that a scan, if any, found so far, with its caller
abbrev pub least_in : Option Scan → Option SeenNeed
least_in None = None
least_in (Some s) = s.least

-- the local state after FREE was raised to a scan's bound: the scan ends, and what it found least stays known
abbrev pub opened : Local → ℕ → Local
opened l found = record l {
  seen_free = max l.seen_free (max found (bound_in l.scan));
  seen_need = least_in l.scan;
  scan = None;
  fresh = false;
  steps = one_more l.steps;
  scans = one_more l.scans;
}
