-- The numbers of a local state that code reads, after a raise.
use Rattle.std.specs.Prelude.{false, ◌||◌, if◌then◌else◌, ℕ, max, nat_lt, Bool, Option, Some, None}
use Rattle.cx_base.specs.Codes.{root_place_of}
use Rattle.cx_core.specs.State.{one_more}
use Rattle.caller_cache.specs.declared.summary.CachedLocal.{CachedLocal}

-- a ticket is below a place, where there is one
abbrev pub is_below : ℕ → Option ℕ → Bool
is_below place None = false
is_below place (Some ticket) = nat_lt ticket place

-- after a raise of DUR by a code, with a read that is answered or without: the unanswered entry is answered where its ticket is below
-- the code's place
abbrev pub raised_summary : ℕ → ℕ → Bool → CachedLocal → CachedLocal
raised_summary callers code read m = record m {
  unanswered = if is_below (root_place_of callers code) m.unanswered then None else m.unanswered;
  raised = max m.raised code;
  floor = if is_below (root_place_of callers code) m.unanswered || read then max m.floor (root_place_of callers code) else m.floor;
  fresh = false;
  steps = one_more m.steps;
}
