use Rattle.std.proofs.Common.{◌≢◌, ◌<◌, ◌≤◌, ℕ, true, Some}
use Rattle.std.specs.List.{slice_get}
use Rattle.caller_cache.proofs.marks.marked_in.Given as goal

abbrev pub invariant-loop-at : goal.invariant-loop-at
invariant-loop-at l = (at : ℕ) → l.from ≤ at → at < l.at → slice_get l.marks at ≢ Some true
