use Rattle.std.proofs.Common.{◌≡◌, ◌≢◌, ◌<◌, ℕ, Some}
use Rattle.std.specs.List.{slice_get}
use Rattle.cx_core.specs.declared.local.WonCode.{WonCode}
use Rattle.caller_cache.proofs.at_close.take_over.Given as goal

abbrev pub invariant-loop-i : goal.invariant-loop-i
invariant-loop-i l = record {
  same : l.wins.items ≡ l.fn.wins.items;
  none : (k : ℕ) (w : WonCode) → k < l.i → slice_get l.wins.items k ≡ Some w → w.before ≢ l.before;
}
