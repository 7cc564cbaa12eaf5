use Rattle.std.proofs.Common.{◌≡◌, ◌≤◌, take, vec_len}
use Rattle.caller_cache.specs.Wins.{wins_of}
use Rattle.trace_check.proofs.left.wins_held.Given as goal

abbrev pub invariant-loop-local : goal.invariant-loop-local
invariant-loop-local l = record {
  few : vec_len l.wins ≤ l.local-index;
  so_far : l.wins.items ≡ wins_of (take l.local-index l.locals);
}
