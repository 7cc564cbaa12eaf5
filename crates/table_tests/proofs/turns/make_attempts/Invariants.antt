use Rattle.std.proofs.Common.{◌≡◌}
use Rattle.table_invariant.specs.Running.{IsSeatOf}
use Rattle.strong_trylock.specs.Held.{all_rights, no_rights}
use Rattle.table_tests.proofs.turns.make_attempts.Given as goal

-- before each turn the caller has no right
abbrev pub invariant-loop-k : goal.invariant-loop-k
invariant-loop-k g l = record {
  of : IsSeatOf l.shared l.seat;
  free : all_rights l.seat ≡ no_rights;
}
