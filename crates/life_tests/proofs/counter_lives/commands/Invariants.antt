use Rattle.std.proofs.Common.{◌≡◌, All, vec_len}
use Rattle.bounded_counters.specs.CounterMeaning.{IsOp}
use Rattle.life_tests.proofs.counter_lives.commands.Given as goal

abbrev pub invariant-loop-row : goal.invariant-loop-row
invariant-loop-row l = record {
  each : All (λ c. (c.client ≡ 0) × IsOp c.op) l.commands.items;
  count : vec_len l.commands ≡ l.row-index;
}
