use Rattle.life_tests.specs.Tests.{IsCounterClient}
use Rattle.life_tests.proofs.catch_ups.follow_by_turns.Given as goal

-- both clients are the pool's
abbrev pub invariant-loop-turn : goal.invariant-loop-turn
invariant-loop-turn g l = record { one : IsCounterClient l.pool l.one; other : IsCounterClient l.pool l.other }
