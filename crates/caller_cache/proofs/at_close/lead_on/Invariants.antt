use Rattle.std.proofs.Common.{◌+◌, ◌≤◌, ℕ, List, vec_capacity, vec_len}
use Rattle.caller_cache.specs.Wins.{IsWayBy}
use Rattle.caller_cache.proofs.Chaining.{Goes}
use Rattle.caller_cache.proofs.at_close.lead_on.Given as goal

abbrev pub invariant-loop-next : goal.invariant-loop-next
invariant-loop-next l = record {
  room : vec_len l.codes + vec_len l.wins ≤ vec_capacity l.codes;
  so_far : (above : List ℕ) (to : ℕ) → IsWayBy l.fn.wins.items l.fn.from above to → Goes l.fn.wins.items l.wins.items l.fn.from above to l.code l.codes.items;
}

abbrev pub decreases-loop-next : goal.decreases-loop-next
decreases-loop-next l = vec_len l.wins
