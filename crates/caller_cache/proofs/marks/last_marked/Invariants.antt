use Rattle.std.proofs.Common.{◌≡◌, ◌<◌, ℕ, true, length, Some, vec_capacity, vec_len}
use Rattle.std.specs.List.{All, Contains, slice_get}
use Rattle.caller_cache.proofs.marks.last_marked.Given as goal

-- the addresses taken off are of no marked words
abbrev pub invariant-loop-at : goal.invariant-loop-at
invariant-loop-at l = record {
  capacity : vec_capacity l.listed ≡ vec_capacity l.fn.listed;
  within : All (λ at. at < length l.marks) l.listed.items;
  kept : (at : ℕ) → slice_get l.marks at ≡ Some true → Contains l.fn.listed.items at → Contains l.listed.items at;
}

abbrev pub decreases-loop-at : goal.decreases-loop-at
decreases-loop-at l = vec_len l.listed
