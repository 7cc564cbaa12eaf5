use Rattle.std.proofs.Common.{◌≡◌, ◌<◌, ℕ, get_or}
use Rattle.pmem_model.specs.Medium.{left_in_medium}
use Rattle.pmem_model.proofs.medium.Medium.image.Given as goal

abbrev pub invariant-loop-at : goal.invariant-loop-at
invariant-loop-at l = (k : ℕ) → k < l.at → get_or l.into k 0 ≡ left_in_medium l.choice l.self k
