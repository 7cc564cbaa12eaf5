use Rattle.std.proofs.Common.{◌≡◌, ◌+◌, ◌*◌, ◌<◌, ℕ, length, slice_index}
use Rattle.cx_core.specs.WriteSet.{stored}
use Rattle.core_guards.proofs.sets.leads.Given as goal

abbrev pub invariant-loop-m : goal.invariant-loop-m
invariant-loop-m l =
    (l.region ≡ stored l.m l.set l.initial.region)
    × ((k : ℕ) → k < l.m → slice_index l.set (2 * k + 1) < length l.initial.region)
