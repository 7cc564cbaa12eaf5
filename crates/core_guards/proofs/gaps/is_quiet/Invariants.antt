use Rattle.std.proofs.Common.{◌<◌, ℕ}
use Rattle.cx_core.specs.Gaps.{IsSameLine}
use Rattle.core_guards.proofs.gaps.is_quiet.Given as goal

abbrev pub invariant-loop-n : goal.invariant-loop-n
invariant-loop-n l = (n : ℕ) → l.from < n → n < l.n → IsSameLine n l.before l.after
