use Rattle.std.proofs.Common.{◌≡◌, ℕ, true, Some}
use Rattle.std.specs.List.{slice_get}
use Rattle.caller_cache.specs.Marks.{IsInLines}
use Rattle.caller_cache.proofs.marks.first_marked.Given as goal

-- no line passed over has a marked word
abbrev pub invariant-loop-line : goal.invariant-loop-line
invariant-loop-line l = (at : ℕ) → slice_get l.marks at ≡ Some true → IsInLines l.fn.lines l.fn.first at → IsInLines l.lines l.line at
