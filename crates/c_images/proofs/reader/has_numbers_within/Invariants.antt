use Rattle.std.proofs.Common.{◌<◌, ◌≤◌, ℕ}
use Rattle.cx_core.specs.Region.{slot_number}
use Rattle.c_images.proofs.reader.has_numbers_within.Given as goal

-- the results of the callers so far have no number above the place
abbrev pub invariant-loop-caller : goal.invariant-loop-caller
invariant-loop-caller l = (k : ℕ) → k < l.caller → slot_number k l.base.words ≤ l.base.place
