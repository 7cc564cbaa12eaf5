use Rattle.std.proofs.Common.{◌<◌, ◌≤◌, ℕ}
use Rattle.cx_core.specs.Region.{slot_number}
use Rattle.service_tests.proofs.upgraded.has_numbers_within.Given as goal

abbrev pub invariant-loop-caller : goal.invariant-loop-caller
invariant-loop-caller l = (c : ℕ) → c < l.caller → slot_number c l.base.words ≤ l.base.place
