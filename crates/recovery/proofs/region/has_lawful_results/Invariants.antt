use Rattle.std.proofs.Common.{◌<◌, ℕ}
use Rattle.recovery.specs.Recovery.{IsLawfulSlot}
use Rattle.recovery.proofs.region.has_lawful_results.Given as goal

abbrev pub invariant-loop-caller : goal.invariant-loop-caller
invariant-loop-caller l = (k : ℕ) → k < l.caller → IsLawfulSlot k l.words
