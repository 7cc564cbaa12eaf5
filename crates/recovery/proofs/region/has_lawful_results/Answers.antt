use Rattle.std.proofs.Common.{arith}
use Rattle.recovery.proofs.Slots.{zeros_there}
use Rattle.recovery.proofs.region.has_lawful_results.Goals as goal

pub returns-then-not-is_blank : goal.returns-then-not-is_blank
returns-then-not-is_blank c =
    ((λ no. absurd (cc)), λ law. c.if-not-is_blank.ensures.1 (zeros_there c.args.words.now (omega (arith, c.requires)) law))
