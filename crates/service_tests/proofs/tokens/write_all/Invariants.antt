use Rattle.service_parts.specs.Callers.{IsBack}
use Rattle.service_tests.proofs.tokens.write_all.Given as goal

-- the same caller, in no call
abbrev pub invariant-loop : goal.invariant-loop
invariant-loop g l = IsBack l.service l.fn.caller l.caller
