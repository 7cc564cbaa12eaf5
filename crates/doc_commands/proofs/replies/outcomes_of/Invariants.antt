use Rattle.doc_commands.proofs.Commands.{IsToldBelow}
use Rattle.doc_commands.proofs.replies.outcomes_of.Given as goal

abbrev pub invariant-loop-client : goal.invariant-loop-client
invariant-loop-client l = IsToldBelow l.base.words l.client l.outcomes
