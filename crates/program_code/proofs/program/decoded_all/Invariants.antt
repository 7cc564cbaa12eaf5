use Rattle.program_code.specs.Program.{DecodesTo}
use Rattle.program_code.proofs.program.decoded_all.Given as goal

-- the instructions so far are those of the words so far
abbrev pub invariant-loop-at : goal.invariant-loop-at
invariant-loop-at l = DecodesTo l.words l.at l.code.items
