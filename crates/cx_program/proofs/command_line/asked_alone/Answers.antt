use Rattle.cx_program.proofs.Forms.{none_alone}
use Rattle.cx_program.proofs.command_line.asked_alone.Goals as goal

pub returns-in_default : goal.returns-in_default
returns-in_default c = none_alone c.args.word.now c.in_default.not-run c.in_default.not-image c.in_default.not-recover c.in_default.not-fifo c.in_default.not-trace
