use Rattle.std.proofs.Common.{[]}
use Rattle.fifo_commands.proofs.Naming.{legal_named}
use Rattle.fifo_commands.proofs.report_laws.legal_lives_can_be_reported.Goals as goal

pub returns : goal.returns
returns c = λ script records are. legal_named script.lines 0 [] script.lives records are
