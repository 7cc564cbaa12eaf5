use Rattle.cx_lives.proofs.Calling.{reads_ask}
use Rattle.cx_lives.proofs.calls.ask_once.Goals as goal

pub returns-then-reads : goal.returns-then-reads
returns-then-reads g c = reads_ask c.args.service.now c.args.op.now c.read.new.reply c.args.caller c.read.result c.read.ensures
