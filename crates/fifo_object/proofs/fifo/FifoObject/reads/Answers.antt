use Rattle.fifo_object.proofs.Runs.{reads_else, reads_then}
use Rattle.fifo_object.proofs.fifo.FifoObject.reads.Goals as goal

pub returns-then-kind-eq3 : goal.returns-then-kind-eq3
returns-then-kind-eq3 c = reads_then c.kind_in-kind.result c.args.op.now c.kind_in-kind.ensures c.if-kind-eq3.true

pub returns-else-kind-eq3 : goal.returns-else-kind-eq3
returns-else-kind-eq3 c = reads_else c.kind_in-kind.result c.args.op.now c.kind_in-kind.ensures c.if-kind-eq3.false
