use Rattle.cx_attempts.proofs.Answered.{only_err, read_halted}
use Rattle.cx_attempts.proofs.lookup.settle_read.Goals as goal

pub returns-in_err-release_shared-clause-answered : goal.returns-in_err-release_shared-clause-answered
returns-in_err-release_shared-clause-answered g c =
    only_err _ _ _ c.from_residual-in_err-release_shared.result c.from_residual-in_err-release_shared.ensures.1
    (read_halted g.O.Object c.args.shared.now c.seen_cur-code.result c.args.hold.replica c.args.op.now c.args.reply.now c.args.seat.now c.answer_read.new.seat c.release_shared.new.seat c.requires.read.read.current.held.right.holds c.in_ok-answer_read.ensures.answered
    c.in_err-release_shared.ensures.halted)
