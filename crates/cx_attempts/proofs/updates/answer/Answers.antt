use Rattle.cx_attempts.proofs.Answered.{answers_known}
use Rattle.cx_attempts.proofs.updates.answer.Goals as goal

pub make_durable-requires-clause-answers : goal.make_durable-requires-clause-answers
make_durable-requires-clause-answers g c =
    let (ticket, reply, published) = c.requires.published in
    (_, answers_known g.O.Object c.args.shared.now ticket reply c.args.code c.args.seat.now published)
