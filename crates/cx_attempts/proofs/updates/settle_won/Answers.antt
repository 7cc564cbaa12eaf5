use Rattle.std.proofs.Common.{◌≤◌, subst, sym}
use Rattle.cx_attempts.specs.Answering.{IsPublishedFor}
use Rattle.cx_attempts.proofs.Answered.{halted_leaves, only_err, raised_most, retired_answers, retired_halted, retired_leaves, still_won}
use Rattle.cx_attempts.proofs.updates.settle_won.Goals as goal

pub retire-requires : goal.retire-requires
retire-requires g c =
    let r = c.args.shared.now in
    let (ticket, reply, published) = c.requires.published in
    let by = c.in_ok-answer.ensures.answered ticket reply (subst (λ n. IsPublishedFor g.O.Object r n ticket reply c.args.seat.now) (sym c.code.ensures) published) in
    record {
      seat = by.seat;
      won = still_won g.O.Object r c.code.result ticket reply c.args.seat.now c.answer.new.seat by c.args.won c.requires.won;
      raised = subst (λ n. n ≤ c.answer.new.seat.known.local.raised) c.code.ensures (raised_most g.O.Object r c.code.result ticket reply c.args.seat.now c.answer.new.seat by);
    }

pub returns-in_err-retire-clause-answered : goal.returns-in_err-retire-clause-answered
returns-in_err-retire-clause-answered g c ticket reply published =
    let r = c.args.shared.now in
    let by = c.in_ok-answer.ensures.answered ticket reply (subst (λ n. IsPublishedFor g.O.Object r n ticket reply c.args.seat.now) (sym c.code.ensures) published) in
    only_err _ _ _ c.from_residual-in_err-retire.result c.from_residual-in_err-retire.ensures.1 (retired_halted g.O.Object r c.code.result ticket reply c.args.seat.now c.answer.new.seat by c.retire.new.seat c.in_err-retire.ensures.halted)

pub returns-in_err-retire-clause-keeps : goal.returns-in_err-retire-clause-keeps
returns-in_err-retire-clause-keeps g c =
    let r = c.args.shared.now in
    let (ticket, reply, published) = c.requires.published in
    let by = c.in_ok-answer.ensures.answered ticket reply (subst (λ n. IsPublishedFor g.O.Object r n ticket reply c.args.seat.now) (sym c.code.ensures) published) in
    halted_leaves g.O.Object r c.code.result ticket reply c.args.seat.now c.answer.new.seat by c.retire.new.seat c.in_err-retire.ensures.halted

pub returns-clause-answered : goal.returns-clause-answered
returns-clause-answered g c ticket reply published =
    let r = c.args.shared.now in
    let by = c.in_ok-answer.ensures.answered ticket reply (subst (λ n. IsPublishedFor g.O.Object r n ticket reply c.args.seat.now) (sym c.code.ensures) published) in
    let made = c.in_ok-retire.ensures.made in
    retired_answers g.O.Object r c.code.result ticket reply c.args.seat.now c.answer.new.seat by made.found c.retire.new.seat made.made published.rest published.ended

pub returns-clause-keeps : goal.returns-clause-keeps
returns-clause-keeps g c =
    let r = c.args.shared.now in
    let (ticket, reply, published) = c.requires.published in
    let by = c.in_ok-answer.ensures.answered ticket reply (subst (λ n. IsPublishedFor g.O.Object r n ticket reply c.args.seat.now) (sym c.code.ensures) published) in
    let made = c.in_ok-retire.ensures.made in
    retired_leaves g.O.Object r c.code.result ticket reply c.args.seat.now c.answer.new.seat by made.found c.retire.new.seat made.made
