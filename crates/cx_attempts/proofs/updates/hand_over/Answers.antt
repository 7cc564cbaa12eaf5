use Rattle.std.proofs.Common.{arith, subst}
use Rattle.std.proofs.lemmas.Result.{MatchResult-weaker}
use Rattle.publish.specs.Publishing.{PassedBy, Publishes, WinsCur}
use Rattle.cx_attempts.proofs.Answered.{answered_later, both_weaker, passed_answers, passed_halted, passed_published, passed_attempts, settled_attempts, won_halted, won_published}
use Rattle.cx_attempts.proofs.updates.hand_over.Goals as goal

pub publish-requires : goal.publish-requires
publish-requires g c =
    let (ticket, reply, ready) = c.requires.ready in
    record { ready = record { of = c.requires.held.of; token = c.requires.held.token; none = ready.none } }

pub settle_won-requires-clause-published : goal.settle_won-requires-clause-published
settle_won-requires-clause-published g c =
    let r = c.args.shared.now in
    let p : WinsCur r.callers c.args.seat.now c.publish.new.seat c.in-Won.won = subst (Publishes r.callers c.args.seat.now c.publish.new.seat) c.in-Won.is c.in_ok-won.ensures.published in
    let (ticket, reply, ready) = c.requires.ready in
    (ticket, reply, won_published g.O.Object r ticket reply c.in-Won.won.code c.args.held.replica c.args.seat.now c.publish.new.seat c.publish.ensures.leaves.rest ready p.code c.requires.held.token.holds c.requires.held.token.few p.ended p.seen)

pub answer-requires-clause-published : goal.answer-requires-clause-published
answer-requires-clause-published g c =
    let r = c.args.shared.now in
    let p : PassedBy r.callers c.in-Passed.found c.args.seat.now c.publish.new.seat = subst (Publishes r.callers c.args.seat.now c.publish.new.seat) c.in-Passed.is c.in_ok-won.ensures.published in
    let (ticket, reply, ready) = c.requires.ready in
    (ticket, reply, passed_published g.O.Object r ticket reply c.in-Passed.found c.args.seat.now c.publish.new.seat c.publish.ensures.leaves.rest ready p)

pub returns-in-Won-clause-answered : goal.returns-in-Won-clause-answered
returns-in-Won-clause-answered g c ticket reply ready =
    let r = c.args.shared.now in
    let mid = c.publish.new.seat in
    let e = c.publish.ensures.leaves in
    let p : WinsCur r.callers c.args.seat.now mid c.in-Won.won = subst (Publishes r.callers c.args.seat.now mid) c.in-Won.is c.in_ok-won.ensures.published in
    let published = won_published g.O.Object r ticket reply c.in-Won.won.code c.args.held.replica c.args.seat.now mid e.rest ready p.code c.requires.held.token.holds c.requires.held.token.few p.ended p.seen in
    let last = c.settle_won.new.seat in
    MatchResult-weaker c.settle_won.result (c.settle_won.ensures.answered ticket reply published)
    (λ _. answered_later ticket c.args.seat.now mid last e.rest e.counted e.most reply)
    (λ _. won_halted ticket c.args.seat.now mid last e.rest e.counted e.most r.callers _ p.token.holds)

pub returns-in-Won-clause-attempts : goal.returns-in-Won-clause-attempts
returns-in-Won-clause-attempts g c =
    settled_attempts c.args.shared.now 2 c.args.seat.now c.publish.new.seat c.settle_won.new.seat (omega arith) c.publish.ensures.leaves c.settle_won.ensures.keeps

pub returns-in-Passed-clause-answered : goal.returns-in-Passed-clause-answered
returns-in-Passed-clause-answered g c ticket reply ready =
    let r = c.args.shared.now in
    let mid = c.publish.new.seat in
    let e = c.publish.ensures.leaves in
    let p : PassedBy r.callers c.in-Passed.found c.args.seat.now mid = subst (Publishes r.callers c.args.seat.now mid) c.in-Passed.is c.in_ok-won.ensures.published in
    let published = passed_published g.O.Object r ticket reply c.in-Passed.found c.args.seat.now mid e.rest ready p in
    let last = c.answer.new.seat in
    both_weaker c.answer.result (passed_answers ticket c.args.seat.now mid last e.rest e.counted e.most g.O.Object r c.in-Passed.found reply published p.none)
    (passed_halted ticket c.args.seat.now mid last e.rest e.counted e.most g.O.Object r c.in-Passed.found reply published) (c.answer.ensures.answered ticket reply published) c.answer.ensures.halted

pub returns-in-Passed-clause-attempts : goal.returns-in-Passed-clause-attempts
returns-in-Passed-clause-attempts g c =
    let (ticket, reply, ready) = c.requires.ready in
    let r = c.args.shared.now in
    let mid = c.publish.new.seat in
    let e = c.publish.ensures.leaves in
    let p : PassedBy r.callers c.in-Passed.found c.args.seat.now mid = subst (Publishes r.callers c.args.seat.now mid) c.in-Passed.is c.in_ok-won.ensures.published in
    let published = passed_published g.O.Object r ticket reply c.in-Passed.found c.args.seat.now mid e.rest ready p in
    let answered = c.answer.ensures.answered ticket reply published in
    passed_attempts ticket c.args.seat.now mid c.answer.new.seat e.rest e.counted e.most g.O.Object r c.in-Passed.found reply c.answer.result e answered c.answer.ensures.halted
