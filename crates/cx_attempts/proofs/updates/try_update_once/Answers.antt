use Rattle.std.proofs.Common.{Some, ap, refl, subst}
use Rattle.table_invariant.specs.Seats.{Seated}
use Rattle.cx_table.specs.Right.{Right}
use Rattle.cx_attempts.specs.Bringing.{CountsIn}
use Rattle.cx_attempts.proofs.Bringing.{counts_around}
use Rattle.cx_attempts.specs.Preparing.{Prepares, TriesPrepare}
use Rattle.cx_attempts.proofs.Answered.{answered_attempt, halted_attempt, handed_attempts, if_any_err, prepared_ready}
use Rattle.cx_attempts.proofs.updates.try_update_once.Goals as goal

pub hand_over-requires-clause-ready : goal.hand_over-requires-clause-ready
hand_over-requires-clause-ready g c =
    let r = c.args.shared.now in
    let mid = c.prepare.new.seat in
    let p : Prepares g.O.Object r c.args.ticket c.prepare.new.reply c.args.seat.now mid c.in-Some.held = subst (TriesPrepare g.O.Object r c.args.ticket c.prepare.new.reply c.args.seat.now mid) c.in-Some.is c.in_ok-held.ensures.prepared in
    (c.args.ticket, c.prepare.new.reply, prepared_ready g.O.Object r c.args.ticket c.prepare.new.reply c.args.seat.now mid c.in-Some.held c.in_ok-held.ensures.attempts.rest c.requires.ready.rest c.requires.last p)

pub returns-in_err-hand_over-clause-halted : goal.returns-in_err-hand_over-clause-halted
returns-in_err-hand_over-clause-halted g c =
    let r = c.args.shared.now in
    let mid = c.prepare.new.seat in
    let e = c.in_ok-held.ensures in
    let p : Prepares g.O.Object r c.args.ticket c.prepare.new.reply c.args.seat.now mid c.in-Some.held = subst (TriesPrepare g.O.Object r c.args.ticket c.prepare.new.reply c.args.seat.now mid) c.in-Some.is e.prepared in
    let ready = prepared_ready g.O.Object r c.args.ticket c.prepare.new.reply c.args.seat.now mid c.in-Some.held e.attempts.rest c.requires.ready.rest c.requires.last p in
    if_any_err c.from_residual-in_err-hand_over.result (halted_attempt c.args.ticket c.args.seat.now mid c.hand_over.new.seat e.attempts.rest p.met r.callers (c.in_err-hand_over.ensures.answered c.args.ticket c.prepare.new.reply ready))

pub returns-clause-attempted : goal.returns-clause-attempted
returns-clause-attempted g c =
    let r = c.args.shared.now in
    let mid = c.prepare.new.seat in
    let e = c.in_ok-held.ensures in
    let p : Prepares g.O.Object r c.args.ticket c.prepare.new.reply c.args.seat.now mid c.in-Some.held = subst (TriesPrepare g.O.Object r c.args.ticket c.prepare.new.reply c.args.seat.now mid) c.in-Some.is e.prepared in
    let ready = prepared_ready g.O.Object r c.args.ticket c.prepare.new.reply c.args.seat.now mid c.in-Some.held e.attempts.rest c.requires.ready.rest c.requires.last p in
    record {
      allowed = e.allowed;
      attempted = answered_attempt c.args.ticket c.args.seat.now mid c.hand_over.new.seat e.attempts.rest p.met c.prepare.new.reply (c.in_ok-hand_over.ensures.answered c.args.ticket c.prepare.new.reply ready);
    }

pub returns-clause-counted : goal.returns-clause-counted
returns-clause-counted g c =
    let s = c.args.seat.now in
    let mid = c.prepare.new.seat in
    let last = c.hand_over.new.seat in
    let now = c.prepare.new.scratch.taken in
    let e : CountsIn {X = Right} c.args.scratch.now.taken s now mid (Some c.in-Some.held) = subst (CountsIn {X = Right} c.args.scratch.now.taken s now mid) c.in-Some.is c.in_ok-held.ensures.counted in
    let was = counts_around c.args.scratch.now.taken now s s mid last refl (record { counted = e.counted; by_sets = e.by_sets }) (ap (λ (x : Seated). x.known.sets) c.hand_over.ensures.attempts.rest) in
    record { counted = was.counted; by_sets = was.by_sets }

pub returns-in_err-hand_over-clause-attempts : goal.returns-in_err-hand_over-clause-attempts
returns-in_err-hand_over-clause-attempts g c = handed_attempts c.args.shared.now _ c.args.seat.now c.prepare.new.seat c.hand_over.new.seat c.prepare.ensures.attempts c.hand_over.ensures.attempts

pub returns-clause-attempts : goal.returns-clause-attempts
returns-clause-attempts g c = handed_attempts c.args.shared.now _ c.args.seat.now c.prepare.new.seat c.hand_over.new.seat c.prepare.ensures.attempts c.hand_over.ensures.attempts
