use Rattle.std.proofs.Common.{◌≡◌, ◌≤◌, ℕ, All, arith, ap, length, refl, subst, sym, ◌∙◌}
use Rattle.std.specs.Prelude.{vec_capacity}
use Rattle.std.specs.Arc.{arc_value}
use Rattle.std.specs.List.{range_with_len}
use Rattle.crossbeam_queue.specs.Passes.{IsPassOf}
use Rattle.table_invariant.specs.Running.{Running}
use Rattle.cx_service.specs.declared.close.Handed.{Handed}
use Rattle.seat_pool.specs.Gathering.{IsHandedOf, handed_number}
use Rattle.seat_pool.specs.Pooling.{total_weight}
use Rattle.c_sessions.specs.Closings.{AreAccounted, ClosesTo}
use Rattle.c_sessions.specs.Handing.{HasTaken}
use Rattle.c_sessions.specs.Rule.{TellsAll}
use Rattle.c_sessions.specs.declared.exit.Account.{Account}
use Rattle.c_sessions.specs.declared.handover.ReturnQueue.{ReturnQueue}
use Rattle.c_sessions.specs.declared.rule.Knows.{Knows}
use Rattle.c_sessions.proofs.Endings.{are_accounted, has_all, has_same, its_share, no_share}
use Rattle.c_sessions.proofs.close.close_rest.Goals as goal

-- the callers that were taken out before are what `gather` is given
pub gather-service-requires-clause-taken : goal.gather-service-requires-clause-taken
gather-service-requires-clause-taken g c = (c.requires.0, c.requires.1, subst (λ (h : ReturnQueue _). HasTaken c.requires.0 c.requires.1 h c.args.rest.exit.pass c.args.rest.service c.args.rest.exit.gathered.items) (sym c.deref.ensures) c.requires.2.has)

-- the pass is of the queue and knows the service, as `learn` needs
pub learn-requires : goal.learn-requires
learn-requires g c =
    let r = c.requires.0 in let given = c.requires.1 in
    let has = c.gather-service.ensures.taken r given (subst (λ (h : ReturnQueue _). HasTaken r given h c.args.rest.exit.pass c.args.rest.service c.args.rest.exit.gathered.items) (sym c.deref.ensures) c.requires.2.has) in
    let here = subst (λ (h : ReturnQueue _). HasTaken r given h c.gather-service.new.pass c.gather-service.result.0 c.gather-service.result.1.items) (c.deref.ensures ∙ sym c.deref-3.ensures) has in
    (here.of, r, ap (λ (v : Knows _). v.home) here.is)

-- where as many callers were gathered as the service has, there is a share of it
pub unreachable-requires : goal.unreachable-requires
unreachable-requires g c =
    let r = c.requires.0 in let given = c.requires.1 in
    let has = c.gather-service.ensures.taken r given (subst (λ (h : ReturnQueue _). HasTaken r given h c.args.rest.exit.pass c.args.rest.service c.args.rest.exit.gathered.items) (sym c.deref.ensures) c.requires.2.has) in
    let count : c.deref-2.result.now.callers ≡ r.callers = ap (λ (h : ReturnQueue _). h.callers) c.deref-2.ensures ∙ c.requires.2.count in
    let found = c.len.ensures in let least = c.if-len-deref.false in
    let many : r.callers ≤ length c.gather-service.result.1.items = omega (arith, count, found, least, c.gather-service.result.1.ok) in
    no_share r c.gather-service.result.0 c.gather-service.result.1.items has.share_is c.in_default.is c.requires.2.some many

-- each caller that was gathered is one of the service that was had alone
pub in_order-callers-requires-clause-all : goal.in_order-callers-requires-clause-all
in_order-callers-requires-clause-all g c =
    let r = c.requires.0 in let given = c.requires.1 in
    let has = c.gather-service.ensures.taken r given (subst (λ (h : ReturnQueue _). HasTaken r given h c.args.rest.exit.pass c.args.rest.service c.args.rest.exit.gathered.items) (sym c.deref.ensures) c.requires.2.has) in
    let same = c.in-Ok.ensures.ok ∙ its_share r c.gather-service.result.0 c.in-Some.service c.gather-service.result.1.items has.share_is c.in-Some.is in
    subst (λ (q : Running _). All (IsHandedOf q) c.gather-service.result.1.items) (sym same) has.each

-- the callers that were gathered are all of the service, each once
pub in_order-callers-requires-clause-numbers : goal.in_order-callers-requires-clause-numbers
in_order-callers-requires-clause-numbers g c =
    let r = c.requires.0 in let given = c.requires.1 in
    let has = c.gather-service.ensures.taken r given (subst (λ (h : ReturnQueue _). HasTaken r given h c.args.rest.exit.pass c.args.rest.service c.args.rest.exit.gathered.items) (sym c.deref.ensures) c.requires.2.has) in
    let same = c.in-Ok.ensures.ok ∙ its_share r c.gather-service.result.0 c.in-Some.service c.gather-service.result.1.items has.share_is c.in-Some.is in
    let count : c.deref-2.result.now.callers ≡ r.callers = ap (λ (h : ReturnQueue _). h.callers) c.deref-2.ensures ∙ c.requires.2.count in
    let found = c.len.ensures in let least = c.if-len-deref.false in
    let many : r.callers ≤ length c.gather-service.result.1.items = omega (arith, count, found, least, c.gather-service.result.1.ok) in
    subst (λ (q : Running _). (h : ℕ → ℕ) → total_weight (λ (x : Handed). h (handed_number x)) c.gather-service.result.1.items ≡ total_weight h (range_with_len 0 q.callers)) (sym same)
    (has_all r given c.deref.result.now c.gather-service.new.pass c.gather-service.result.0 c.gather-service.result.1.items has many c.learn.ensures.all)

-- there is room for all callers of the service in order
pub in_order-callers-requires-clause-out : goal.in_order-callers-requires-clause-out
in_order-callers-requires-clause-out g c =
    let r = c.requires.0 in let given = c.requires.1 in
    let has = c.gather-service.ensures.taken r given (subst (λ (h : ReturnQueue _). HasTaken r given h c.args.rest.exit.pass c.args.rest.service c.args.rest.exit.gathered.items) (sym c.deref.ensures) c.requires.2.has) in
    let same = c.in-Ok.ensures.ok ∙ its_share r c.gather-service.result.0 c.in-Some.service c.gather-service.result.1.items has.share_is c.in-Some.is in
    (c.requires.2.out.none, subst (λ (q : Running _). q.callers ≤ vec_capacity c.args.rest.exit.out) (sym same) c.requires.2.out.enough)

-- closing the service with all callers, which the pass accounts for, is what the function promises
pub returns-in-Ok : goal.returns-in-Ok
returns-in-Ok g c = λ r given is. (
    let pass = c.learn.new.pass in
    let gathered = c.gather-service.result.1.items in
    let share = c.gather-service.result.0 in
    -- what the pass took out, before and after it learned where the callers are
    let had = c.gather-service.ensures.taken r given (subst (λ (h : ReturnQueue _). HasTaken r given h c.args.rest.exit.pass c.args.rest.service c.args.rest.exit.gathered.items) (sym c.deref.ensures) is.has) in
    let handover = arc_value c.args.rest.exit.handover in
    let before = subst (λ (h : ReturnQueue _). HasTaken r given h c.gather-service.new.pass share gathered) c.deref.ensures had in
    let of = subst (λ (h : ReturnQueue _). IsPassOf h.line pass) c.deref-3.ensures c.learn.ensures.same.0 in
    let has = has_same r given handover c.gather-service.new.pass pass share gathered before of c.learn.ensures.same.1 in
    let tells = subst (λ (v : Knows _). TellsAll v) (sym c.learn.ensures.same.1) c.learn.ensures.all in
    let count : c.deref-2.result.now.callers ≡ r.callers = ap (λ (h : ReturnQueue _). h.callers) c.deref-2.ensures ∙ is.count in
    let found = c.len.ensures in let least = c.if-len-deref.false in
    -- as many callers were gathered as the service has
    let many : r.callers ≤ length gathered = omega (arith, count, found, least, c.gather-service.result.1.ok) in
    let account : Account _ = record { pass = pass } in
    let accounted : AreAccounted handover given account c.in_order-callers.result.items = are_accounted r given handover pass share gathered has many tells account c.in_order-callers.result.items refl c.in_order-callers.ensures.same in
    let same = c.in-Ok.ensures.ok ∙ its_share r share c.in-Some.service gathered had.share_is c.in-Some.is in
    subst (λ (q : Running _). ClosesTo g.O.Object.line_count g.O.Object.lawful g.O.Object.step g.O.Object.only_reads q handover given c.close_all.result) same (c.close_all.ensures handover given accounted))
