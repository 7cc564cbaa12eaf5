use Rattle.std.proofs.Common.{subst, sym}
use Rattle.cx_lives.specs.Ends.{IsWorkOf}
use Rattle.cx_lives.specs.Works.{IsFullLeft, IsClientLeft, ServedOf}
use Rattle.cx_lives.proofs.CommandOutcomes.{given_up_work}
use Rattle.cx_lives.proofs.work.go_on.Goals as goal

pub serve_on-requires-clause-left : goal.serve_on-requires-clause-left
serve_on-requires-clause-left g c = λ κs lives. subst (λ k. IsClientLeft (g.O.TypedObject.meaning c.args.service.now.object) c.args.life.now c.args.service.now k c.loop.left) (sym c.loop.invariant.served.lists.by) c.loop.invariant

pub returns-then-has_stopped-clause-work : goal.returns-then-has_stopped-clause-work
returns-then-has_stopped-clause-work g c =
    let life = c.args.life.now in
    let r = c.args.service.now in
    let me = c.args.left.progress.caller.known.local.number in
    let back = c.in-Full.back in
    let line = c.in-Full.line in
    let last : IsFullLeft (g.O.TypedObject.meaning c.args.service.now.object) life r c.loop.left.progress.caller.known.local.number back line = subst (ServedOf (g.O.TypedObject.meaning c.args.service.now.object) life r c.loop.left.progress.caller.known.local.number) c.in-Full.is c.in_ok-work.ensures in
    let mine : IsFullLeft (g.O.TypedObject.meaning c.args.service.now.object) life r me back line = subst (λ k. IsFullLeft (g.O.TypedObject.meaning c.args.service.now.object) life r k back line) c.loop.invariant.served.lists.by last in
    subst (IsWorkOf (g.O.TypedObject.meaning c.args.service.now.object) life r me) (sym c.give_up.ensures) (given_up_work (g.O.TypedObject.meaning c.args.service.now.object) life r me back.number back.progress line mine.left_is.served mine.full)
