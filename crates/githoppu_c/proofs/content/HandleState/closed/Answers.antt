use Rattle.std.proofs.Common.{inl, pos, refl, subst, sym}
use Rattle.std.specs.Arc.{arc_value}
use Rattle.cx_service.specs.Closes.{seats_of}
use Rattle.githoppu_c.specs.Closings.{ContentCloses}
use Rattle.githoppu_c.specs.Contents.{IsContentCallable}
use Rattle.githoppu_c.specs.declared.content.HandleState.{HandleState}
use Rattle.githoppu_c.specs.declared.content.HandleState.TheVariants.{Closed, Kept}
use Rattle.githoppu_c.proofs.Closed.{rest_callable, session_callable}
use Rattle.githoppu_c.proofs.content.HandleState.closed.Goals as goal

-- a session was closed: with what the handle holds then a further call may be made
pub returns-in-Session-clause-callable : goal.returns-in-Session-clause-callable
returns-in-Session-clause-callable g c =
    let may = IsContentCallable g.O.Object g.O.OfC.replies_kept in
    subst may (sym c.left.ensures.0) (session_callable g.O.Object g.O.OfC.replies_kept c.in-Session.session c.close.result (subst may c.in-Session.is c.requires.callable).1 c.close.ensures)

-- a service that was kept is closed now: with what it left a further call may be made
pub returns-in-Ok-clause-callable : goal.returns-in-Ok-clause-callable
returns-in-Ok-clause-callable g c =
    let may = IsContentCallable g.O.Object g.O.OfC.replies_kept in
    (c.in-Kept.kept.service, record { seats = seats_of c.in-Kept.kept.callers.items; is = c.in-Ok.ensures }, (subst may c.in-Kept.is c.requires.callable).1)

-- memory ran out again: the service is kept as it was, so a further call may be made with it
pub returns-in-Err-clause-callable : goal.returns-in-Err-clause-callable
returns-in-Err-clause-callable g c =
    let may = IsContentCallable g.O.Object g.O.OfC.replies_kept in
    subst (λ k. may (Kept k)) (sym c.in-Err.ensures) (subst may c.in-Kept.is c.requires.callable)

-- a service that was kept is closed now: that is a closing as `ContentCloses` says
pub returns-in-Ok-clause-closes : goal.returns-in-Ok-clause-closes
returns-in-Ok-clause-closes g c =
    subst (λ (before : HandleState _). ContentCloses g.O.Object (pos 0) before (Closed c.in-Ok.remains)) (sym c.in-Kept.is) (inl (c.in-Ok.remains, c.in-Ok.ensures, refl, refl))

-- what the last session found is what `close_rest` may be called with
pub close_rest-requires : goal.close_rest-requires
close_rest-requires g c =
    let may = IsContentCallable g.O.Object g.O.OfC.replies_kept in
    let from = subst may c.in-Unclosed.is c.requires.callable in (from.0, from.1, from.2)

-- what the last session found was closed: with what the handle holds then a further call may be made
pub returns-in-Unclosed-clause-callable : goal.returns-in-Unclosed-clause-callable
returns-in-Unclosed-clause-callable g c =
    let may = IsContentCallable g.O.Object g.O.OfC.replies_kept in
    let from = subst may c.in-Unclosed.is c.requires.callable in
    subst may (sym c.left-in-Unclosed.ensures.0)
    (rest_callable g.O.Object g.O.OfC.replies_kept from.0 (arc_value c.in-Unclosed.rest.exit.handover) from.1 c.close_rest.result from.3 (c.close_rest.ensures from.0 from.1 from.2))

-- what the last session found was closed: that is a closing as `ContentCloses` says
pub returns-in-Unclosed-clause-closes : goal.returns-in-Unclosed-clause-closes
returns-in-Unclosed-clause-closes g c =
    let made = c.left-in-Unclosed in
    subst (λ (before : HandleState _). ContentCloses g.O.Object made.result.1 before made.result.0) (sym c.in-Unclosed.is) (c.close_rest.result, c.close_rest.ensures, made.ensures.0, made.ensures.1)
