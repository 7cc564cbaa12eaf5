use Rattle.std.proofs.Common.{◌*◌, ◌+◌, ap, subst, ◌∙◌}
use Rattle.cx_core.specs.Layout.{offer_at}
use Rattle.table_invariant.specs.Running.{IsTableWithinLimits, Running}
use Rattle.table_invariant.specs.Seats.{Seated}
use Rattle.cx_table.proofs.Handing.{laws_at}
use Rattle.cx_table.proofs.SetOffers.{learns_offering}
use Rattle.caller_cache.specs.declared.summary.CachedLocal.{CachedLocal}
use Rattle.caller_cache.proofs.FollowedSteps.{small_ticket}
use Rattle.cx_table.proofs.shared.Shared.offer.Goals as goal

pub stored_learned-requires-clause-learns : goal.stored_learned-requires-clause-learns
stored_learned-requires-clause-learns g c =
    let t = c.args.self.now in
    let running = subst (IsTableWithinLimits g.O.Object.line_count g.O.Object.lawful) c.self.view_is c.self.invariant.0 in
    let laws = laws_at g.O.Object.line_count g.O.Object.lawful g.O.Object.step t running g.met.O.Object.keeps (λ o image law. (g.met.O.Object.shape o image law).0) g.met.O.Object.replies in
    learns_offering g.O.Object.line_count g.O.Object.lawful g.O.Object.step g.O.Object.only_reads t c.args.j c.offer_at-word.result c.offering_word-offering.result c.seat.inside.seat.me c.seat.inside.summary c.seat.inside.before c.args.seat.now running laws
    c.seat.invariant.0 (ap (λ (s : Seated). s.known) c.seat.view_is) c.requires.may.guard c.requires.of_ticket
    (c.offer_at-word.ensures ∙ ap (λ n. offer_at c.self.inside.callers.number (16 * n + c.args.j)) (c.from.ensures ∙ ap (λ (m : CachedLocal). m.number) c.seat.invariant.0.is ∙ ap (λ (s : Seated). s.known.local.number) c.seat.view_is)
    ∙ ap (λ (r : Running _). offer_at r.callers (16 * c.args.seat.now.known.local.number + c.args.j)) c.self.view_is)
    c.offering_word-offering.ensures

pub offering_word-offering-requires-clause-small : goal.offering_word-offering-requires-clause-small
offering_word-offering-requires-clause-small g c = λ t is. small_ticket c.seat.inside.seat.me c.seat.inside.summary c.seat.inside.before c.args.j t c.seat.invariant.0 c.requires.may.guard.0 is
