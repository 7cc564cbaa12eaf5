use Rattle.std.proofs.Common.{◌∙◌, ap, length, subst, sym}
use Rattle.std.proofs.lemmas.List.FromFn.{length-map-range_with_len}
use Rattle.cx_service.specs.Starts.{Starts}
use Rattle.life_records.specs.Scripts.{limit_in}
use Rattle.cx_lives.proofs.Limits.{can_run}
use Rattle.cx_lives.proofs.start.start_life.Goals as goal

pub start-requires-clause-limits : goal.start-requires-clause-limits
start-requires-clause-limits g c =
    ap length (c.deref.ensures.value ∙ c.in_ok-limits.ensures) ∙ length-map-range_with_len (λ client. limit_in client c.args.life.now.cuts) 0 c.args.life.now.clients ∙ sym c.clients-clients.ensures

pub returns-in-Ok-clause-can_run : goal.returns-in-Ok-clause-can_run
returns-in-Ok-clause-can_run g c =
    can_run (g.O.TypedObject.meaning c.args.object.now) c.args.life.now c.deref.result.now c.args.base.now c.duplicate.result (g.O.Object.line_count c.duplicate.result) c.in-Ok.started.0 c.in-Ok.started.1.items (c.deref.ensures.value ∙ c.in_ok-limits.ensures)
    (subst (λ n. Starts c.duplicate.result (g.O.Object.line_count c.duplicate.result) n c.deref.result.now c.args.base.now c.in-Ok.started.0 c.in-Ok.started.1.items) c.clients-clients.ensures c.in-Ok.ensures) c.requires.limits c.requires.tickets
