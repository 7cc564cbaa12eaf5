use Rattle.std.proofs.Common.{◌+◌, ◌*◌, sym, subst, ◌∙◌, arith, ap}
use Rattle.table_invariant.specs.Running.{Running}
use Rattle.cx_service.specs.Callers.{IsCallerOf, unlinked}
use Rattle.cx_service.specs.Submits.{FindsCell, HaltsEntering, HaltsLooking, LooksForCell, SubmitFull, SubmitsIn}
use Rattle.cx_service.specs.declared.callers.CallerState.{CallerState}
use Rattle.cx_service.proofs.Looking.{caller_then, full_there, halts_looking, looked_first, submits_then}
use Rattle.cx_service.proofs.service.Service.submit.Goals as goal

pub enter-requires-clause-caller : goal.enter-requires-clause-caller
enter-requires-clause-caller g c =
    let r = c.args.self.now in
    let s = c.deref_mut.result.now.seat in
    let is = ap (λ (d : CallerState). d.seat) c.deref_mut.ensures.value ∙ c.caller.view_is in
    let t = c.find_cell.new.seat in
    let looked = subst (λ (x : Running g.row.O.Denot). LooksForCell (x.callers + 4) s t) c.self.view_is c.find_cell.ensures.looked in
    let caller = subst (IsCallerOf r) (sym is) c.requires.caller in
    let finds = subst (FindsCell c.self.inside.shared.callers s t) c.in-Ok-Ok.field-0-is c.in-Ok-Ok.ensures.found in
    caller_then r (r.callers + 4) s t (looked_first (r.callers + 4) s t looked finds.ends finds.stood c.find_cell.ensures.stood) caller finds.ends.fresh finds.ends.scan

pub returns-in-Ok-Err : goal.returns-in-Ok-Err
returns-in-Ok-Err g c =
    let r = c.args.self.now in
    let s = c.deref_mut.result.now.seat in
    let is = ap (λ (d : CallerState). d.seat) c.deref_mut.ensures.value ∙ c.caller.view_is in
    let t = c.find_cell.new.seat in
    let most = 200 + r.callers + 3 * c.args.tries in
    let looked = subst (λ (x : Running g.row.O.Denot). LooksForCell (x.callers + 4) s t) c.self.view_is c.find_cell.ensures.looked in
    let caller = subst (IsCallerOf r) (sym is) c.requires.caller in
    let finds = subst (λ (x : Running g.row.O.Denot). FindsCell x.callers s t c.in-Ok-Err.field-0) c.self.view_is c.in-Ok-Err.ensures.found in
    subst (λ x. SubmitFull r most x t c.in-Ok-Err.note) is
    (full_there r most (r.callers + 4) s t c.in-Ok-Err.note looked caller (subst (FindsCell r.callers s t) c.in-Ok-Err.field-0-is finds) (omega arith))

pub returns-in-Err : goal.returns-in-Err
returns-in-Err g c =
    let r = c.args.self.now in
    let s = c.deref_mut.result.now.seat in
    let is = ap (λ (d : CallerState). d.seat) c.deref_mut.ensures.value ∙ c.caller.view_is in
    let t = c.find_cell.new.seat in
    let most = 200 + r.callers + 3 * c.args.tries in
    let looked = subst (λ (x : Running g.row.O.Denot). LooksForCell (x.callers + 4) s t) c.self.view_is c.find_cell.ensures.looked in
    let caller = subst (IsCallerOf r) (sym is) c.requires.caller in
    subst (λ x. HaltsEntering r c.args.op.now c.args.tries most x (unlinked t)) is
    (halts_looking r most (r.callers + 4) s t caller looked (omega arith) c.args.op.now c.args.tries (subst (λ (x : Running g.row.O.Denot). HaltsLooking (x.callers + 3) s t) c.self.view_is c.in-Err.ensures.halted))

pub returns-in-Ok-Ok : goal.returns-in-Ok-Ok
returns-in-Ok-Ok g c =
    let r = c.args.self.now in
    let s = c.deref_mut.result.now.seat in
    let is = ap (λ (d : CallerState). d.seat) c.deref_mut.ensures.value ∙ c.caller.view_is in
    let t = c.find_cell.new.seat in
    let looked = subst (λ (x : Running g.row.O.Denot). LooksForCell (x.callers + 4) s t) c.self.view_is c.find_cell.ensures.looked in
    let finds = subst (FindsCell r.callers s t) c.in-Ok-Ok.field-0-is (subst (λ (x : Running g.row.O.Denot). FindsCell x.callers s t c.in-Ok-Ok.field-0) c.self.view_is c.in-Ok-Ok.ensures.found) in
    let first = looked_first (r.callers + 4) s t looked finds.ends finds.stood c.find_cell.ensures.stood in
    subst (λ x. SubmitsIn (200 + r.callers + 3 * c.args.tries) r c.args.op.now c.args.tries x c.enter.result) is
    (submits_then r (r.callers + 4) s t first c.args.op.now c.args.tries (146 + 2 * c.args.tries) (200 + r.callers + 3 * c.args.tries) c.enter.result (omega arith) c.in-Ok-Ok.cell finds c.enter.ensures)
