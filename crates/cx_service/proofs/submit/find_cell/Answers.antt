use Rattle.std.proofs.Common.{◌+◌, ap, arith, inl, refl}
use Rattle.std.proofs.lemmas.Result.{IfOk-weaker, on_err_weaker}
use Rattle.table_invariant.specs.Running.{instance_at}
use Rattle.table_invariant.specs.Seats.{Seated}
use Rattle.cx_service.specs.Submits.{FindsAgain, FindsCell}
use Rattle.cx_service.proofs.Looking.{caller_then, finds_at_once, finds_then, free_ends, free_loaded, looked_first, looked_then, looking_then}
use Rattle.cx_service.proofs.submit.find_cell.Goals as goal

pub reclaim_cells-requires-clause-caller : goal.reclaim_cells-requires-clause-caller
reclaim_cells-requires-clause-caller g c =
    let r = c.args.shared.now in
    let s = c.args.seat.now in
    let t = c.load_free.new.seat in
    let instance = instance_at r g.O.Object.step g.O.Object.only_reads in
    let step = c.in_ok-_free.ensures.made in
    let ends = free_ends r instance s t c.in_ok-_free._free step.made c.requires in
    caller_then r 1 s t (looked_first 1 s t (free_loaded instance s t c.in_ok-_free._free step.made) ends (inl (c.in_default.ensures.none.0 refl)) (λ at. absurd (step.allowed at))) c.requires ends.fresh ends.scan

pub returns-in-Some-clause-found : goal.returns-in-Some-clause-found
returns-in-Some-clause-found g c = finds_at_once c.args.shared.now c.args.seat.now c.in-Some.cell c.requires c.in-Some.ensures.some.0 c.in-Some.ensures.some.1

pub returns-clause-found : goal.returns-clause-found
returns-clause-found g c =
    let r = c.args.shared.now in
    let s = c.args.seat.now in
    let t = c.load_free.new.seat in
    let v = c.reclaim_cells.new.seat in
    let instance = instance_at r g.O.Object.step g.O.Object.only_reads in
    let step = c.in_ok-_free.ensures.made in
    let looked = looked_then 1 (r.callers + 3) (r.callers + 4) s t v (omega arith) (free_loaded instance s t c.in_ok-_free._free step.made) c.reclaim_cells.ensures.looked in
    IfOk-weaker c.reclaim_cells.result (FindsAgain r.callers t v) (FindsCell r.callers s v)
    (λ found finds. finds_then r.callers s t v found (c.in_default.ensures.none.0 refl) step.allowed (free_ends r instance s t c.in_ok-_free._free step.made c.requires) (ap (λ (x : Seated). x.known.local.scans) step.made) (ap (λ (x : Seated). x.known.local.steps) step.made) looked finds)
    c.reclaim_cells.ensures.found

pub returns-clause-halted : goal.returns-clause-halted
returns-clause-halted g c =
    let r = c.args.shared.now in
    let s = c.args.seat.now in
    let t = c.load_free.new.seat in
    let step = c.in_ok-_free.ensures.made in
    on_err_weaker c.reclaim_cells.result
    (λ h. record {
      limit = h.limit;
      used = c.in_default.ensures.none.0 refl;
      looking = looking_then (r.callers + 2) (r.callers + 3) s t c.reclaim_cells.new.seat (omega arith) (ap (λ (x : Seated). x.known.local.scans) step.made) (ap (λ (x : Seated). x.known.local.steps) step.made) h.looking;
      since = (let one = ap (λ (x : Seated). x.known.local.steps) step.made in omega (arith, one, h.since));
    })
    c.reclaim_cells.ensures.halted
