use Rattle.std.proofs.Common.{◌≡◌, ◌+◌, ◌*◌, ap, inl, inr, sym, subst, arith, ◌∙◌}
use Rattle.std.proofs.lemmas.Result.{IfOk-weaker, on_err_weaker}
use Rattle.cx_core.specs.QueueEvents.{IsIdle, cell_of}
use Rattle.table_invariant.specs.Running.{instance_at}
use Rattle.table_invariant.specs.Seats.{IsAtLimit, Seated}
use Rattle.mutation_queue.specs.Links.{EndsBy, HaltsTry, MakesTries, Tried}
use Rattle.cx_service.specs.Callers.{unlinked}
use Rattle.cx_service.specs.Submits.{EntersIn}
use Rattle.cx_service.proofs.Announced.{both_ok, halted_in}
use Rattle.cx_attempts.proofs.Answered.{if_any_err}
use Rattle.cx_service.proofs.Entering.{answered_still, unchanged_by_submit, entered, halts, halts_linking, no_sets_read, stale, tries_of}
use Rattle.cx_service.proofs.Looking.{cur_caller, cur_loaded, enters_then, halted_then, tries_then, writing_then}
use Rattle.cx_service.proofs.submit.announce_and_link.Goals as goal

pub returns-in_err-_cur-clause-halted : goal.returns-in_err-_cur-clause-halted
returns-in_err-_cur-clause-halted g c =
    let s = c.args.seat.now in
    let t = c.load_cur.new.seat in
    let halted = c.in_err-_cur.ensures.halted in
    let front = ap (λ (x : Seated). x.known.local.front) halted.same in
    let steps = ap (λ (x : Seated). x.known.local.steps) halted.same in
    if_any_err c.from_residual.result (
      (halts c.args.shared.now s t (ap unchanged_by_submit halted.same) (146 + 2 * c.args.tries) c.requires.caller (ap (λ (x : Seated). x.known.local.own) halted.same) (ap (λ (x : Seated). x.known.times.linked) halted.same) (omega (arith, front)) (let cur = ap (λ (x : Seated). x.known.local.seen_cur) halted.same in omega (arith, cur)) (omega (arith, steps))
          (λ k within idle. record { free = ap (λ (x : Seated). x.known.local.seen_free) halted.same; scans = ap (λ (x : Seated). x.known.local.scans) halted.same })
          (subst (λ (x : Seated). IsAtLimit x.known.local) (sym halted.same) halted.limit) (omega (arith, steps))),
      inl (record {
        cell = c.args.cell;
        within = c.requires.cell.0;
        idle = subst (λ (x : Seated). IsIdle x.known.local c.args.cell) (sym halted.same) c.requires.cell.1;
        short = (let limit = halted.limit.0 in let same = ap (λ (x : Seated). x.known.local.limit) halted.same in omega (arith, limit, same));
        others = λ k ne. ap (λ (x : Seated). cell_of x.known.local k) halted.same;
      }),
    )

pub announce-requires : goal.announce-requires
announce-requires g c =
    let made = c.in_ok-_cur.ensures.made in
    record { may = record { of = made.seat; few = c.requires.cell.0; idle = subst (λ (x : Seated). IsIdle x.known.local c.args.cell) (sym made.made) c.requires.cell.1 } }

pub returns-in_err-announce-clause-halted : goal.returns-in_err-announce-clause-halted
returns-in_err-announce-clause-halted g c =
    let r = c.args.shared.now in
    let s = c.args.seat.now in
    let at = c.load_cur.new.seat in
    let t = c.announce.new.seat in
    let made = c.in_ok-_cur.ensures.made in
    let first = cur_loaded (instance_at r g.O.Object.step g.O.Object.only_reads) s at c.in_ok-_cur._cur made.made made.found_word.most made.allowed in
    let caller = cur_caller r (instance_at r g.O.Object.step g.O.Object.only_reads) s at c.in_ok-_cur._cur made.made made.found_word.most made.allowed c.requires.caller in
    let halted = halted_in r c.args.cell (145 + 2 * c.args.tries) c.args.op.now at t caller c.requires.cell.0 (omega arith) c.told-op c.in_err-announce.ensures.halted in
    if_any_err c.from_residual-in_err-announce.result (
      halted_then r 1 s (stale at) first (145 + 2 * c.args.tries) (146 + 2 * c.args.tries) (unlinked t) (omega arith) halted.0,
      inl (writing_then r 1 s (stale at) first c.args.op.now 0 1 t first.steps halted.1),
    )

pub link-requires-clause-may : goal.link-requires-clause-may
link-requires-clause-may g c =
    let r = c.args.shared.now in
    let s = c.args.seat.now in
    let at = c.load_cur.new.seat in
    let made = c.in_ok-_cur.ensures.made in
    let caller = cur_caller r (instance_at r g.O.Object.step g.O.Object.only_reads) s at c.in_ok-_cur._cur made.made made.found_word.most made.allowed c.requires.caller in
    let e = c.in_ok-announce.ensures in
    record { of = e.seat; few = c.requires.cell.0; announced = e.announced.ready; answered = answered_still (stale at) c.announce.new.seat e.announced.announces.rest caller.count }

pub returns-clause-entered : goal.returns-clause-entered
returns-clause-entered g c =
    let r = c.args.shared.now in
    let s = c.args.seat.now in
    let at = c.load_cur.new.seat in
    let t = c.announce.new.seat in
    let v = c.link.new.seat in
    let op = c.args.op.now in
    let tries = c.args.tries in
    let made = c.in_ok-_cur.ensures.made in
    let first = cur_loaded (instance_at r g.O.Object.step g.O.Object.only_reads) s at c.in_ok-_cur._cur made.made made.found_word.most made.allowed in
    let caller = cur_caller r (instance_at r g.O.Object.step g.O.Object.only_reads) s at c.in_ok-_cur._cur made.made made.found_word.most made.allowed c.requires.caller in
    let done = c.in_ok-announce.ensures.announced.announces in
    IfOk-weaker c.link.result (λ tried. Tried r.callers c.args.cell tries t v tried × MakesTries r.callers c.args.cell tries t v tried) (EntersIn 1 (146 + 2 * tries) r op tries s v)
    (λ tried links. enters_then r 1 s (stale at) first op 0 1 tries (145 + 2 * tries) (146 + 2 * tries) v tried (omega arith) (let one = ap (λ (x : Seated). x.known.local.steps) made.made in omega (arith, one))
    (entered r c.args.cell op (stale at) t caller c.requires.cell.0 c.told-op done.cell done.others done.rest tries (145 + 2 * tries) v tried links done.allowed (omega (arith, done.most, c.link.ensures.leaves.steps)) (let count = done.count in omega (arith, count))))
    (both_ok c.link.result (Tried r.callers c.args.cell tries t v) (MakesTries r.callers c.args.cell tries t v) c.link.ensures.tried c.link.ensures.made)

pub returns-clause-halted : goal.returns-clause-halted
returns-clause-halted g c =
    let r = c.args.shared.now in
    let s = c.args.seat.now in
    let at = c.load_cur.new.seat in
    let t = c.announce.new.seat in
    let v = c.link.new.seat in
    let op = c.args.op.now in
    let tries = c.args.tries in
    let made = c.in_ok-_cur.ensures.made in
    let first = cur_loaded (instance_at r g.O.Object.step g.O.Object.only_reads) s at c.in_ok-_cur._cur made.made made.found_word.most made.allowed in
    let caller = cur_caller r (instance_at r g.O.Object.step g.O.Object.only_reads) s at c.in_ok-_cur._cur made.made made.found_word.most made.allowed c.requires.caller in
    let done = c.in_ok-announce.ensures.announced.announces in
    on_err_weaker c.link.result
    (λ halted. (
      halted_then r 1 s (stale at) first (145 + 2 * tries) (146 + 2 * tries) (unlinked v) (omega arith)
          (halts_linking r c.args.cell op (stale at) t caller c.requires.cell.0 c.told-op done.cell done.others done.rest v halted.0 (145 + 2 * tries) (omega (arith, done.most, c.link.ensures.leaves.steps)) halted.1 (let count = done.count in omega (arith, count))),
      inr (tries_then r 1 s (stale at) first 0 1 (EndsBy r.callers tries (HaltsTry r.callers)) v (let one = ap (λ (x : Seated). x.known.local.steps) made.made in omega (arith, one))
          (tries_of r c.args.cell op (stale at) t caller c.requires.cell.0 c.told-op done.cell done.others done.rest (EndsBy r.callers tries (HaltsTry r.callers)) v (let count = done.count in omega (arith, count)) halted.2)),
    ))
    c.link.ensures.halted

pub returns-clause-sets : goal.returns-clause-sets
returns-clause-sets g c =
    let r = c.args.shared.now in
    let s = c.args.seat.now in
    let at = c.load_cur.new.seat in
    let t = c.announce.new.seat in
    let v = c.link.new.seat in
    let tries = c.args.tries in
    let made = c.in_ok-_cur.ensures.made in
    let caller = cur_caller r (instance_at r g.O.Object.step g.O.Object.only_reads) s at c.in_ok-_cur._cur made.made made.found_word.most made.allowed c.requires.caller in
    let done = c.in_ok-announce.ensures.announced.announces in
    IfOk-weaker c.link.result (Tried r.callers c.args.cell tries t v) (λ _. v.known.sets ≡ s.known.sets)
    (λ tried links. no_sets_read r c.args.cell c.args.op.now (stale at) t caller c.requires.cell.0 c.told-op done.cell done.others done.rest r.callers tries v tried links ∙ ap (λ (x : Seated). x.known.sets) made.made)
    c.link.ensures.tried
