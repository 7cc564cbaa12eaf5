use Rattle.std.proofs.Common.{◌≡◌, ◌∙◌, ◌+◌, ◌∷◌, ◌++◌, List, Result, Ok, IfOk, ap, arith, length, length-append, subst, sym, []}
use Rattle.std.specs.Prelude.{vec_len}
use Rattle.std.specs.declared.alloc.AllocError.{AllocError}
use Rattle.std.proofs.lemmas.Bool.{eqb-true}
use Rattle.std.proofs.lemmas.List.{append-nil, nil_from_length}
use Rattle.life_records.specs.declared.record.StopLine.{StopLine}
use Rattle.cx_lives.specs.declared.progress.Work.{Work}
use Rattle.cx_lives.specs.declared.work.WorkerOutcome.{WorkerOutcome}
use Rattle.cx_lives.specs.Ends.{IsWorkOf, full_in, stop_in}
use Rattle.cx_lives.specs.Works.{ServedOf, stop_of_worker, stops_left}
use Rattle.cx_lives.proofs.Gathering.{first_result, gathered_more}
use Rattle.cx_lives.proofs.Leaving.{HoldersStopped, holders_more}
use Rattle.cx_lives.proofs.gather.finish_and_gather.Goals as goal

pub at_end-requires-clause-served : goal.at_end-requires-clause-served
at_end-requires-clause-served g c = λ κs lives. (
  length c.loop-alloc.all.handed.items,
  (first_result (ServedOf (g.O.TypedObject.meaning c.args.service.now.object) c.args.life.now c.args.service.now) (length c.loop-alloc.all.handed.items) c.loop-alloc.works.items c.first_of.new.items.items c.first_of.result c.in_ok-served.served
      c.first_of.ensures c.in_ok-served.was c.loop-alloc.invariant.rest).0,
)

pub loop-alloc-preserved : goal.loop-alloc-preserved
loop-alloc-preserved g c =
    let life = c.args.life.now in
    let r = c.args.service.now in
    let all = c.loop-alloc.all in
    let works : List (Result (WorkerOutcome g.row.O-Reply.Denot) AllocError) = c.loop-alloc.works.items in
    let left : List (Result (WorkerOutcome g.row.O-Reply.Denot) AllocError) = c.first_of.new.items.items in
    let n = length all.handed.items in
    let served = c.in_ok-served.served in
    let work = c.in_ok-work.work in
    let whole : works ≡ Ok served ∷ left = c.first_of.ensures ∙ ap (λ (w : Result (WorkerOutcome g.row.O-Reply.Denot) AllocError). w ∷ left) c.in_ok-served.was in
    let rest = first_result (ServedOf (g.O.TypedObject.meaning c.args.service.now.object) life r) n works left c.first_of.result served c.first_of.ensures c.in_ok-served.was c.loop-alloc.invariant.rest in
    let work_is : IsWorkOf (g.O.TypedObject.meaning c.args.service.now.object) life r n work = subst (λ (w : Result (Work g.row.O-Reply.Denot) AllocError). IfOk w (IsWorkOf (g.O.TypedObject.meaning c.args.service.now.object) life r n)) c.in_ok-work.was (c.at_end.ensures.work n rest.0) in
    let more = c.in_ok-all.ensures in
    let longer : length c.in_ok-all.all.handed.items ≡ n + 1 = ap length more.handed ∙ length-append all.handed.items (work.handed ∷ []) in
    let stops_now : c.deref.result.now ≡ all.ends.stops.items = c.deref.ensures.value in
    let works_now : c.deref-in-loop-alloc.result.now ≡ left = c.deref-in-loop-alloc.ensures.value in
    let stays_stopped = c.in_ok-work.ensures.stays_stopped in
    let before : HoldersStopped (all.ends.stops.items ++ (stop_of_worker (Ok served) ++ stops_left left)) all.ends.fulls.items =
    subst (λ (ws : List (Result (WorkerOutcome g.row.O-Reply.Denot) AllocError)). HoldersStopped (all.ends.stops.items ++ stops_left ws) all.ends.fulls.items) whole c.loop-alloc.invariant.stopped in
    let own : HoldersStopped (all.ends.stops.items ++ stops_left left) (full_in work.end) =
    subst (λ (xs : List StopLine). HoldersStopped (xs ++ stops_left left) (full_in work.end)) stops_now
    (subst (λ (ws : List (Result (WorkerOutcome g.row.O-Reply.Denot) AllocError)). HoldersStopped (c.deref.result.now ++ stops_left ws) (full_in work.end)) works_now c.in_ok-work.ensures.stopped) in
    record {
      gathered = gathered_more (g.O.TypedObject.meaning c.args.service.now.object) life r all c.in_ok-all.all work (c.works_go_on.ensures (g.O.TypedObject.meaning c.args.service.now.object).encoding life) c.loop-alloc.invariant.gathered more work_is;
      rest = rw longer rest.1;
      count = omega (arith, longer, ap length whole, c.loop-alloc.invariant.count);
      stopped = rw (more.stops, more.fulls) (holders_more all.ends.stops.items (stop_in work.end) (stop_of_worker (Ok served)) (stops_left left) all.ends.fulls.items (full_in work.end) stays_stopped before own);
    }

pub returns-clause-stopped : goal.returns-clause-stopped
returns-clause-stopped g c =
    let all = c.loop-alloc.all in
    let works = c.loop-alloc.works in
    let none : vec_len works ≡ 0 = eqb-true (vec_len works) 0 (sym c.is_empty.ensures ∙ c.loop-alloc-test.false) in
    let over : works.items ≡ [] = nil_from_length works.items (omega (arith, none, works.ok.0)) in
    subst (λ (xs : List StopLine). HoldersStopped xs all.ends.fulls.items) (append-nil all.ends.stops.items)
    (subst (λ (ws : List (Result (WorkerOutcome g.row.O-Reply.Denot) AllocError)). HoldersStopped (all.ends.stops.items ++ stops_left ws) all.ends.fulls.items) over c.loop-alloc.invariant.stopped)
