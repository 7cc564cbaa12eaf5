use Rattle.std.proofs.Common.{◌+◌, length, take, refl, sym, subst, arith}
use Rattle.std.proofs.lemmas.List.{length-set}
use Rattle.cx_core.specs.RegionEvents.{CanLoad}
use Rattle.table_invariant.specs.Running.{instance_at}
use Rattle.table_invariant.specs.Seats.{IsAtLimit, Seated}
use Rattle.cx_table.proofs.Runs.{may_still}
use Rattle.cx_table.specs.Runs.{Runs, loads_from, no_step}
use Rattle.replica.proofs.Runs.{on_err, run_more}
use Rattle.replica.proofs.words.load_each.Goals as goal

pub loop-i-init : goal.loop-i-init
loop-i-init g c = record { run = no_step _ _ _ refl refl; of = c.requires.seat.0; may = c.requires.guard }

pub returns-in_err-into-clause-halted : goal.returns-in_err-into-clause-halted
returns-in_err-into-clause-halted g c =
    let t = c.args.shared.now in
    let i = c.loop-i.i in
    let halted = c.in_err-into.ensures.halted in
    on_err c.from_residual.result _ (record {
      n = i;
      fewer = omega (arith, c.loop-i-test.true);
      run = subst (Runs t g.O.Object.step g.O.Object.only_reads (g.O.Object.lawful t.object) (loads_from c.args.r c.args.from) (take i c.loop-i.into) c.args.seat.now) (sym halted.same) c.loop-i.invariant.run;
      limit = subst (λ (s : Seated). IsAtLimit s.known.local) (sym halted.same) halted.limit;
    })

pub loop-i-preserved : goal.loop-i-preserved
loop-i-preserved g c =
    let t = c.args.shared.now in
    let was = c.loop-i.invariant in
    let i = c.loop-i.i in
    let v = c.in_ok-into.field-0 in
    let e = c.in_ok-into.ensures in
    let made = e.made in
    let region = length t.base.words in
    record {
      run = run_more t g.O.Object.step g.O.Object.only_reads (g.O.Object.lawful t.object) (loads_from c.args.r c.args.from) c.loop-i.into i v c.args.seat.now c.loop-i.seat c.load_word.new.seat (omega arith) was.run made e.fits;
      of = made.seat;
      may = λ k below. subst (λ (s : Seated). CanLoad t.callers region c.args.r (c.args.from + k) s.known.local) (sym made.made)
          (may_still (instance_at t g.O.Object.step g.O.Object.only_reads) t.callers region c.args.r (c.args.from + k) c.args.r (c.args.from + i) v c.loop-i.seat.known (was.may k (omega (arith, below, length-set c.loop-i.into i v))));
    }
