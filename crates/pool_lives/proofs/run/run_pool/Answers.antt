use Rattle.std.proofs.Common.{refl, subst}
use Rattle.cx_lives.proofs.Recovering.{kept_in}
use Rattle.cx_lives.specs.Crash.{EndsInCrash}
use Rattle.pool_lives.proofs.Ending.{pooled, recorded}
use Rattle.pool_lives.proofs.run.run_pool.Goals as goal

pub end_in_crash-requires-clause-closed : goal.end_in_crash-requires-clause-closed
end_in_crash-requires-clause-closed g c = λ κs within. record {
  lines = c.requires.lines;
  lawful = c.in_ok-base.ensures.begins.lawful;
  callers = c.args.seats;
  service = c.in_ok-service.service;
  is = c.in_ok-service.ensures.service;
  seats = c.in_ok-report.ensures.seats;
  leaves = c.in_ok-report.ensures.leaves;
}

pub returns : goal.returns
returns g c =
    let m = g.O.TypedObject.meaning c.args.object.now in
    let remains = c.in_ok-report.remains in
    let crashed = c.in_ok-crashed.crashed in
    let based = c.in_ok-base.ensures.begins.is in
    let is = c.in_ok-service.ensures.service in
    let met = c.in_ok-report.ensures in
    let ends = subst (λ n. EndsInCrash g.O.Object m c.args.object.now c.in_ok-base.base n remains crashed) c.choice.ensures c.in_ok-crashed.ensures in
    let op_values = c.operations_are_values.ensures in
    let values = c.replies_are_values.ensures in
    let keeps = ends.crash.keeps in
    let lived = c.told_pools_have_lived.ensures remains.callers keeps.s m.opening c.args.life.now _ crashed.next keeps.law (recorded based c.requires.life is met ends op_values values) (kept_in ends _ refl refl) in
    pooled based c.requires.life is met ends op_values values lived.0 lived.1 (g.O.Object.opening c.args.object.now) c.steps_are_meant.ensures.means
