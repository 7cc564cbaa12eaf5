use Rattle.std.proofs.Common.{sym, subst}
use Rattle.recovery.specs.Images.{IsReadable}
use Rattle.cx_lives.specs.Crash.{EndsInCrash}
use Rattle.cx_lives.specs.Life.{HasRun}
use Rattle.cx_lives.proofs.lives.run_one.Goals as goal

pub end_in_crash-requires-clause-closed : goal.end_in_crash-requires-clause-closed
end_in_crash-requires-clause-closed g c = λ κs within. record {
  lines = (c.requires.enough, c.requires.few);
  lawful = c.requires.lawful;
  callers = c.args.life.now.clients;
  service = c.in_ok-service.service;
  is = c.in_ok-service.ensures.service;
  seats = c.in_ok-report.ensures.seats;
  leaves = c.in_ok-report.ensures.leaves;
}

pub reopen_image-requires-clause-readable : goal.reopen_image-requires-clause-readable
reopen_image-requires-clause-readable g c = (let crash = c.in_ok-crashed.ensures.crash in subst (λ n. IsReadable n c.in_ok-crashed.crashed.image) (sym crash.readable.of) crash.readable)

pub reopen_image-requires-clause-size : goal.reopen_image-requires-clause-size
reopen_image-requires-clause-size g c = c.in_ok-crashed.ensures.crash.recovered.accepted.size

pub returns : goal.returns
returns g c = λ begun based. (
    let object = c.args.object.now in
    let life = c.args.life.now in
    let report = c.in_ok-report.report in
    let remains = c.in_ok-report.remains in
    let crashed = c.in_ok-crashed.crashed in
    let m = g.O.TypedObject.meaning object in
    let is = c.in_ok-service.ensures.service in
    let ran = subst (λ x. HasRun (g.O.TypedObject.meaning x) g.O.Object.step g.O.Object.only_reads life c.in_ok-service.service report remains) is.same c.in_ok-report.ensures in
    c.lives_that_ran_have_lived.ensures life begun c.in_ok-service.service report c.with_kept-flagged.result remains crashed based is ran (record {
      limits = c.requires.limits;
      op_values = c.operations_are_values.ensures;
      ends = subst (λ n. EndsInCrash g.O.Object m object c.args.base.now n remains crashed) c.choice.ensures c.in_ok-crashed.ensures;
      flags = c.with_kept-flagged.ensures;
      values = c.replies_are_values.ensures;
    }))
