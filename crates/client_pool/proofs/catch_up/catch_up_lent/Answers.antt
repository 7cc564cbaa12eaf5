use Rattle.std.proofs.Common.{refl, subst}
use Rattle.cx_service.specs.CatchUps.{CatchUpHalted}
use Rattle.client_pool.specs.Lending.{KeepsStopped}
use Rattle.client_pool.proofs.Lends.{caught_given, caught_stopped, idle_back, returned}
use Rattle.client_pool.proofs.catch_up.catch_up_lent.Goals as goal

pub give-requires-clause-caller : goal.give-requires-clause-caller
give-requires-clause-caller g c =
    let caught = c.in-Caught.ensures in
    idle_back c.args.pool.now.service c.args.pool.now.line.table.shared.table_id c.take_for-caller.new.lent c.take_for-caller.result c.in-Caught.back c.take_for-caller.ensures.out caught.caller caught.keeps

pub returns-in-Caught : goal.returns-in-Caught
returns-in-Caught g c =
    let out = c.take_for-caller.ensures in
    let x = c.take_for-caller.result in
    let y = c.in-Caught.back in
    let caught = c.in-Caught.ensures in
    record {
      given = caught_given c.args.pool.now.service c.args.pool.now.line.table.shared.table_id c.args.lent.now c.take_for-caller.new.lent _ out.same x y out.out caught.caller caught.keeps refl c.give.ensures.0 c.give.ensures.1;
      asked = x;
      now = y;
      returns = returned c.args.pool.now.service c.args.pool.now.line.table.shared.table_id c.args.lent.now c.take_for-caller.new.lent _ x y out.same out.first out.out c.give.ensures.1;
      caught = caught;
    }

pub give-requires-in-Behind-clause-caller : goal.give-requires-in-Behind-clause-caller
give-requires-in-Behind-clause-caller g c =
    let behind = c.in-Behind.ensures in
    idle_back c.args.pool.now.service c.args.pool.now.line.table.shared.table_id c.take_for-caller.new.lent c.take_for-caller.result c.in-Behind.back c.take_for-caller.ensures.out behind.caller behind.keeps

pub returns-in-Behind : goal.returns-in-Behind
returns-in-Behind g c =
    let out = c.take_for-caller.ensures in
    let x = c.take_for-caller.result in
    let y = c.in-Behind.back in
    let behind = c.in-Behind.ensures in
    record {
      given = caught_given c.args.pool.now.service c.args.pool.now.line.table.shared.table_id c.args.lent.now c.take_for-caller.new.lent _ out.same x y out.out behind.caller behind.keeps refl c.give-in-Behind.ensures.0 c.give-in-Behind.ensures.1;
      asked = x;
      now = y;
      returns = returned c.args.pool.now.service c.args.pool.now.line.table.shared.table_id c.args.lent.now c.take_for-caller.new.lent _ x y out.same out.first out.out c.give-in-Behind.ensures.1;
      behind = behind;
    }

pub returns-in-Halted : goal.returns-in-Halted
returns-in-Halted g c =
    let r = c.args.pool.now.service in
    let table = c.args.pool.now.line.table.shared.table_id in
    let out = c.take_for-caller.ensures in
    let mid = c.take_for-caller.new.lent in
    let after = c.keep_stopped-none.new.lent in
    let kept = c.keep_stopped-none.ensures in
    let s = c.in-Halted.stopped in
    let halted = c.in-Halted.ensures in
    subst (λ l. KeepsStopped r table (CatchUpHalted r) c.args.lent.now after l) halted.linked
    (caught_stopped r table c.args.lent.now mid after out.same c.take_for-caller.result out.first kept.kept.0 s out.out halted kept.kept.1)
