use Rattle.std.proofs.Common.{subst, sym}
use Rattle.client_pool.specs.Lending.{HaltsBesideQueue, KeepsStopped}
use Rattle.client_pool.proofs.Lends.{comes_first, looking_stopped, out_on}
use Rattle.client_pool.proofs.lend.begin.Goals as goal

pub returns-in-Up : goal.returns-in-Up
returns-in-Up g c =
    let out = c.take_for-caller.ensures in
    let up = c.in-Up.ensures in
    record {
      out = out_on c.args.pool.now.service c.args.pool.now.line.table.shared.table_id c.take_for-caller.new.lent c.take_for-caller.result c.in-Up.caller out.out up.0.idle;
      tells = out.same;
      first = c.take_for-caller.result;
      is = out.first;
      since = up.0;
      from = up.1;
    }

pub returns-in-Ended : goal.returns-in-Ended
returns-in-Ended g c =
    let r = c.args.pool.now.service in
    let table = c.args.pool.now.line.table.shared.table_id in
    let out = c.take_for-caller.ensures in
    let mid = c.take_for-caller.new.lent in
    let first = c.take_for-caller.result in
    let after = c.keep_stopped.new.lent in
    let kept = c.keep_stopped.ensures in
    subst (λ l. KeepsStopped r table (HaltsBesideQueue r) c.args.lent.now after l) (sym kept.linked)
    (looking_stopped r table c.args.lent.now mid after out.same first out.first kept.kept.0 first c.in-Ended.stopped (comes_first r first out.out.holds.idle.caller) out.out c.in-Ended.ensures kept.kept.1)
