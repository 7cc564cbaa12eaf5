use Rattle.std.proofs.lemmas.Result.{on_ok_weaker}
use Rattle.cx_core.proofs.HistoryLemmas.{ObjectLaws}
use Rattle.replica.proofs.Replaying.{can_step, steps_ready}
use Rattle.replica.proofs.replay.apply.Goals as goal

pub step_held-requires-clause-can : goal.step_held-requires-clause-can
step_held-requires-clause-can g c = can_step g.O.Object c.args.shared.now c.args.held.now _ c.args.seat.now c.requires.ready c.requires.next.small

pub returns : goal.returns
returns g c =
    let object = c.args.shared.now.object in
    let e = c.step_held.ensures in
    let laws : ObjectLaws (g.O.Object.line_count object) (g.O.Object.lawful object) (g.O.Object.step object) = record {
      keeps = g.met.O.Object.keeps object;
      shape = λ image law. (g.met.O.Object.shape object image law).0;
      replies = g.met.O.Object.replies object;
    } in
    let on = steps_ready g.O.Object c.args.shared.now c.args.held.now c.args.entry.now c.step_held.new.reply c.args.seat.now c.step_held.new.seat laws c.step_held.result c.requires.ready.image c.requires.next e.leaves e.done in
    record {
      ready = on_ok_weaker c.step_held.result (λ both. both.0) on;
      replied = on_ok_weaker c.step_held.result (λ both. both.1) on;
      halts = e.halts;
      leaves = e.leaves;
    }
