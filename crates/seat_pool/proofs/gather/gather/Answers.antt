use Rattle.std.proofs.Common.{arith}
use Rattle.crossbeam_queue.specs.Passes.{view}
use Rattle.seat_pool.proofs.Gatherings.{takes_more}
use Rattle.seat_pool.proofs.gather.gather.Goals as goal

pub loop-lent-preserved : goal.loop-lent-preserved
loop-lent-preserved g c =
    let taken = c.take_in-gathered.ensures in
    let same = taken.gathered.1 in
    let room = c.loop-lent.invariant.room in record {
      pass = taken.pass.0;
      taking = takes_more c.args.service.now c.args.line.now.table.shared.table_id c.args.lents.items (view c.loop-lent.pass) (view c.take_in-gathered.new.pass) c.loop-lent.lents.items c.pop.new.self.items c.pop.result c.in-Some.lent c.loop-lent.gathered.items c.take_in-gathered.result.items c.loop-lent.invariant.taking c.pop.ensures.items c.in-Some.is taken.pass.1 taken.gathered.0 taken.gathered.2;
      room = omega (arith, same, room);
    }
