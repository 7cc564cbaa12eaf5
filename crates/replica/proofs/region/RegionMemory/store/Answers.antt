use Rattle.std.proofs.Common.{arith, true}
use Rattle.replica.proofs.RegionLaws.{held_after, since_after, stands_stored}
use Rattle.replica.proofs.region.RegionMemory.store.Goals as goal

pub invariant_of-self : goal.invariant_of-self
invariant_of-self g c =
    let region = c.args.self.now in
    let table = region.table.now in
    let e = c.store_held.ensures in
    let after = held_after (g.T.HeldWords.line_count table) (g.T.HeldWords.running table) (g.T.HeldWords.lawful table) (g.T.HeldWords.step table) region.held.now region.seat.now c.store_held.new.seat (λ _. (true, c.args.at, c.args.v)) region.placed c.store_held.result e.made e.halted region.of region.within region.place in
    record {
      of = after.0;
      starts = region.starts;
      within = after.1;
      place = after.2;
      since = since_after (g.T.HeldWords.line_count table) (g.T.HeldWords.running table) (g.T.HeldWords.lawful table) (g.T.HeldWords.step table) region.held.now region.seat.now c.store_held.new.seat (λ _. (true, c.args.at, c.args.v)) region.began c.store_held.result e.made e.halted region.since;
    }

pub returns-clause-stands : goal.returns-clause-stands
returns-clause-stands g c =
    stands_stored (g.T.HeldWords.line_count c.args.self.now.table.now) (g.T.HeldWords.running c.args.self.now.table.now) (g.T.HeldWords.lawful c.args.self.now.table.now) (g.T.HeldWords.step c.args.self.now.table.now) c.args.self.now.held.now c.args.self.now.seat.now c.store_held.new.seat c.args.at c.args.v c.store_held.result (omega arith) c.store_held.ensures.made
