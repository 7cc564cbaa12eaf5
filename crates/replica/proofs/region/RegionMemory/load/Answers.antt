use Rattle.std.proofs.Common.{false, ℕ}
use Rattle.replica.proofs.RegionLaws.{held_after, since_after, stands_loaded}
use Rattle.replica.proofs.region.RegionMemory.load.Goals as goal

pub invariant_of-self : goal.invariant_of-self
invariant_of-self g c =
    let region = c.args.self.now in
    let table = region.table.now in
    let e = c.load_held.ensures in
    let after = held_after (g.T.HeldWords.line_count table) (g.T.HeldWords.running table) (g.T.HeldWords.lawful table) (g.T.HeldWords.step table) region.held.now region.seat.now c.load_held.new.seat (λ (v : ℕ). (false, c.args.at, v)) region.placed c.load_held.result e.made e.halted region.of region.within region.place in
    record {
      of = after.0;
      starts = region.starts;
      within = after.1;
      place = after.2;
      since = since_after (g.T.HeldWords.line_count table) (g.T.HeldWords.running table) (g.T.HeldWords.lawful table) (g.T.HeldWords.step table) region.held.now region.seat.now c.load_held.new.seat (λ (v : ℕ). (false, c.args.at, v)) region.began c.load_held.result e.made e.halted region.since;
    }

pub returns-clause-stands : goal.returns-clause-stands
returns-clause-stands g c =
    stands_loaded (g.T.HeldWords.line_count c.args.self.now.table.now) (g.T.HeldWords.running c.args.self.now.table.now) (g.T.HeldWords.lawful c.args.self.now.table.now) (g.T.HeldWords.step c.args.self.now.table.now) c.args.self.now.held.now c.args.self.now.seat.now c.load_held.new.seat c.args.at c.load_held.result c.load_held.ensures.made
