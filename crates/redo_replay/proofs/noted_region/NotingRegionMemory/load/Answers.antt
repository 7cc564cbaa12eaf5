use Rattle.std.proofs.Common.{false, ℕ}
use Rattle.redo_replay.proofs.Accesses.{held_still, knows_loaded}
use Rattle.redo_replay.proofs.NotingLaws.{kept_loaded}
use Rattle.replica.proofs.RegionLaws.{since_after}
use Rattle.redo_replay.proofs.noted_region.NotingRegionMemory.load.Goals as goal

pub invariant_of-self : goal.invariant_of-self
invariant_of-self g c =
    let region = c.args.self.now in
    let table = region.table.now in
    let lines = g.T.HeldWords.line_count table in
    let r = g.T.HeldWords.running table in
    let lawful = g.T.HeldWords.lawful table in
    let step = g.T.HeldWords.step table in
    let e = c.load_held.ensures in
    let last = c.load_held.new.seat in
    let after = held_still lines r lawful step region.held.now region.seat.now last (λ (v : ℕ). (false, c.args.at, v)) c.load_held.result e.made e.halted region.of region.within region.place in
    record {
      of = after.0;
      starts = region.starts;
      within = after.1;
      place = after.2;
      since = since_after lines r lawful step region.held.now region.seat.now last (λ (v : ℕ). (false, c.args.at, v)) g.J.KnowledgeAtStart.known.local.steps c.load_held.result e.made e.halted region.since;
      notes = kept_loaded lines r lawful step g.J.KnowledgeAtStart.known region.seat.now last region.set.now region.whole c.args.at c.load_held.result
          (knows_loaded lines r lawful step region.held.now region.seat.now last c.args.at c.load_held.result e.made) e.halted region.notes;
    }

pub returns-clause-stands : goal.returns-clause-stands
returns-clause-stands g c =
    let region = c.args.self.now in
    let table = region.table.now in
    knows_loaded (g.T.HeldWords.line_count table) (g.T.HeldWords.running table) (g.T.HeldWords.lawful table) (g.T.HeldWords.step table) region.held.now region.seat.now c.load_held.new.seat c.args.at c.load_held.result c.load_held.ensures.made
