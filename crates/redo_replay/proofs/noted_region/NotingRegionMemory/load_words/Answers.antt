use Rattle.std.proofs.Common.{take, refl, true, ap}
use Rattle.std.proofs.Math.Logic.{∥∥₁_map}
use Rattle.table_invariant.specs.Seats.{Seated}
use Rattle.replica.proofs.RegionLaws.{held_run, rest_run, run_then, since_run, some_run, stands_run, still_limited}
use Rattle.redo_replay.proofs.noted_region.NotingRegionMemory.load_words.Goals as goal

pub invariant_of-self : goal.invariant_of-self
invariant_of-self g c =
    let region = c.args.self.now in
    let table = region.table.now in
    let lines = g.T.HeldWords.line_count table in
    let r = g.T.HeldWords.running table in
    let lawful = g.T.HeldWords.lawful table in
    let step = g.T.HeldWords.step table in
    let last = c.load_held_words.new.seat in
    let some = some_run c.load_held_words.result c.load_held_words.new.into c.load_held_words.ensures.loaded in
    let words = take some.0 c.load_held_words.new.into in
    let after = held_run lines r lawful step region.held.now c.args.at words region.seat.now last true some.1 region.of region.within (λ _. region.place) in
    let read = stands_run lines r lawful step region.held.now c.args.at words region.seat.now last some.1 in
    record {
      of = after.0;
      starts = region.starts;
      within = after.1;
      place = after.2 refl;
      since = since_run lines r lawful step region.held.now c.args.at words region.seat.now last g.J.KnowledgeAtStart.known.local.steps some.1 region.since;
      notes = λ all. ∥∥₁_map (region.notes all) (λ n. record { within = n.within; leads = record { from = λ first now s. n.leads.from first now (read.from first now s).0 } });
    }

pub returns-clause-read : goal.returns-clause-read
returns-clause-read g c =
    let region = c.args.self.now in
    let table = region.table.now in
    run_then c.load_held_words.result (stands_run (g.T.HeldWords.line_count table) (g.T.HeldWords.running table) (g.T.HeldWords.lawful table) (g.T.HeldWords.step table) region.held.now c.args.at c.load_held_words.new.into region.seat.now c.load_held_words.new.seat) c.load_held_words.ensures.loaded

pub returns-clause-unchanged : goal.returns-clause-unchanged
returns-clause-unchanged g c =
    let region = c.args.self.now in
    let table = region.table.now in
    let some = some_run c.load_held_words.result c.load_held_words.new.into c.load_held_words.ensures.loaded in
    let read = stands_run (g.T.HeldWords.line_count table) (g.T.HeldWords.running table) (g.T.HeldWords.lawful table) (g.T.HeldWords.step table) region.held.now c.args.at (take some.0 c.load_held_words.new.into) region.seat.now c.load_held_words.new.seat some.1 in
    record { from = λ first now s. (now, (read.from first now s).0, refl) }

pub returns-clause-framed : goal.returns-clause-framed
returns-clause-framed g c =
    let region = c.args.self.now in
    let table = region.table.now in
    let some = some_run c.load_held_words.result c.load_held_words.new.into c.load_held_words.ensures.loaded in
    let rest = rest_run (g.T.HeldWords.line_count table) (g.T.HeldWords.running table) (g.T.HeldWords.lawful table) (g.T.HeldWords.step table) region.held.now c.args.at (take some.0 c.load_held_words.new.into) region.seat.now c.load_held_words.new.seat some.1 in
    record {
      size_kept = refl;
      fixed_kept = ap (λ (s : Seated). record { name = region.seat.ghost_name; set = region.set.ghost_name; table = table; held = region.held.now; rest = s }) rest;
      writable_kept = refl;
      limited = still_limited region.seat.now.known.local c.load_held_words.new.seat.known.local (ap (λ (s : Seated). s.known.local.limit) rest);
    }
