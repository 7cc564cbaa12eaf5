use Rattle.std.proofs.Common.{take, refl, ap}
use Rattle.table_invariant.specs.Seats.{Seated}
use Rattle.replica.proofs.RegionLaws.{held_run, rest_run, run_then, since_run, some_run, stands_run, still_limited}
use Rattle.replica.proofs.region.RegionMemory.load_words.Goals as goal

pub invariant_of-self : goal.invariant_of-self
invariant_of-self g c =
    let region = c.args.self.now in
    let table = region.table.now in
    let some = some_run c.load_held_words.result c.load_held_words.new.into c.load_held_words.ensures.loaded in
    let after = held_run (g.T.HeldWords.line_count table) (g.T.HeldWords.running table) (g.T.HeldWords.lawful table) (g.T.HeldWords.step table) region.held.now c.args.at (take some.0 c.load_held_words.new.into) region.seat.now c.load_held_words.new.seat region.placed some.1 region.of region.within region.place in
    record {
      of = after.0;
      starts = region.starts;
      within = after.1;
      place = after.2;
      since = since_run (g.T.HeldWords.line_count table) (g.T.HeldWords.running table) (g.T.HeldWords.lawful table) (g.T.HeldWords.step table) region.held.now c.args.at (take some.0 c.load_held_words.new.into) region.seat.now c.load_held_words.new.seat region.began some.1 region.since;
    }

pub returns-clause-read : goal.returns-clause-read
returns-clause-read g c =
    let region = c.args.self.now in
    let table = region.table.now in
    run_then c.load_held_words.result (stands_run (g.T.HeldWords.line_count table) (g.T.HeldWords.running table) (g.T.HeldWords.lawful table) (g.T.HeldWords.step table) region.held.now c.args.at c.load_held_words.new.into region.seat.now c.load_held_words.new.seat) c.load_held_words.ensures.loaded

pub returns-clause-unchanged : goal.returns-clause-unchanged
returns-clause-unchanged g c =
    let region = c.args.self.now in
    let table = region.table.now in
    let some = some_run c.load_held_words.result c.load_held_words.new.into c.load_held_words.ensures.loaded in
    let read = stands_run (g.T.HeldWords.line_count table) (g.T.HeldWords.running table) (g.T.HeldWords.lawful table) (g.T.HeldWords.step table) region.held.now c.args.at (take some.0 c.load_held_words.new.into) region.seat.now c.load_held_words.new.seat some.1 in
    record { from = λ first now s. (now, (read.from first now s).0, refl) }

pub returns-clause-framed : goal.returns-clause-framed
returns-clause-framed g c =
    let region = c.args.self.now in
    let table = region.table.now in
    let some = some_run c.load_held_words.result c.load_held_words.new.into c.load_held_words.ensures.loaded in
    let rest = rest_run (g.T.HeldWords.line_count table) (g.T.HeldWords.running table) (g.T.HeldWords.lawful table) (g.T.HeldWords.step table) region.held.now c.args.at (take some.0 c.load_held_words.new.into) region.seat.now c.load_held_words.new.seat some.1 in
    record {
      size_kept = refl;
      fixed_kept = ap (λ (s : Seated). record { name = region.seat.ghost_name; table = table; held = region.held.now; placed = region.placed; began = region.began; rest = s }) rest;
      writable_kept = refl;
      limited = still_limited region.seat.now.known.local c.load_held_words.new.seat.known.local (ap (λ (s : Seated). s.known.local.limit) rest);
    }
