use Rattle.std.proofs.Common.{◌==◌, take, refl, ap}
use Rattle.table_invariant.specs.Seats.{Seated}
use Rattle.replica.proofs.RegionLaws.{rest_shared_run, run_then, shared_run, since_shared_run, some_run, stands_shared_run, still_limited}
use Rattle.replica.proofs.read_region.ReadRegionMemory.load_words.Goals as goal

pub invariant_of-self : goal.invariant_of-self
invariant_of-self g c =
    let region = c.args.self.now in
    let table = region.table.now in
    let some = some_run c.load_shared_words.result c.load_shared_words.new.into c.load_shared_words.ensures.loaded in
    let after = shared_run (g.T.HeldWords.line_count table) (g.T.HeldWords.running table) (g.T.HeldWords.lawful table) region.held.now c.args.at (take some.0 c.load_shared_words.new.into) region.seat.now c.load_shared_words.new.seat region.placed some.1 region.of region.within region.place in
    record {
      of = after.0;
      starts = region.starts;
      within = after.1;
      place = after.2;
      since = since_shared_run (g.T.HeldWords.line_count table) (g.T.HeldWords.running table) (g.T.HeldWords.lawful table) region.held.now c.args.at (take some.0 c.load_shared_words.new.into) region.seat.now c.load_shared_words.new.seat region.began some.1 region.since;
    }

pub returns-clause-read : goal.returns-clause-read
returns-clause-read g c =
    let region = c.args.self.now in
    let table = region.table.now in
    run_then c.load_shared_words.result (stands_shared_run (g.T.HeldWords.line_count table) (g.T.HeldWords.running table) (g.T.HeldWords.lawful table) region.held.now c.args.at c.load_shared_words.new.into region.seat.now c.load_shared_words.new.seat) c.load_shared_words.ensures.loaded

pub returns-clause-unchanged : goal.returns-clause-unchanged
returns-clause-unchanged g c =
    let region = c.args.self.now in
    let table = region.table.now in
    let some = some_run c.load_shared_words.result c.load_shared_words.new.into c.load_shared_words.ensures.loaded in
    let read = stands_shared_run (g.T.HeldWords.line_count table) (g.T.HeldWords.running table) (g.T.HeldWords.lawful table) region.held.now c.args.at (take some.0 c.load_shared_words.new.into) region.seat.now c.load_shared_words.new.seat some.1 in
    record { from = λ first now s. (now, (read.from first now s).0, refl) }

pub returns-clause-framed : goal.returns-clause-framed
returns-clause-framed g c =
    let region = c.args.self.now in
    let table = region.table.now in
    let some = some_run c.load_shared_words.result c.load_shared_words.new.into c.load_shared_words.ensures.loaded in
    let rest = rest_shared_run (g.T.HeldWords.line_count table) (g.T.HeldWords.running table) (g.T.HeldWords.lawful table) region.held.now c.args.at (take some.0 c.load_shared_words.new.into) region.seat.now c.load_shared_words.new.seat some.1 in
    record {
      size_kept = refl;
      fixed_kept = ap (λ (s : Seated). record { name = region.seat.ghost_name; table = table; held = region.held.now; placed = region.placed; began = region.began; rest = s }) rest;
      writable_kept = ap (λ (s : Seated). s.known.local.limit == 0) rest;
      limited = still_limited region.seat.now.known.local c.load_shared_words.new.seat.known.local (ap (λ (s : Seated). s.known.local.limit) rest);
    }
