use Rattle.std.proofs.Common.{ℕ, Ok, IfOk, OnErr, subst, sym}
use Rattle.table_invariant.specs.Steps.{Halts}
use Rattle.replica.specs.Held.{IsHeldShared, LoadsShared}
use Rattle.replica.proofs.RegionLaws.{shared_after, shared_since, stands_read}
use Rattle.replica.proofs.read_region.ReadRegionMemory.load.Goals as goal

pub load_shared-requires-clause-held : goal.load_shared-requires-clause-held
load_shared-requires-clause-held g c =
    let region = c.args.self.now in
    let table = region.table.now in
    subst (λ s. IsHeldShared (g.T.HeldWords.line_count table) (g.T.HeldWords.running table) (g.T.HeldWords.lawful table) s region.held.now) (sym c.in-None.ensures.none) region.of

pub invariant_of-self : goal.invariant_of-self
invariant_of-self g c =
    let region = c.args.self.now in
    let table = region.table.now in
    let lines = g.T.HeldWords.line_count table in
    let running = g.T.HeldWords.running table in
    let lawful = g.T.HeldWords.lawful table in
    let now = c.load_shared_at_once.new.seat in
    let made = c.in-Some.ensures.made in
    let after = shared_after {E = ℕ} lines running lawful region.held.now region.seat.now now c.args.at region.placed (Ok c.in-Some.found) made tt region.of region.within region.place in
    record {
      of = after.0;
      starts = region.starts;
      within = after.1;
      place = after.2;
      since = shared_since {E = ℕ} lines running lawful region.held.now region.seat.now now c.args.at region.began (Ok c.in-Some.found) made tt region.since;
    }

pub invariant_of-self-in-None : goal.invariant_of-self-in-None
invariant_of-self-in-None g c =
    let region = c.args.self.now in
    let table = region.table.now in
    let lines = g.T.HeldWords.line_count table in
    let running = g.T.HeldWords.running table in
    let lawful = g.T.HeldWords.lawful table in
    let now = c.load_shared.new.seat in
    let result = c.load_shared.result in
    let made = subst (λ s. IfOk result (λ v. LoadsShared lines running lawful region.held.now c.args.at v s now)) c.in-None.ensures.none c.load_shared.ensures.made in
    let halted = subst (λ s. OnErr result (Halts running s now)) c.in-None.ensures.none c.load_shared.ensures.halted in
    let after = shared_after lines running lawful region.held.now region.seat.now now c.args.at region.placed result made halted region.of region.within region.place in
    record {
      of = after.0;
      starts = region.starts;
      within = after.1;
      place = after.2;
      since = shared_since lines running lawful region.held.now region.seat.now now c.args.at region.began result made halted region.since;
    }

pub returns-in-Some-clause-stands : goal.returns-in-Some-clause-stands
returns-in-Some-clause-stands g c =
    let region = c.args.self.now in
    let table = region.table.now in
    stands_read {E = ℕ} (g.T.HeldWords.line_count table) (g.T.HeldWords.running table) (g.T.HeldWords.lawful table) region.held.now region.seat.now c.load_shared_at_once.new.seat c.args.at (Ok c.in-Some.found) c.in-Some.ensures.made

pub returns-in_ok-load_shared-in-None-clause-stands : goal.returns-in_ok-load_shared-in-None-clause-stands
returns-in_ok-load_shared-in-None-clause-stands g c =
    let region = c.args.self.now in
    let table = region.table.now in
    let lines = g.T.HeldWords.line_count table in
    let running = g.T.HeldWords.running table in
    let lawful = g.T.HeldWords.lawful table in
    let v = c.in_ok-load_shared-in-None.field-0 in
    let now = c.load_shared.new.seat in
    stands_read {E = ℕ} lines running lawful region.held.now region.seat.now now c.args.at (Ok v)
    (subst (λ s. LoadsShared lines running lawful region.held.now c.args.at v s now) c.in-None.ensures.none c.in_ok-load_shared-in-None.ensures.made)
