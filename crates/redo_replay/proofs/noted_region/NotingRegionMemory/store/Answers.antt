use Rattle.std.proofs.Common.{Ok, true, ℕ, arith, sym, ◌∙◌}
use Rattle.std.proofs.lemmas.Bool.{true≢false}
use Rattle.redo_replay.proofs.Accesses.{held_still, knows_stored}
use Rattle.redo_replay.proofs.NotingLaws.{kept_stored}
use Rattle.replica.proofs.RegionLaws.{since_after}
use Rattle.redo_replay.proofs.noted_region.NotingRegionMemory.store.Goals.{then-self, else-self}
use Rattle.redo_replay.proofs.noted_region.NotingRegionMemory.store.Goals as goal

pub invariant_of-self-2 : goal.invariant_of-self-2
invariant_of-self-2 g c =
    let region = c.args.self.now in
    let table = region.table.now in
    let lines = g.T.HeldWords.line_count table in
    let r = g.T.HeldWords.running table in
    let lawful = g.T.HeldWords.lawful table in
    let step = g.T.HeldWords.step table in
    let e = c.store_held.ensures in
    let last = c.store_held.new.seat in
    let after = held_still lines r lawful step region.held.now region.seat.now last (λ _. (true, c.args.at, c.args.v)) c.store_held.result e.made e.halted region.of region.within region.place in
    let on = since_after lines r lawful step region.held.now region.seat.now last (λ _. (true, c.args.at, c.args.v)) g.J.KnowledgeAtStart.known.local.steps c.store_held.result e.made e.halted region.since in
    let stored = knows_stored {E = ℕ} lines r lawful step region.held.now region.seat.now last c.args.at c.args.v (Ok c.in_ok-store_held.field-0) (omega arith) c.in_ok-store_held.ensures.made in
    elim c.if-self.branch [
      | then-self w ↦ rw w.self-is (rw w.self2-is (record {
        of = after.0;
        starts = region.starts;
        within = after.1;
        place = after.2;
        since = on;
        notes = λ noted. kept_stored lines r lawful step g.J.KnowledgeAtStart.known region.seat.now last region.set.now c.args.at c.args.v w.note-self.new.self c.requires.at w.note-self.ensures.within (w.note-self.ensures.last noted) stored (region.notes w.if-self.true);
      }))
      | else-self w ↦ rw w.self-is (rw w.self2-is (record { of = after.0; starts = region.starts; within = after.1; place = after.2; since = on; notes = λ noted. absurd (true≢false (sym noted ∙ w.if-self.false)) }))
    ]

pub returns-clause-stands : goal.returns-clause-stands
returns-clause-stands g c =
    let region = c.args.self.now in
    let table = region.table.now in
    knows_stored {E = ℕ} (g.T.HeldWords.line_count table) (g.T.HeldWords.running table) (g.T.HeldWords.lawful table) (g.T.HeldWords.step table) region.held.now region.seat.now c.store_held.new.seat c.args.at c.args.v (Ok c.in_ok-store_held.field-0) (omega arith) c.in_ok-store_held.ensures.made
