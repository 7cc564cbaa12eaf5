use Rattle.std.proofs.Common.{◌≤◌, length, sym, ap, subst, arith}
use Rattle.std.proofs.lemmas.List.{length-take-le}
use Rattle.table_invariant.specs.Listed.{HasGap}
use Rattle.table_invariant.specs.Running.{instance_at}
use Rattle.table_invariant.specs.Seats.{Seated}
use Rattle.cx_table.specs.GapWords.{IsNamed, TellsLines, lines_from}
use Rattle.cx_table.proofs.GapLoads.{has_named, loads_leave, run_gaps}
use Rattle.cx_table.proofs.GapWalks.{marked_lines, lines_walk, walk_by}
use Rattle.cx_table.proofs.gaps.mark_ticket.Goals as goal

pub returns-in-Some-clause-marks : goal.returns-in-Some-clause-marks
returns-in-Some-clause-marks g c = λ is. (
    let t = c.args.shared.now in
    let instance = instance_at t g.O.Object.step g.O.Object.only_reads in
    let slot = c.gap_slot-slot.result in
    let words = c.load_gaps.new.into in
    let count = c.in-Some.count in
    let before = c.args.seat.now in
    let after = c.load_gaps.new.seat in
    let tells = subst (λ n. TellsLines n slot c.args.ticket c.args.lines words count) c.callers-callers.ensures.value c.in-Some.ensures in
    let run = run_gaps g.O.Object t slot 0 words before after c.if-not-load_gaps.ensures.run in
    let within : count ≤ length words = (let under = tells.within in omega (arith, under)) in
    record {
      list = lines_from 0 count words;
      walked = walk_by (IsNamed t.callers slot words) (HasGap instance after.known) (has_named instance slot words before.known after.known (ap (λ (s : Seated). s.known.noted) run.seat)) c.args.ticket 0 (lines_from 0 count words) c.args.lines
          (lines_walk t.callers slot c.args.ticket c.args.lines words count tells);
      marked = marked_lines c.mark_all.new.marks words count within (c.mark_all.ensures.marks is) (sym (length-take-le count words within));
    })

pub returns-in-Some-clause-leaves : goal.returns-in-Some-clause-leaves
returns-in-Some-clause-leaves g c =
    let t = c.args.shared.now in
    let slot = c.gap_slot-slot.result in
    loads_leave g.O.Object t slot c.load_gaps.new.into c.args.seat.now c.load_gaps.new.seat c.if-not-load_gaps.ensures.seat (run_gaps g.O.Object t slot 0 c.load_gaps.new.into c.args.seat.now c.load_gaps.new.seat c.if-not-load_gaps.ensures.run)

pub returns-in-Some-clause-steps : goal.returns-in-Some-clause-steps
returns-in-Some-clause-steps g c =
    let steps = (run_gaps g.O.Object c.args.shared.now c.gap_slot-slot.result 0 c.load_gaps.new.into c.args.seat.now c.load_gaps.new.seat c.if-not-load_gaps.ensures.run).steps in
    omega (arith, steps, c.if-not-load_gaps.ensures.length)

pub returns-in-None-clause-leaves : goal.returns-in-None-clause-leaves
returns-in-None-clause-leaves g c =
    let t = c.args.shared.now in
    let slot = c.gap_slot-slot.result in
    loads_leave g.O.Object t slot c.load_gaps.new.into c.args.seat.now c.load_gaps.new.seat c.if-not-load_gaps.ensures.seat (run_gaps g.O.Object t slot 0 c.load_gaps.new.into c.args.seat.now c.load_gaps.new.seat c.if-not-load_gaps.ensures.run)

pub returns-in-None-clause-steps : goal.returns-in-None-clause-steps
returns-in-None-clause-steps g c =
    let steps = (run_gaps g.O.Object c.args.shared.now c.gap_slot-slot.result 0 c.load_gaps.new.into c.args.seat.now c.load_gaps.new.seat c.if-not-load_gaps.ensures.run).steps in
    omega (arith, steps, c.if-not-load_gaps.ensures.length)
