use Rattle.std.proofs.Common.{◌∙◌, ap, inr, refl, subst}
use Rattle.table_invariant.specs.Seats.{Seated}
use Rattle.table_invariant.proofs.Stepping.{on_then}
use Rattle.redo_set.specs.Taking.{CountsTaken}
use Rattle.redo_replay.specs.Offered.{BringsBySet, ReplaysOffered}
use Rattle.cx_attempts.proofs.Bringing.{at_most_behind}
use Rattle.cx_attempts.proofs.ReadEntries.{may_still}
use Rattle.cx_attempts.proofs.Working.{counts_since, replay_offered}
use Rattle.cx_attempts.proofs.replay.apply_another.Goals as goal

pub returns-in_err-taken-clause-keeps : goal.returns-in_err-taken-clause-keeps
returns-in_err-taken-clause-keeps g c =
    let e = c.replay_offered.ensures.leaves in
    record { seat = e.seat; since = e.since; rest = replay_offered c.args.held.now.replica c.args.seat.now c.replay_offered.new.seat e.rest }

pub returns-then-taken : goal.returns-then-taken
returns-then-taken g c =
    let mid = c.replay_offered.new.seat in
    let set = c.replay_offered.new.set in
    let e = c.replay_offered.ensures.leaves in
    let b = c.in_ok-taken.ensures.brought in
    record {
      applied = record {
        ready = subst (ReplaysOffered g.O.Object c.args.shared.now c.args.held.now c.args.at mid) c.if-taken.true c.in_ok-taken.ensures.replayed;
        counted = subst (CountsTaken c.args.seat.now mid) c.if-taken.true b.counted;
        by_sets = inr (set, c.args.seat.now, refl, (subst (BringsBySet g.O.Object c.args.shared.now c.args.at set c.args.seat.now mid) c.if-taken.true b.brought).by);
      };
      keeps = record { seat = e.seat; since = e.since; rest = replay_offered c.args.held.now.replica c.args.seat.now mid e.rest };
    }

pub step_another-requires : goal.step_another-requires
step_another-requires g c =
    let mid = c.replay_offered.new.seat in
    let e = c.replay_offered.ensures.leaves in
    record {
      may = record {
        ready = subst (ReplaysOffered g.O.Object c.args.shared.now c.args.held.now c.args.at mid) c.if-taken.false c.in_ok-taken.ensures.replayed;
        may = may_still c.args.shared.now c.args.at c.args.seat.now mid e.seat (ap (λ (s : Seated). s.known.local.front) e.rest) (ap (λ (s : Seated). s.known.local.protection) e.rest) c.requires.may.may;
      };
    }

pub returns-in_err-taken_late-clause-keeps : goal.returns-in_err-taken_late-clause-keeps
returns-in_err-taken_late-clause-keeps g c =
    let mid = c.replay_offered.new.seat in
    let e = c.replay_offered.ensures.leaves in
    let f = c.step_another.ensures.keeps in
    record { seat = f.seat; since = on_then c.args.seat.now mid c.step_another.new.seat e.since f.since; rest = f.rest ∙ replay_offered c.args.held.now.replica c.args.seat.now mid e.rest }

pub returns : goal.returns
returns g c =
    let mid = c.replay_offered.new.seat in
    let last = c.step_another.new.seat in
    let e = c.replay_offered.ensures.leaves in
    let f = c.step_another.ensures.keeps in
    let a = c.in_ok-taken_late.ensures.applied in
    let same = subst (CountsTaken c.args.seat.now mid) c.if-taken.false c.in_ok-taken.ensures.brought.counted in
    record {
      applied = record {
        ready = a.ready;
        counted = counts_since c.args.seat.now mid last c.in_ok-taken_late.taken_late same a.counted;
        by_sets = at_most_behind c.args.at c.args.seat.now mid last same a.by_sets;
      };
      keeps = record { seat = f.seat; since = on_then c.args.seat.now mid last e.since f.since; rest = f.rest ∙ replay_offered c.args.held.now.replica c.args.seat.now mid e.rest };
    }
