use Rattle.std.proofs.Common.{◌+◌, ◌∷◌, ◌∙◌, ap, inl, inr, refl, subst}
use Rattle.table_invariant.specs.Seats.{Seated}
use Rattle.table_invariant.proofs.Stepping.{on_then}
use Rattle.cx_attempts.proofs.ReadEntries.{may_still, offered_comes, ready_read}
use Rattle.cx_attempts.proofs.Working.{replay_held, replay_offered}
use Rattle.cx_attempts.specs.Attempts.{except_sets}
use Rattle.redo_set.specs.Taking.{CountsTaken, sets_read}
use Rattle.redo_replay.specs.Offered.{BringsBySet, ReplaysOffered}
use Rattle.cx_attempts.proofs.replay.step_another.Goals as goal

pub returns-in_err-read_next-clause-keeps : goal.returns-in_err-read_next-clause-keeps
returns-in_err-read_next-clause-keeps g c =
    let f = c.read_next.ensures.keeps in
    record { seat = f.seat; since = f.since; rest = ap except_sets f.rest }

pub replay_offered-requires : goal.replay_offered-requires
replay_offered-requires g c =
    let f = c.in_ok-read_next.ensures in
    let now = c.read_next.new.seat in
    let next = c.read_next.new.next in
    record {
      ready = ready_read g.O.Object c.args.shared.now next.caller c.args.at c.args.at (next.number ∷ next.op) c.args.seat.now now c.args.held.now f.keeps.seat f.read.read f.read.fits c.requires.may.ready;
      may = may_still c.args.shared.now c.args.at c.args.seat.now now f.keeps.seat (ap (λ (s : Seated). s.known.local.front) f.keeps.rest) (ap (λ (s : Seated). s.known.local.protection) f.keeps.rest) c.requires.may.may;
    }

pub returns-in_err-taken-clause-keeps : goal.returns-in_err-taken-clause-keeps
returns-in_err-taken-clause-keeps g c =
    let e = c.replay_offered.ensures.leaves in
    let f = c.read_next.ensures.keeps in
    let now = c.read_next.new.seat in
    let mid = c.replay_offered.new.seat in
    record { seat = e.seat; since = on_then c.args.seat.now now mid f.since e.since; rest = replay_offered c.args.held.now.replica now mid e.rest ∙ ap except_sets f.rest }

pub returns-then-taken : goal.returns-then-taken
returns-then-taken g c =
    let now = c.read_next.new.seat in
    let mid = c.replay_offered.new.seat in
    let e = c.replay_offered.ensures.leaves in
    let f = c.read_next.ensures.keeps in
    let set = c.replay_offered.new.set in
    let sets = ap (λ (s : Seated). s.known.sets) f.rest in
    let by = (subst (BringsBySet g.O.Object c.args.shared.now c.args.at set now mid) c.if-taken.true c.in_ok-taken.ensures.brought.brought).by in
    record {
      applied = record {
        ready = subst (ReplaysOffered g.O.Object c.args.shared.now c.args.held.now c.args.at mid) c.if-taken.true c.in_ok-taken.ensures.replayed;
        counted = by.read ∙ ap (λ ns. sets_read ns + 1) sets;
        by_sets = inr (set, now, sets, by);
      };
      keeps = record { seat = e.seat; since = on_then c.args.seat.now now mid f.since e.since; rest = replay_offered c.args.held.now.replica now mid e.rest ∙ ap except_sets f.rest };
    }

pub apply_noting-requires : goal.apply_noting-requires
apply_noting-requires g c =
    let f = c.in_ok-read_next.ensures in
    let now = c.read_next.new.seat in
    let mid = c.replay_offered.new.seat in
    let next = c.read_next.new.next in
    let e = c.replay_offered.ensures.leaves in
    let ready = subst (ReplaysOffered g.O.Object c.args.shared.now c.args.held.now c.args.at mid) c.if-taken.false c.in_ok-taken.ensures.replayed in
    record {
      ready = record { is_held = ready.is_held; image = ready.image; place = refl };
      next = offered_comes g.O.Object c.args.shared.now c.args.at next c.args.seat.now now mid f.read (ap (λ (s : Seated). s.known.noted) e.rest) ready.place;
    }

pub returns-in_err-apply_noting-clause-keeps : goal.returns-in_err-apply_noting-clause-keeps
returns-in_err-apply_noting-clause-keeps g c =
    let e = c.replay_offered.ensures.leaves in
    let f = c.read_next.ensures.keeps in
    let now = c.read_next.new.seat in
    let mid = c.replay_offered.new.seat in
    let last = c.apply_noting.new.seat in
    let a = c.apply_noting.ensures.leaves in
    record {
      seat = a.still.of;
      since = on_then c.args.seat.now mid last (on_then c.args.seat.now now mid f.since e.since) a.since;
      rest = replay_held c.args.held.now.replica mid last a.rest ∙ replay_offered c.args.held.now.replica now mid e.rest ∙ ap except_sets f.rest;
    }

pub returns : goal.returns
returns g c =
    let a = c.in_ok-apply_noting.ensures in
    let f = c.read_next.ensures.keeps in
    let now = c.read_next.new.seat in
    let mid = c.replay_offered.new.seat in
    let last = c.apply_noting.new.seat in
    let e = c.replay_offered.ensures.leaves in
    let ready = subst (ReplaysOffered g.O.Object c.args.shared.now c.args.held.now c.args.at mid) c.if-taken.false c.in_ok-taken.ensures.replayed in
    let same = ap (λ (s : Seated). s.known.sets) a.leaves.rest ∙ subst (CountsTaken now mid) c.if-taken.false c.in_ok-taken.ensures.brought.counted ∙ ap (λ (s : Seated). s.known.sets) f.rest in
    record {
      applied = record {
        ready = record { is_held = a.ready.0.is_held; image = a.ready.0.image; place = a.ready.0.place ∙ ap (λ n. n + 1) ready.place };
        counted = same;
        by_sets = inl same;
      };
      keeps = record {
        seat = a.leaves.still.of;
        since = on_then c.args.seat.now mid last (on_then c.args.seat.now now mid f.since e.since) a.leaves.since;
        rest = replay_held c.args.held.now.replica mid last a.leaves.rest ∙ replay_offered c.args.held.now.replica now mid e.rest ∙ ap except_sets f.rest;
      };
    }
