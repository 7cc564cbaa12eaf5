use Rattle.std.proofs.Common.{◌≡◌, ◌∙◌, ap, arith, refl, subst, sym}
use Rattle.cx_core.specs.Region.{slot_reply}
use Rattle.table_invariant.specs.Seats.{Seated}
use Rattle.table_invariant.proofs.Stepping.{on_then}
use Rattle.redo_replay.specs.Offered.{ReplaysOffered}
use Rattle.cx_attempts.proofs.Bringing.{brings_at, counted_same, counts_none}
use Rattle.cx_attempts.proofs.ReadEntries.{applied_alone, may_still, own_comes}
use Rattle.cx_attempts.proofs.Working.{replay_held, replay_own}
use Rattle.cx_attempts.proofs.replay.replay_next.Goals as goal

pub returns-in_err-done-clause-keeps : goal.returns-in_err-done-clause-keeps
returns-in_err-done-clause-keeps g c =
    let e = c.replay_own.ensures.leaves in
    record { seat = e.still.of; since = e.since; rest = replay_held c.args.held.now.replica c.args.seat.now c.replay_own.new.seat e.rest }

pub returns-then-done : goal.returns-then-done
returns-then-done g c =
    let mid = c.replay_own.new.seat in
    let e = c.replay_own.ensures.leaves in
    let taken = c.args.scratch.now.taken in
    record {
      applied = applied_alone g.O.Object c.args.shared.now c.args.held.now c.args.at c.args.reply.now mid (subst (ReplaysOffered g.O.Object c.args.shared.now c.args.held.now c.args.at mid) c.if-done.true c.in_ok-done.ensures.replayed);
      counted = counts_none taken taken c.args.seat.now mid refl (ap (λ (s : Seated). s.known.sets) e.rest);
      keeps = record { seat = e.still.of; since = e.since; rest = replay_held c.args.held.now.replica c.args.seat.now mid e.rest };
    }

pub step_and_offer-requires : goal.step_and_offer-requires
step_and_offer-requires g c =
    let mid = c.replay_own.new.seat in
    let ready = subst (ReplaysOffered g.O.Object c.args.shared.now c.args.held.now c.args.at mid) c.if-done.false c.in_ok-done.ensures.replayed in
    let caller = ready.is_held.of.caller in
    let few = c.callers_are_few.ensures.few in
    record {
      ready = ready;
      next = own_comes c.args.at _ mid (c.if-own_entry.ensures refl) (omega (arith, caller, few)) ready.place;
    }

pub returns-in_err-step_and_offer-clause-keeps : goal.returns-in_err-step_and_offer-clause-keeps
returns-in_err-step_and_offer-clause-keeps g c =
    let mid = c.replay_own.new.seat in
    let last = c.step_and_offer.new.seat in
    let e = c.replay_own.ensures.leaves in
    let f = c.step_and_offer.ensures.leaves in
    record { seat = f.seat; since = on_then c.args.seat.now mid last e.since f.since; rest = replay_own c.args.held.now.replica mid last f.rest ∙ replay_held c.args.held.now.replica c.args.seat.now mid e.rest }

pub returns-then-own_entry : goal.returns-then-own_entry
returns-then-own_entry g c =
    let mid = c.replay_own.new.seat in
    let last = c.step_and_offer.new.seat in
    let e = c.replay_own.ensures.leaves in
    let f = c.step_and_offer.ensures.leaves in
    let a = c.in_ok-step_and_offer.ensures.applied in
    let taken = c.args.scratch.now.taken in
    let found = c.if-own_entry.ensures refl in
    let number : last.known.local.number ≡ mid.known.local.number = ap (λ (s : Seated). s.known.local.number) f.rest in
    record {
      applied = record { ready = a.ready; replied = λ _ first now fits. ap (λ n. slot_reply n now) (number ∙ sym found.caller_is) ∙ a.replied first now fits };
      counted = counts_none taken taken c.args.seat.now last refl (ap (λ (s : Seated). s.known.sets) f.rest ∙ ap (λ (s : Seated). s.known.sets) e.rest);
      keeps = record { seat = f.seat; since = on_then c.args.seat.now mid last e.since f.since; rest = replay_own c.args.held.now.replica mid last f.rest ∙ replay_held c.args.held.now.replica c.args.seat.now mid e.rest };
    }

pub replay_another-requires : goal.replay_another-requires
replay_another-requires g c =
    let mid = c.replay_own.new.seat in
    let e = c.replay_own.ensures.leaves in
    record {
      may = record {
        ready = subst (ReplaysOffered g.O.Object c.args.shared.now c.args.held.now c.args.at mid) c.if-done.false c.in_ok-done.ensures.replayed;
        may = may_still c.args.shared.now c.args.at c.args.seat.now mid e.still.of (ap (λ (s : Seated). s.known.local.front) e.rest) (ap (λ (s : Seated). s.known.local.protection) e.rest) c.requires.may.may;
      };
    }

pub returns-in_err-replay_another-clause-keeps : goal.returns-in_err-replay_another-clause-keeps
returns-in_err-replay_another-clause-keeps g c =
    let mid = c.replay_own.new.seat in
    let e = c.replay_own.ensures.leaves in
    let f = c.replay_another.ensures.keeps in
    record { seat = f.seat; since = on_then c.args.seat.now mid c.replay_another.new.seat e.since f.since; rest = f.rest ∙ replay_held c.args.held.now.replica c.args.seat.now mid e.rest }

pub returns : goal.returns
returns g c =
    let mid = c.replay_own.new.seat in
    let last = c.replay_another.new.seat in
    let e = c.replay_own.ensures.leaves in
    let f = c.replay_another.ensures.keeps in
    let a = c.in_ok-replay_another.ensures.applied in
    let taken = c.args.scratch.now.taken in
    let same = ap (λ (s : Seated). s.known.sets) e.rest in
    record {
      applied = applied_alone g.O.Object c.args.shared.now c.args.held.now c.args.at c.replay_another.new.reply last a.ready;
      counted = record { counted = λ was. a.counted (counted_same taken taken c.args.seat.now mid refl same was); by_sets = brings_at c.args.at c.args.seat.now mid last same a.by_sets };
      keeps = record { seat = f.seat; since = on_then c.args.seat.now mid last e.since f.since; rest = f.rest ∙ replay_held c.args.held.now.replica c.args.seat.now mid e.rest };
    }
