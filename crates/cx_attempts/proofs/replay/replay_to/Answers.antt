use Rattle.std.proofs.Common.{◌<◌, ◌≤◌, ◌∙◌, ap, arith, refl, subst, sym}
use Rattle.std.proofs.lemmas.Bool.{false≢true}
use Rattle.cx_core.specs.RingEvents.{Protects}
use Rattle.table_invariant.specs.Seats.{Seated}
use Rattle.table_invariant.proofs.Stepping.{on_still, on_then}
use Rattle.cx_attempts.proofs.Bringing.{counts_none, counts_then}
use Rattle.replica.proofs.Replaying.{image_from}
use Rattle.cx_attempts.proofs.replay.replay_to.Goals as goal

pub loop-at-init : goal.loop-at-init
loop-at-init g c =
    let shared = c.args.shared.now in
    let at = c.noted_place-place.ensures in
    record {
      ready = record { is_held = c.requires.ready.is_held; image = c.requires.ready.image; place = sym at };
      later = subst (λ p. shared.base.place ≤ p) (sym at) (image_from (g.O.Object.line_count shared.object) (g.O.Object.lawful shared.object) shared.base (g.O.Object.step shared.object) c.args.seat.now.known c.requires.ready.is_held.some c.requires.ready.image);
      linked = c.requires.linked;
      protected = λ t from to. c.requires.protected t (subst (λ p. p ≤ t) at from) to;
      replied = λ own. absurd (false≢true own);
      counted = counts_none c.args.scratch.now.taken c.args.scratch.now.taken c.args.seat.now c.args.seat.now refl refl;
      since = on_still c.args.seat.now c.args.seat.now refl;
      work = refl;
    }

pub returns-then-ticket-place-clause-replayed : goal.returns-then-ticket-place-clause-replayed
returns-then-ticket-place-clause-replayed g c =
    let at = c.noted_place-place.ensures in
    record { ready = c.requires.ready; place = omega (arith, at); replied = λ own. absurd (false≢true own) }

pub returns-then-ticket-place-clause-counted : goal.returns-then-ticket-place-clause-counted
returns-then-ticket-place-clause-counted g c = counts_none c.args.scratch.now.taken c.args.scratch.now.taken c.args.seat.now c.args.seat.now refl refl

pub loop-at-preserved : goal.loop-at-preserved
loop-at-preserved g c =
    let i = c.loop-at.invariant in
    let e = c.in_ok-own.ensures in
    let k = c.replay_next.ensures.keeps in
    let rest = k.rest in
    let later = i.later in
    record {
      ready = e.applied.ready;
      later = omega (arith, later);
      linked = subst (λ n. c.args.ticket < n) (sym (ap (λ (s : Seated). s.known.local.front) rest)) i.linked;
      protected = λ t from to. subst (Protects t) (sym (ap (λ (s : Seated). s.known.local.protection) rest)) (i.protected t (omega (arith, from)) to);
      replied = e.applied.replied;
      counted = counts_then c.args.scratch.now.taken c.loop-at.scratch.taken c.replay_next.new.scratch.taken c.args.seat.now c.loop-at.seat c.replay_next.new.seat i.counted e.counted;
      since = on_then c.args.seat.now c.loop-at.seat c.replay_next.new.seat i.since k.since;
      work = rest ∙ i.work;
    }
