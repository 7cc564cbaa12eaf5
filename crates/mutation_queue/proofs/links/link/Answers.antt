use Rattle.std.proofs.Common.{◌≡◌, ◌+◌, ◌*◌, ◌<◌, ◌≤◌, ℕ, zero, suc, sym, refl, subst, add-one, arith}
use Rattle.cx_base.specs.Codes.{root_place_of}
use Rattle.cx_table.specs.Seats.{Seated}
use Rattle.mutation_queue.specs.Links.{LinksAt, LinksPast, LosesTries, LosesTry, TriedOnce, WinsTry}
use Rattle.mutation_queue.proofs.Results.{on_err}
use Rattle.mutation_queue.proofs.Tries.{leaves_linked, leaves_none, none_at, none_here, none_then, still_may}
use Rattle.mutation_queue.proofs.links.link.Goals as goal

pub loop-tried-init : goal.loop-tried-init
loop-tried-init g c = record {
  none = none_here c.args.seat.now;
  lost = refl;
  front = omega arith;
  at_first = λ _. refl;
  cur = λ some. absurd (omega arith);
  steps = omega arith;
}

-- what was loaded from CUR is at most at the front before the first try
cur_kept : (callers tried : ℕ) (s t : Seated) → (tried ≡ 0 → t ≡ s) → (0 < tried → root_place_of callers s.known.local.seen_cur ≤ s.known.local.front) →
    root_place_of callers t.known.local.seen_cur ≤ t.known.local.front → 0 < tried + 1 → root_place_of callers s.known.local.seen_cur ≤ s.known.local.front
cur_kept callers zero s t first cur now some = subst (λ (x : Seated). root_place_of callers x.known.local.seen_cur ≤ x.known.local.front) (first refl) now
cur_kept callers (suc n) s t first cur now some = cur (omega arith)

pub returns-then-front-ge-END-clause-tried : goal.returns-then-front-ge-END-clause-tried
returns-then-front-ge-END-clause-tried g c = record { none = c.loop-tried.invariant.none; front = omega (arith, c.front.ensures.value, c.front.ensures.small, c.if-front-ge-END.true) }

pub try_link-requires-clause-may : goal.try_link-requires-clause-may
try_link-requires-clause-may g c = still_may c.args.shared.now c.args.cell c.args.seat.now c.loop-tried.seat c.loop-tried.invariant.none c.requires.may

pub returns-in_err-ticket-clause-halted : goal.returns-in_err-ticket-clause-halted
returns-in_err-ticket-clause-halted g c =
    let halted = c.in_err-ticket.ensures.halted in
    on_err c.from_residual.result _ (
      none_then c.args.seat.now c.loop-tried.seat c.try_link.new.seat c.loop-tried.invariant.none halted.0,
      halted.1,
      record {
        count = c.loop-tried._tried;
        fewer = omega (arith, c.loop-tried-test.true);
        mid = c.loop-tried.seat;
        lost = c.loop-tried.invariant.lost;
        left = omega (arith, c.front.ensures.value, c.if-front-ge-END.false);
        last = halted.2;
      },
    )

pub returns-in-Some-clause-tried : goal.returns-in-Some-clause-tried
returns-in-Some-clause-tried g c =
    none_at c.args.cell c.in-Some.ticket c.args.seat.now c.loop-tried.seat c.try_link.new.seat c.loop-tried.invariant.none
    (let won : LinksAt c.args.cell c.in-Some.ticket c.loop-tried.seat c.try_link.new.seat × WinsTry c.args.shared.now.callers c.args.cell c.loop-tried.seat c.try_link.new.seat = subst (TriedOnce c.args.shared.now.callers c.args.cell c.loop-tried.seat c.try_link.new.seat) c.in-Some.is c.in_ok-ticket.ensures.tried in won.0)

pub loop-tried-preserved : goal.loop-tried-preserved
loop-tried-preserved g c =
    let s = c.args.seat.now in
    let t = c.loop-tried.seat in
    let inv = c.loop-tried.invariant in
    let callers = c.args.shared.now.callers in
    let past : LinksPast callers t c.try_link.new.seat × LosesTry callers t c.try_link.new.seat = subst (TriedOnce callers c.args.cell t c.try_link.new.seat) c.in_default.is c.in_ok-ticket.ensures.tried in
    record {
      none = none_then s t c.try_link.new.seat inv.none past.0.none;
      lost = subst (λ n. LosesTries callers n s c.try_link.new.seat) (sym (add-one c.loop-tried._tried)) (t, inv.lost, past.1);
      front = omega (arith, inv.front, past.0.front);
      at_first = λ zero. absurd (omega arith);
      cur = cur_kept callers c.loop-tried._tried s t inv.at_first inv.cur past.0.cur;
      steps = omega (arith, inv.steps, c.in_ok-ticket.ensures.steps);
    }

pub returns-then-front-ge-END-2-clause-tried : goal.returns-then-front-ge-END-2-clause-tried
returns-then-front-ge-END-2-clause-tried g c = record { none = c.loop-tried.invariant.none; front = omega (arith, c.front-2.ensures.value, c.front-2.ensures.small, c.if-front-ge-END-2.true) }

pub returns-clause-tried : goal.returns-clause-tried
returns-clause-tried g c =
    let inv = c.loop-tried.invariant in
    let all : c.loop-tried._tried ≡ c.args.tries = omega (arith, c.loop-tried-test.false, c.loop-tried.auto) in
    let cur = inv.cur (omega (arith, all, c.requires.tries)) in
    record {
      lost = subst (λ n. LosesTries c.args.shared.now.callers n c.args.seat.now c.loop-tried.seat) all inv.lost;
      none = inv.none;
      front = omega (arith, inv.front, all);
      cur = omega (arith, inv.front, all, cur);
      left = omega (arith, c.front-2.ensures.value, c.if-front-ge-END-2.false);
    }

-- ---- what is left of the seat

pub returns-then-front-ge-END-clause-leaves : goal.returns-then-front-ge-END-clause-leaves
returns-then-front-ge-END-clause-leaves g c = leaves_none c.args.shared.now (2 * c.args.tries) c.args.seat.now c.loop-tried.seat c.requires.may.of (omega (arith, c.loop-tried.invariant.steps, c.loop-tried-test.true)) c.loop-tried.invariant.none

pub returns-in_err-ticket-clause-leaves : goal.returns-in_err-ticket-clause-leaves
returns-in_err-ticket-clause-leaves g c =
    leaves_none c.args.shared.now (2 * c.args.tries) c.args.seat.now c.try_link.new.seat c.requires.may.of (omega (arith, c.loop-tried.invariant.steps, c.try_link.ensures.steps, c.loop-tried-test.true))
    (none_then c.args.seat.now c.loop-tried.seat c.try_link.new.seat c.loop-tried.invariant.none c.in_err-ticket.ensures.halted.0)

pub returns-in-Some-clause-leaves : goal.returns-in-Some-clause-leaves
returns-in-Some-clause-leaves g c =
    leaves_linked c.args.shared.now (2 * c.args.tries) c.args.seat.now c.try_link.new.seat c.requires.may.of (omega (arith, c.loop-tried.invariant.steps, c.try_link.ensures.steps, c.loop-tried-test.true)) (returns-in-Some-clause-tried g c).same

pub returns-then-front-ge-END-2-clause-leaves : goal.returns-then-front-ge-END-2-clause-leaves
returns-then-front-ge-END-2-clause-leaves g c = leaves_none c.args.shared.now (2 * c.args.tries) c.args.seat.now c.loop-tried.seat c.requires.may.of (omega (arith, c.loop-tried.invariant.steps, c.loop-tried.auto)) c.loop-tried.invariant.none

pub returns-clause-leaves : goal.returns-clause-leaves
returns-clause-leaves g c = leaves_none c.args.shared.now (2 * c.args.tries) c.args.seat.now c.loop-tried.seat c.requires.may.of (omega (arith, c.loop-tried.invariant.steps, c.loop-tried.auto)) c.loop-tried.invariant.none

-- ---- the tries that were made

pub returns-then-front-ge-END-clause-made : goal.returns-then-front-ge-END-clause-made
returns-then-front-ge-END-clause-made g c = (c.loop-tried._tried, omega (arith, c.loop-tried-test.true), c.loop-tried.invariant.lost)

pub returns-in-Some-clause-made : goal.returns-in-Some-clause-made
returns-in-Some-clause-made g c =
    record {
      count = c.loop-tried._tried;
      fewer = omega (arith, c.loop-tried-test.true);
      mid = c.loop-tried.seat;
      lost = c.loop-tried.invariant.lost;
      left = omega (arith, c.front.ensures.value, c.if-front-ge-END.false);
      last = (let won : LinksAt c.args.cell c.in-Some.ticket c.loop-tried.seat c.try_link.new.seat × WinsTry c.args.shared.now.callers c.args.cell c.loop-tried.seat c.try_link.new.seat = subst (TriedOnce c.args.shared.now.callers c.args.cell c.loop-tried.seat c.try_link.new.seat) c.in-Some.is c.in_ok-ticket.ensures.tried in won.1);
    }

pub returns-then-front-ge-END-2-clause-made : goal.returns-then-front-ge-END-2-clause-made
returns-then-front-ge-END-2-clause-made g c = (c.loop-tried._tried, omega (arith, c.loop-tried.auto), c.loop-tried.invariant.lost)

pub returns-clause-made : goal.returns-clause-made
returns-clause-made g c = (returns-clause-tried g c).lost
