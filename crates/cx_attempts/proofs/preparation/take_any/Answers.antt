use Rattle.std.proofs.Common.{◌*◌, ◌∙◌, arith, subst, sym}
use Rattle.table_invariant.specs.Seats.{IsAtLimit, Seated}
use Rattle.cx_attempts.proofs.Refusals.{refusing_more}
use Rattle.table_invariant.proofs.Stepping.{on_then}
use Rattle.cx_attempts.specs.Taking.{TriesOne}
use Rattle.cx_attempts.proofs.preparation.take_any.Goals as goal

pub loop-tried-preserved : goal.loop-tried-preserved
loop-tried-preserved g c =
    let shared = c.args.shared.now in
    let i = c.loop-tried.invariant in
    let e = c.in_ok-held.ensures in
    let first = 2 * c.number-first.result in
    let w = c.wrapped-r.ensures in
    record {
      of = e.keeps.seat;
      rest = e.keeps.rest ∙ i.rest;
      steps = (let one = e.keeps.steps in omega (arith, one, i.steps));
      since = on_then c.args.seat.now c.loop-tried.seat c.try_one.new.seat i.since e.keeps.since;
      refusing = refusing_more shared.callers first c.loop-tried.tried c.wrapped-r.result c.args.seat.now c.loop-tried.seat c.try_one.new.seat (omega arith) (omega arith) (record { below = λ low. w.below (omega arith); above = λ high. (let up = w.above (omega arith) in omega arith) }) i.refusing
          (subst (TriesOne g.O.Object shared c.wrapped-r.result c.loop-tried.seat c.try_one.new.seat) c.in_default.is e.tried);
      stood = λ at. absurd (e.allowed (subst (λ (s : Seated). IsAtLimit s.known.local) (sym (i.stood at).1) at));
    }
