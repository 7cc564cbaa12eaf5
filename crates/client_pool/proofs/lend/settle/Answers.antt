use Rattle.std.proofs.Common.{◌≤◌, ◌^◌, refl, subst, sym}
use Rattle.client_pool.specs.Lending.{MaySettle}
use Rattle.client_pool.proofs.lend.settle.Goals as goal

pub give-requires-clause-caller : goal.give-requires-clause-caller
give-requires-clause-caller g c =
    let may = subst (MaySettle c.args.pool.now.service c.args.lent.now) c.in-Done.is c.requires.updated in
    (may.caller, may.limit, may.first)

pub returns-in-Done : goal.returns-in-Done
returns-in-Done g c = (
  c.in-Done.back,
  c.in-Done.is,
  c.number-number.ensures,
  subst (λ n. n ≤ 2 ^ 40) c.front-front.ensures.value c.front-front.ensures.small,
  record { pass = c.give.ensures.0; view_is = c.give.ensures.1; kept = refl },
)

pub returns-in-Full : goal.returns-in-Full
returns-in-Full g c = (c.in-Full.back, c.in-Full.is, (refl, refl))

pub returns-in-Worn : goal.returns-in-Worn
returns-in-Worn g c = (c.in-Worn.back, c.in-Worn.is, (refl, refl))

pub returns-in-Halted : goal.returns-in-Halted
returns-in-Halted g c = (let kept = c.keep_stopped.ensures in (c.in-Halted.stopped, c.in-Halted.is, sym kept.linked, kept.kept))
