use Rattle.std.proofs.Common.{◌∙◌, ◌∷◌, [], ap, arith, refl, subst, sym}
use Rattle.crossbeam_queue.specs.Passes.{view}
use Rattle.cx_service.specs.declared.close.Handed.TheVariants.{Idle}
use Rattle.seat_pool.specs.Gathering.{IsGathering}
use Rattle.seat_pool.specs.Pooling.{total_weight}
use Rattle.seat_pool.specs.declared.hand.LenderPass.{LenderPass}
use Rattle.seat_pool.proofs.Gatherings.{as_held, as_many, drained, still_gathering}
use Rattle.seat_pool.proofs.Poolings.{total_both}
use Rattle.seat_pool.proofs.gather.drain.Goals as goal

pub loop-init : goal.loop-init
loop-init g c = record {
  pass = c.requires.0.0;
  gathering = record { home = c.requires.0.1; parts = c.requires.0.2; placed = refl; told_calls = refl; shown = refl; gathers = c.requires.1.0 };
  more = λ f. omega arith;
  idle = λ f none. refl;
  room = c.requires.1.1;
}

pub take-requires : goal.take-requires
take-requires g c = (c.loop.invariant.pass, c.loop.invariant.gathering.home, (let parts = c.loop.invariant.gathering.parts in omega (arith, parts)))

pub push_reserved-requires : goal.push_reserved-requires
push_reserved-requires g c =
    let many = as_many c.args.service.now (view c.loop.pass).held c.loop.gathered.items c.loop.invariant.gathering.gathers in
    let most = c.in-Some-take.ensures.caller.3 in
    let room = c.loop.invariant.room in
    omega (arith, many, most, room, c.loop.gathered.ok)

pub loop-preserved : goal.loop-preserved
loop-preserved g c =
    let r = c.args.service.now in
    let before = view c.args.pass.now in
    let v = view c.loop.pass in
    let w = view c.take.new.pass in
    let x = c.in-Some-take.caller in
    let taken = c.in-Some-take.ensures.caller in
    let room = c.loop.invariant.room in
    let same = c.push_reserved.ensures.capacity in record {
      pass = c.take.ensures.pass;
      gathering = subst (λ ys. IsGathering r before w ys) (sym c.push_reserved.ensures.items) (still_gathering r before v w c.loop.gathered.items x c.loop.invariant.gathering taken.0 taken.2);
      more = λ f. (let grown = ap (total_weight f) c.push_reserved.ensures.items in omega (arith, grown, c.loop.invariant.more f, total_both f c.loop.gathered.items (Idle x ∷ [])));
      idle = λ f none. (let grown = ap (total_weight f) c.push_reserved.ensures.items in omega (arith, grown, none x, c.loop.invariant.idle f none, total_both f c.loop.gathered.items (Idle x ∷ [])));
      room = omega (arith, room, same);
    }

pub returns-in-None-take-clause-gathered : goal.returns-in-None-take-clause-gathered
returns-in-None-take-clause-gathered g c = as_held c.args.service.now (view c.loop.pass) (view c.take.new.pass) _ _ c.in-None-take.ensures.caller.0 refl c.loop.invariant.gathering.gathers

pub returns-in-None-take-clause-whole : goal.returns-in-None-take-clause-whole
returns-in-None-take-clause-whole g c = drained (view c.loop.pass) (view c.take.new.pass) c.loop.invariant.gathering.parts c.in-None-take.ensures.caller.0 c.in-None-take.ensures.caller.1

pub returns-in-None-take-clause-same : goal.returns-in-None-take-clause-same
returns-in-None-take-clause-same g c =
    let same = c.in-None-take.ensures.caller.0 in
    let kept = c.loop.invariant.gathering in
    (ap (λ (u : LenderPass). u.placed) same ∙ kept.placed, ap (λ (u : LenderPass). u.told_calls) same ∙ kept.told_calls, ap (λ (u : LenderPass). u.shown) same ∙ kept.shown)
