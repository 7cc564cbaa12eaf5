use Rattle.std.proofs.Common.{◌≤◌, ◌∙◌, ◌++◌, Option, ap, arith, length, refl, subst, sym}
use Rattle.std.proofs.lemmas.List.{append-nil}
use Rattle.crossbeam_queue.specs.Passes.{view}
use Rattle.cx_service.specs.declared.close.Handed.{Handed}
use Rattle.seat_pool.specs.Gathering.{kept_list}
use Rattle.seat_pool.specs.Pooling.{both}
use Rattle.seat_pool.specs.declared.hand.LenderPass.{LenderPass}
use Rattle.seat_pool.proofs.Gatherings.{as_held, gathers_kept, gathers_no_more, kept_fits}
use Rattle.seat_pool.proofs.gather.take_in.Goals as goal

pub push_reserved-requires : goal.push_reserved-requires
push_reserved-requires g c =
    let r = c.args.service.now in
    let v = view c.args.pass.now in
    let w = view c.args.lent.pass in
    let most : length (both v w).held ≤ r.callers = subst (λ (u : LenderPass). length u.held ≤ r.callers) c.merge.ensures.1 c.learn.ensures.room in
    let fits = kept_fits r v w c.args.gathered.items c.args.lent.kept c.in-Some.handed c.in-Some.is c.requires.gathered.0 c.requires.lent.kept most in
    let room = c.requires.gathered.1 in
    omega (arith, fits, room, c.args.gathered.ok)

pub returns-in-Some-clause-gathered : goal.returns-in-Some-clause-gathered
returns-in-Some-clause-gathered g c =
    let v = view c.args.pass.now in
    let w = view c.args.lent.pass in (
      as_held c.args.service.now (both v w) (view c.learn.new.pass) _ _ (c.learn.ensures.same.1 ∙ c.merge.ensures.1) c.push_reserved.ensures.items
          (gathers_kept c.args.service.now v w c.args.gathered.items c.args.lent.kept c.in-Some.handed c.in-Some.is c.requires.gathered.0 c.requires.lent.kept),
      c.push_reserved.ensures.capacity,
      c.push_reserved.ensures.items ∙ ap (λ (o : Option Handed). c.args.gathered.items ++ kept_list o) (sym c.in-Some.is),
    )

pub returns-in_default-clause-gathered : goal.returns-in_default-clause-gathered
returns-in_default-clause-gathered g c =
    let v = view c.args.pass.now in
    let w = view c.args.lent.pass in (
      as_held c.args.service.now (both v w) (view c.learn.new.pass) _ _ (c.learn.ensures.same.1 ∙ c.merge.ensures.1) refl
          (gathers_no_more c.args.service.now v w c.args.gathered.items c.args.lent.kept c.in_default.is c.requires.gathered.0 c.requires.lent.kept),
      refl,
      sym (append-nil c.args.gathered.items) ∙ ap (λ (o : Option Handed). c.args.gathered.items ++ kept_list o) (sym c.in_default.is),
    )
