use Rattle.std.proofs.Common.{◌<◌, refl, subst, sym}
use Rattle.seat_pool.specs.Pooling.{IsHomeOf}
use Rattle.seat_pool.specs.declared.hand.LenderPass.{LenderPass}
use Rattle.client_pool.proofs.lend.take_waiting.Goals as goal

pub loop-init : goal.loop-init
loop-init g c = (c.requires.0, refl)

pub take-requires : goal.take-requires
take-requires g c =
    let known = subst (λ (v : LenderPass). IsHomeOf c.args.service.now v.home × (0 < v.parts)) (sym c.loop.invariant.1) (c.requires.1, c.requires.2) in
    (c.loop.invariant.0, known.0, known.1)
