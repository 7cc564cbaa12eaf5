use Rattle.std.proofs.Common.{arith}
use Rattle.std.proofs.lemmas.Bool.{false≢true}
use Rattle.index_validation.proofs.Orders.{shape_low}
use Rattle.index_validation.proofs.shape.is_balanced.Goals as goal

pub returns-then-high_at-gt64 : goal.returns-then-high_at-gt64
returns-then-high_at-gt64 c =
    (λ e. absurd (false≢true e), λ h. absurd (let low = shape_low c.args.words.now c.args.root c.args.count h c.requires in let high = c.high_at.ensures in omega (arith, c.if-high_at-gt64.true)))
