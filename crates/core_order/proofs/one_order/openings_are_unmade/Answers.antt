use Rattle.core_order.proofs.OneOrder.{opening_unmade}
use Rattle.core_order.proofs.one_order.openings_are_unmade.Goals as goal

pub returns : goal.returns
returns c = opening_unmade
