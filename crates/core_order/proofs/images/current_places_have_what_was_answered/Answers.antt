use Rattle.core_order.proofs.Imaging.{answered_below}
use Rattle.core_order.proofs.images.current_places_have_what_was_answered.Goals as goal

pub returns : goal.returns
returns c = answered_below
