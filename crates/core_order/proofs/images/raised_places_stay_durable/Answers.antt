use Rattle.core_order.proofs.Imaging.{raised_durable}
use Rattle.core_order.proofs.images.raised_places_stay_durable.Goals as goal

pub returns : goal.returns
returns c = raised_durable
