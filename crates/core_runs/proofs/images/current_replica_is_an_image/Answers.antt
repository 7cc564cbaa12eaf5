use Rattle.core_runs.proofs.ImageLaws.{image_current}
use Rattle.core_runs.proofs.images.current_replica_is_an_image.Goals as goal

pub returns : goal.returns
returns c = image_current
