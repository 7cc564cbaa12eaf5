use Rattle.core_runs.proofs.ImageLaws.{image_claimed}
use Rattle.core_runs.proofs.images.claimed_replicas_are_images.Goals as goal

pub returns : goal.returns
returns c = image_claimed
