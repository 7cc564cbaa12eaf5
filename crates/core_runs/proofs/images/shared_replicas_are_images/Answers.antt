use Rattle.core_runs.proofs.ImageLaws.{image_shared}
use Rattle.core_runs.proofs.images.shared_replicas_are_images.Goals as goal

pub returns : goal.returns
returns c = image_shared
