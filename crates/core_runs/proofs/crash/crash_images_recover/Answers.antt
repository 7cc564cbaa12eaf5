use Rattle.core_runs.proofs.WholeLaws.{crash_kept}
use Rattle.core_runs.proofs.crash.crash_images_recover.Goals as goal

pub returns : goal.returns
returns c = λ instance s image law crash. crash_kept instance s law image crash
