use Rattle.core_replica.proofs.CrashLaws.{medium_image}
use Rattle.core_runs.proofs.WholeLaws.{crash_kept}
use Rattle.core_runs.proofs.crash.mediums_recover.Goals as goal

pub returns : goal.returns
returns c = λ instance s medium chain root choice law is is_chain among.
    crash_kept instance s law _ (medium_image instance law.history s medium chain root choice law.regions is is_chain among)
