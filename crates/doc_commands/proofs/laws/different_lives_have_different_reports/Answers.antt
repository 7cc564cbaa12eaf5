use Rattle.doc_commands.proofs.LifeTexts.{same_reports}
use Rattle.doc_commands.proofs.laws.different_lives_have_different_reports.Goals as goal

pub returns : goal.returns
returns c = same_reports
