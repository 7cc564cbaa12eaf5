use Rattle.life_records.proofs.Journals.{report_is_told, still_works}
use Rattle.life_records.proofs.laws.journals_are_told.Goals as goal

pub returns-clause-works : goal.returns-clause-works
returns-clause-works g c = still_works

pub returns-clause-is_told : goal.returns-clause-is_told
returns-clause-is_told g c = report_is_told
