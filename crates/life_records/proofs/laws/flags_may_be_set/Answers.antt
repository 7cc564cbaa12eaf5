use Rattle.life_records.proofs.Flags.{still_ended, still_is_told}
use Rattle.life_records.proofs.laws.flags_may_be_set.Goals as goal

pub returns-clause-is_told : goal.returns-clause-is_told
returns-clause-is_told g c = λ encoding life report flagged same. still_is_told life report flagged same encoding

pub returns-clause-ended : goal.returns-clause-ended
returns-clause-ended g c = still_ended
