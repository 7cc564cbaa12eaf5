use Rattle.core_reach.proofs.Reading.{reaches_read}
use Rattle.core_reach.proofs.reads.reads_can_be_answered.Goals as goal

-- the law's clause: some run answers a read of a caller
pub returns : goal.returns
returns c = reaches_read
