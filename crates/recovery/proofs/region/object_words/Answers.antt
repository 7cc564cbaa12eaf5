use Rattle.recovery.proofs.Slots.{part_is}
use Rattle.recovery.proofs.region.object_words.Goals as goal

pub returns-clause-part : goal.returns-clause-part
returns-clause-part c = part_is c.args.words.now
