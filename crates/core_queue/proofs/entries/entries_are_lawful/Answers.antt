use Rattle.core_queue.proofs.EntryLaws.{entries_lawful}
use Rattle.core_queue.proofs.entries.entries_are_lawful.Goals as goal

pub returns : goal.returns
returns c = entries_lawful
