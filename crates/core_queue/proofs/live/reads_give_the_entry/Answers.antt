use Rattle.core_queue.proofs.LiveLaws.{read_gives}
use Rattle.core_queue.proofs.live.reads_give_the_entry.Goals as goal

pub returns : goal.returns
returns c = λ instance s law caller t k i e may live. read_gives instance s law caller may.local t k i may.of_caller may.guard live.live e live.linked
