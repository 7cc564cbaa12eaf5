use Rattle.fifo_object.specs.WordLaws.{replies_same}
use Rattle.fifo_object.proofs.ReadBack.{ops_same}
use Rattle.fifo_object.proofs.queue_laws.fifo_words_are_one_to_one.Goals as goal

pub returns : goal.returns
returns c = record { ops = ops_same; replies = replies_same }
