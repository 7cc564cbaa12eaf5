-- The queue as an object of operations and replies: what they mean over a list of texts, and which image stands for which.
use Rattle.std.specs.Prelude.{◌-◌, ℕ, List, [], length}
use Rattle.fifo_object.specs.Queue.{IsOp, IsReply, IsReplyValue, Queue, only_reads, queue_after, reply_to}
use Rattle.fifo_object.specs.Words.{op_words, reply_words, text_in}
use Rattle.fifo_object.specs.declared.operations.FifoOp.{FifoOp}
use Rattle.fifo_object.specs.declared.operations.FifoReply.{FifoReply}
use Rattle.fifo_object.specs.Fifo.{count_in, queue_head, item_at}
use Rattle.fifo_object.specs.Ring.{IsQueueInRing}
use Rattle.typed_object.specs.Meaning.{Encoding, Meaning}

-- an image of the given number of lines stands for the queue: its texts are those of the items, from the head on
abbrev pub StandsForQueue : ℕ → List ℕ → Queue → Type 0
StandsForQueue lines image queue = IsQueueInRing (lines - 1) (queue_head image) (count_in image) (λ p. text_in (item_at image p)) queue

-- the words of operations and of replies
abbrev pub fifo_encoding : Encoding FifoOp FifoReply
fifo_encoding = record { op_words = op_words; reply_words = reply_words }

-- what the operations mean in the given number of lines
abbrev pub fifo_meaning : ℕ → Meaning FifoOp FifoReply Queue
fifo_meaning lines = record {
  encoding = fifo_encoding;
  is_reading = only_reads;
  reply_to = reply_to lines;
  store_after = queue_after lines;
  opening = [];
  items = λ queue. length queue;
  stands = StandsForQueue lines;
  is_op = IsOp;
  is_op_value = λ op. Unit {0};
  is_reply = IsReply;
  is_reply_value = IsReplyValue;
}
