-- The order of a queue is kept over all lives.
use Rattle.std.proofs.Common.{◌≡◌, ◌+◌, ℕ, List, [], ◌∷◌, ◌++◌, take, refl, ap, ◌∙◌}
use Rattle.life_records.specs.Lives.{ops_of}
use Rattle.fifo_object.specs.Queue.{Queue, all_popped, all_pushed, queue_after, queue_after_all}
use Rattle.fifo_object.specs.declared.operations.FifoOp.{FifoOp}
use Rattle.fifo_object.proofs.Order.{keeps}
use Rattle.fifo_commands.specs.FifoLives.{AreFifoLives, AreFifoLivesFrom, items_left, kept_ops, left_from, queue_at, uncut}
use Rattle.fifo_commands.specs.declared.record.FifoLife.{FifoLife}
use Rattle.fifo_commands.specs.declared.record.FifoRecord.{FifoRecord}

after_both : (lines : ℕ) (queue : Queue) (a b : List FifoOp) → queue_after_all lines queue (a ++ b) ≡ queue_after_all lines (queue_after_all lines queue a) b
after_both lines queue [] b = refl
after_both lines queue (op ∷ a) b = after_both lines (queue_after lines queue op) a b

left_is : (lines place : ℕ) (queue : Queue) (lives : List FifoLife) (records : List FifoRecord) → AreFifoLivesFrom lines place queue lives records → queue_after_all lines queue (kept_ops lives records) ≡ left_from lines queue lives records
left_is lines place queue [] [] are = refl
left_is lines place queue [] (report ∷ records) are = absurd are
left_is lines place queue (life ∷ lives) [] are = absurd are
left_is lines place queue (life ∷ lives) (report ∷ records) are =
    after_both lines queue (ops_of (uncut life) (take report.kept report.journal)) (kept_ops lives records)
    ∙ left_is lines (place + report.kept) (queue_at lines queue life report.journal report.kept) lives records are.1

pub lives_keep : (lines : ℕ) (lives : List FifoLife) (records : List FifoRecord) → AreFifoLives lines lives records → all_pushed lines [] (kept_ops lives records) ≡ all_popped lines [] (kept_ops lives records) ++ items_left lines lives records
lives_keep lines lives records are =
    keeps lines [] (kept_ops lives records)
    ∙ ap (λ q. all_popped lines [] (kept_ops lives records) ++ q) (left_is lines 0 [] lives records are)
