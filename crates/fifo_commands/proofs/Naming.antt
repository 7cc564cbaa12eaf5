-- The lines of legal lives name commands of them.
use Rattle.std.proofs.Common.{ℕ, List, [], ◌∷◌, ◌+◌, map}
use Rattle.life_records.specs.Lives.{NameCommands}
use Rattle.fifo_object.specs.Queue.{Queue}
use Rattle.fifo_commands.specs.FifoLives.{AreFifoLivesFrom, queue_at, uncut}
use Rattle.fifo_commands.specs.Leaving.{with_no_stops}
use Rattle.fifo_commands.specs.declared.record.FifoLife.{FifoLife}
use Rattle.fifo_commands.specs.declared.record.FifoRecord.{FifoRecord}

pub legal_named : (lines place : ℕ) (queue : Queue) (lives : List FifoLife) (records : List FifoRecord)
    → AreFifoLivesFrom lines place queue lives records → NameCommands (map uncut lives) (map with_no_stops records)
legal_named lines place queue [] [] are = tt
legal_named lines place queue (life ∷ lives) (report ∷ records) are = (
  record { journal = are.0.interleaved.named; reads = λ k d below. (are.0.legal_reads k d below).named },
  legal_named lines (place + report.kept) (queue_at lines queue life report.journal report.kept) lives records are.1,
)
legal_named lines place queue [] (report ∷ records) are = absurd are
legal_named lines place queue (life ∷ lives) [] are = absurd are
