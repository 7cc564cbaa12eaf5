-- The records of a script of a queue, and the text on them.
use Rattle.std.specs.Prelude.{◌≡◌, ℕ, List, map}
use Rattle.table_invariant.specs.Ending.{Ending}
use Rattle.cx_lives.specs.Lives.{AreTold}
use Rattle.fifo_object.specs.Fifo.{IsFifo, fifo_reads, fifo_step}
use Rattle.fifo_object.specs.FifoMeaning.{fifo_meaning}
use Rattle.fifo_commands.specs.FifoLives.{AreFifoLives, uncut}
use Rattle.fifo_commands.specs.Leaving.{with_no_stops}
use Rattle.fifo_commands.specs.declared.record.FifoRecord.{FifoRecord}
use Rattle.fifo_commands.specs.declared.record.FifoScript.{FifoScript}
use Rattle.fifo_commands.specs.Report.{queue_report_of}

-- The text is the report of records of legal lives of the queue. Each is witnessed by the execution log of the service that ran it, in
-- which no client was stopped or ran out of free cells.
pub record IsFifoReport (script : FifoScript) (trails : List Ending) (text : List ℕ) : Type 0 where
  pub records : List FifoRecord
  pub lives : AreFifoLives script.lines script.lives records
  pub witness : AreTold (fifo_meaning script.lines) script.lines 16 (IsFifo script.lines) (fifo_step script.lines) fifo_reads (map uncut script.lives) (map with_no_stops records) trails
  pub report : text ≡ queue_report_of script records
