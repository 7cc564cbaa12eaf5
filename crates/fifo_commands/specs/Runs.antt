-- The records of the lives of a script of a queue, and the execution logs.
use Rattle.std.specs.Prelude.{◌<◌, ◌≤◌, ℕ, List, All, length, map}
use Rattle.cx_lives.specs.Lives.{AreTold}
use Rattle.fifo_commands.specs.FifoLives.{AreFifoLives, uncut}
use Rattle.fifo_commands.specs.Leaving.{with_no_stops}
use Rattle.fifo_commands.specs.declared.record.FifoLife.{FifoLife}
use Rattle.fifo_commands.specs.declared.record.FifoScript.{FifoScript}
use Rattle.fifo_object.specs.Queue.{IsOp}
use Rattle.fifo_object.specs.Fifo.{IsFifo, fifo_reads, fifo_step}
use Rattle.fifo_object.specs.FifoMeaning.{fifo_meaning}
use Rattle.life_records.specs.Limits.{IsLifeInLimits}
use Rattle.life_records.specs.Scripts.{command_count}
use Rattle.fifo_commands.specs.declared.runs.FifoLived.{FifoLived}

-- 64 to 16,384 lines where there is a life, 1,000 lives and 100,000 commands at the most, and lives of 1 to 8 clients, whose commands
-- are theirs, with texts within the limits
pub record KeepsFifoLimits (script : FifoScript) : Type 0 where
  pub lines : 0 < length script.lives → (64 ≤ script.lines) × (script.lines ≤ 16384)
  pub lives : length script.lives ≤ 1000
  pub commands : command_count (map uncut script.lives) ≤ 100000
  pub each : All (λ life. IsLifeInLimits IsOp 8 (uncut life)) script.lives

-- The records are those of legal lives of the queue, and they are witnessed by the execution logs of the services that ran them,
-- in which no client was stopped or ran out of free cells.
pub record HaveFifoLived (lines : ℕ) (lives : List FifoLife) (lived : FifoLived) : Type 0 where
  pub legal : AreFifoLives lines lives lived.records
  pub witness : AreTold (fifo_meaning lines) lines 16 (IsFifo lines) (fifo_step lines) fifo_reads (map uncut lives) (map with_no_stops lived.records) lived.trails
