use Rattle.std.proofs.Common.{map, take}
use Rattle.cx_lives.specs.Lives.{HaveLived}
use Rattle.fifo_commands.specs.FifoLives.{uncut}
use Rattle.fifo_object.specs.Fifo.{IsFifo, fifo_reads, fifo_step}
use Rattle.fifo_object.specs.FifoMeaning.{fifo_meaning}
use Rattle.fifo_commands.proofs.runs.run_all.Given as goal

abbrev pub invariant-loop-life : goal.invariant-loop-life
invariant-loop-life g l = HaveLived (fifo_meaning l.fifo.lines) l.fifo.lines 16 (IsFifo l.fifo.lines) (fifo_step l.fifo.lines) fifo_reads (take l.life-index (map uncut l.lives)) l.lived
