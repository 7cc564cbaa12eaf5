-- Scripts of a queue among scripts that may have cuts.
use Rattle.std.specs.Prelude.{map}
use Rattle.life_records.specs.Records.{Life, Script}
use Rattle.fifo_commands.specs.FifoLives.{uncut}
use Rattle.fifo_commands.specs.declared.record.FifoLife.{FifoLife}
use Rattle.fifo_commands.specs.declared.record.FifoScript.{FifoScript}
use Rattle.fifo_object.specs.declared.operations.FifoOp.{FifoOp}

-- the script with no cuts
abbrev pub uncut_script : FifoScript → Script FifoOp
uncut_script script = record { lines = script.lines; lives = map uncut script.lives }

-- a life but for its cuts
abbrev pub cutless : Life FifoOp → FifoLife
cutless life = record { clients = life.clients; choice = life.choice; commands = life.commands }
