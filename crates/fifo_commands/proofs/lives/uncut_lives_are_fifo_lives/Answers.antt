use Rattle.fifo_commands.proofs.Plainly.{fifo_life}
use Rattle.fifo_commands.proofs.lives.uncut_lives_are_fifo_lives.Goals as goal

pub returns : goal.returns
returns c = fifo_life
