use Rattle.fifo_commands.proofs.Order.{lives_keep}
use Rattle.fifo_commands.proofs.lives.lives_keep_their_order.Goals as goal

pub returns : goal.returns
returns c = lives_keep
