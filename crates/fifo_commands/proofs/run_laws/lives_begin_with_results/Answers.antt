use Rattle.fifo_commands.proofs.Results.{have_results}
use Rattle.fifo_commands.proofs.run_laws.lives_begin_with_results.Goals as goal

pub returns : goal.returns
returns c = have_results
