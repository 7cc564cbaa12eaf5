use Rattle.std.proofs.Common.{ap}
use Rattle.fifo_object.specs.Words.{item_in}
use Rattle.fifo_object.proofs.ReadBack.{none_has_no_kind}
use Rattle.fifo_object.specs.Fifo.{fifo_step, step_by}
use Rattle.fifo_object.proofs.laws.words_of_no_operation_change_nothing.Goals as goal

pub returns : goal.returns
unfolding fifo_step
returns c = λ lines image words none. ap (λ kind. step_by kind lines (item_in words) image) (none_has_no_kind words none)
