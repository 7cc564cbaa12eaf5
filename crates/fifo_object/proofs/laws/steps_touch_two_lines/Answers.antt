use Rattle.fifo_object.proofs.Touching.{step_touches}
use Rattle.fifo_object.proofs.laws.steps_touch_two_lines.Goals as goal

pub returns : goal.returns
returns c = step_touches
