use Rattle.cx_service.proofs.Seeing.{image_behind, image_seen}
use Rattle.cx_service.proofs.seen.checkpoints_stand_behind_what_was_seen.Goals as goal

pub returns-clause-behind : goal.returns-clause-behind
returns-clause-behind g c = λ r words place at before after was taken. image_behind g.O.Object r words at before after taken place was

pub returns-clause-seen : goal.returns-clause-seen
returns-clause-seen g c = λ r words at before after taken. image_seen g.O.Object r words at before after taken
