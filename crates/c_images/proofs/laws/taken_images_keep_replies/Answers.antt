use Rattle.c_images.proofs.Keeping.{taken_keep}
use Rattle.c_images.specs.Replies.{IsReplyOfKind}
use Rattle.c_images.proofs.laws.taken_images_keep_replies.Goals as goal

pub returns : goal.returns
returns g c = λ replies table seats r opened leaves.
    taken_keep (IsReplyOfKind replies) g.O.Object.line_count g.O.Object.lawful g.O.Object.step table r.trail.history seats (c.base_of_checkpoint.ensures table seats r opened leaves)
