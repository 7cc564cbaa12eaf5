use Rattle.std.proofs.Common.{Ok}
use Rattle.c_images.proofs.Keeping.{keep_replies}
use Rattle.c_images.specs.Replies.{IsReplyOfKind}
use Rattle.c_images.proofs.laws.written_images_keep_replies.Goals as goal

pub returns : goal.returns
returns g c = λ replies table seats r kind choice words base opened leaves written taken.
    let o = table.object in
    let kept = c.written_images_are_taken_up.ensures.taken_up table seats r kind choice words (Ok base) opened leaves written taken in
    keep_replies (IsReplyOfKind replies) (g.O.Object.lawful o) (g.O.Object.step o) table.base.words base.words (c.kept_bases_have_results.ensures table seats r choice base opened leaves kept)
