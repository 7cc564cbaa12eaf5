use Rattle.c_images.specs.Replies.{IsReplyOfKind}
use Rattle.c_images.specs.Words.{IsTakenUp, IsWordsFault}
use Rattle.githoppu_c.proofs.Bases.{taken}
use Rattle.githoppu_c.proofs.recovered_sessions.base_in.Goals as goal

-- a base was read: it is given where its results keep replies, and else the status for the fault
pub returns-in-Ok-clause-base : goal.returns-in-Ok-clause-base
returns-in-Ok-clause-base g c =
    let o = g.O.Object in
    let object = c.args.object.now in
    let words = c.args.words.now in
    taken (IsReplyOfKind c.args.kind) (IsTakenUp (o.version_number object) (o.lawful object) (o.old_format object) words) (IsWordsFault (o.version_number object) (o.lawful object) (o.old_format object) words)
    c.in-Ok.base c.with_replies.result c.in-Ok.ensures.answered tt c.with_replies.ensures
