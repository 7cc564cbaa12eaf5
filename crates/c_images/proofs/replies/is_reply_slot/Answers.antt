use Rattle.std.proofs.Common.{sym, ◌∙◌}
use Rattle.c_images.proofs.Slots.{applied_slot}
use Rattle.c_images.specs.Replies.{IsReplyOfKind}
use Rattle.c_images.proofs.replies.is_reply_slot.Goals as goal

-- whether the reply of an applied entry may be kept is whether the slot may
pub returns-in-Applied : goal.returns-in-Applied
returns-in-Applied c =
    applied_slot (IsReplyOfKind c.args.kind) c.args.caller c.in-Applied.number c.args.base.now.words c.in-Applied.reply c.is_kept_reply.result (sym c.outcome.ensures ∙ c.in-Applied.is) c.is_kept_reply.ensures
