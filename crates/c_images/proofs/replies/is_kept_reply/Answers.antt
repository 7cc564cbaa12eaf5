use Rattle.std.proofs.Common.{◌↔◌, IfOk, IsTrue, subst, sym}
use Rattle.c_images.specs.Replies.{IsKeptReply, IsReplyOfKind}
use Rattle.c_images.specs.declared.replies.ReplyKind.{ReplyKind}
use Rattle.c_images.proofs.replies.is_kept_reply.Goals as goal

pub returns-in-Document : goal.returns-in-Document
returns-in-Document c = subst (λ (k : ReplyKind). IfOk c.is_document_reply.result (λ is. IsTrue is ↔ IsKeptReply (IsReplyOfKind k) c.args.words.now)) (sym c.in-Document.is) c.is_document_reply.ensures

pub returns-in-Queue : goal.returns-in-Queue
returns-in-Queue c = subst (λ (k : ReplyKind). IfOk c.is_queue_reply.result (λ is. IsTrue is ↔ IsKeptReply (IsReplyOfKind k) c.args.words.now)) (sym c.in-Queue.is) c.is_queue_reply.ensures
