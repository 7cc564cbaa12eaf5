use Rattle.std.proofs.Common.{◌∙◌, rules}
use Rattle.fifo_object.specs.contracts.fifo.FifoObject.TheImpl.{ghosts as queue_ghosts}
use Rattle.c_images.specs.declared.replies.ReplyKind.TheVariants.{Queue as QueueReplies}
use Rattle.githoppu_c.specs.Contents.{queue_session}
use Rattle.githoppu_c.specs.Objects.{IsObjectFault, IsObjectIn, IsQueueFault, IsQueueIn}
use Rattle.githoppu_c.specs.Recoveries.{AreFew, RefusesWords}
use Rattle.githoppu_c.proofs.Openings.{open_callable, recovered_boxes, refused_sessions}
use Rattle.githoppu_c.proofs.Refused.{handed_on}
use Rattle.githoppu_c.proofs.SameLines.{queue_base, queue_fault}
use Rattle.githoppu_c.proofs.recovered_sessions.recover_queue.Goals as goal

-- no sessions of the queue were recovered: the status is handed on, and is one of `RefusesWords`
pub returns-in_err-sessions : goal.returns-in_err-sessions
returns-in_err-sessions c =
    let words = c.args.words.now in
    let few : AreFew c.args.count = search rules in
    handed_on _ (RefusesWords 2 (IsQueueFault words) words c.args.count) c.from_residual.result _ c.from_residual.ensures.1
    (refused_sessions 2 (IsQueueFault words) (IsObjectFault queue_ghosts QueueReplies c.of.result words) words c.args.count _ few (queue_fault words c.of.result (c.of.ensures ∙ c.in-Ok.ensures.1.lines)) c.in_err-sessions.ensures)

-- the boxes have the sessions of the queue that was recovered; or memory ran out
pub returns : goal.returns
returns c =
    let words = c.args.words.now in
    let few : AreFew c.args.count = search rules in
    recovered_boxes queue_session QueueReplies (open_callable queue_ghosts QueueReplies) c.of.result (queue_ghosts.line_count c.of.result) c.args.count (IsObjectIn queue_ghosts QueueReplies c.of.result words) (λ b said. said.1)
    c.in_ok-sessions.sessions.items c.in_ok-sessions.ensures (λ v. v.items) 2 (IsQueueIn words) (IsQueueFault words) words (queue_base words c.of.result (c.of.ensures ∙ c.in-Ok.ensures.1.lines)) few c.boxed.result c.boxed.ensures
