use Rattle.std.proofs.Common.{◌≡◌, rules}
use Rattle.fifo_object.specs.contracts.fifo.FifoObject.TheImpl.{ghosts as queue_ghosts}
use Rattle.cx_core.specs.Base.{fresh_region}
use Rattle.cx_core.specs.declared.entry.Base.{Base}
use Rattle.c_images.specs.Replies.{IsQueueReply}
use Rattle.c_images.specs.declared.replies.ReplyKind.TheVariants.{Queue as QueueReplies}
use Rattle.githoppu_c.specs.Contents.{MayOpen, queue_session}
use Rattle.githoppu_c.proofs.Openings.{open_callable, opened_boxes}
use Rattle.githoppu_c.proofs.Replies.{fresh_keeps}
use Rattle.githoppu_c.proofs.open.open_queue.Goals as goal

-- the boxes have the sessions of the queue that was opened, whose results keep replies since it has none; or memory ran out
pub returns : goal.returns
returns c =
    let lines = queue_ghosts.line_count c.of.result in
    let first = λ (b : Base). b.words ≡ fresh_region (queue_ghosts.opening c.of.result) in
    let may : MayOpen c.args.lines c.args.count = search rules in
    opened_boxes queue_session QueueReplies (open_callable queue_ghosts QueueReplies) c.of.result lines c.args.count first
    (λ b fresh. fresh_keeps IsQueueReply (queue_ghosts.opening c.of.result) b.words fresh) c.in_ok-sessions.sessions.items c.in_ok-sessions.ensures (λ v. v.items) c.args.lines c.of.ensures may c.boxed.result c.boxed.ensures
