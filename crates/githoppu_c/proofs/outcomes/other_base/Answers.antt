use Rattle.std.proofs.Common.{◌∙◌, inl, inr, rules}
use Rattle.fifo_object.specs.contracts.fifo.FifoObject.TheImpl.{ghosts as queue_ghosts}
use Rattle.c_images.specs.declared.replies.ReplyKind.TheVariants.{Queue as QueueReplies}
use Rattle.githoppu_c.specs.Objects.{IsObjectFault, IsObjectIn}
use Rattle.githoppu_c.proofs.SameLines.{queue_base, queue_fault}
use Rattle.githoppu_c.proofs.BasesForKinds.{base_for_kind}
use Rattle.githoppu_c.proofs.outcomes.other_base.Goals as goal

-- the head names a queue: the base that is taken for one, or the fault, is that of the words
pub returns-in-Ok : goal.returns-in-Ok
returns-in-Ok c =
    let words = c.args.words.now in
    let said = c.in-Ok.ensures in
    let same = c.of.ensures ∙ said.1.lines in
    record {
      base = base_for_kind words (IsObjectIn queue_ghosts QueueReplies c.of.result words) (IsObjectFault queue_ghosts QueueReplies c.of.result words) c.base_in.result said.1.headed
          (λ b taken. inr (inl (said.0, queue_base words c.of.result same b taken))) (λ f of. inr (inl (said.0, queue_fault words c.of.result same f of))) c.base_in.ensures.base;
      long = search rules;
    }
