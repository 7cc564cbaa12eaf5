-- The order of a queue is kept.
use Rattle.std.proofs.Common.{◌≡◌, ℕ, Bool, true, false, cond, List, [], ◌∷◌, ◌++◌, refl, sym, ap, ◌∙◌, append_assoc, append-nil}
use Rattle.fifo_object.specs.declared.operations.FifoOp.{FifoOp}
use Rattle.fifo_object.specs.declared.operations.FifoOp.TheVariants.{Push, Pop, Peek, Len}
use Rattle.fifo_object.specs.declared.operations.FifoReply.TheVariants.{Pushed, Full}
use Rattle.fifo_object.specs.Queue.{Queue, all_popped, all_pushed, is_full, popped_by, pushed_by, queue_after, queue_after_all, reply_to}

push_keeps : (b : Bool) (queue : Queue) (text : List ℕ) → queue ++ pushed_by (Push text) (cond b Full Pushed) ≡ popped_by (Push text) (cond b Full Pushed) ++ cond b queue (queue ++ text ∷ [])
push_keeps true queue text = append-nil queue
push_keeps false queue text = refl

one_keeps : (lines : ℕ) (queue : Queue) (op : FifoOp) → queue ++ pushed_by op (reply_to lines queue op) ≡ popped_by op (reply_to lines queue op) ++ queue_after lines queue op
one_keeps lines queue (Push text) = push_keeps (is_full lines queue) queue text
one_keeps lines [] Pop = refl
one_keeps lines (x ∷ queue) Pop = append-nil (x ∷ queue)
one_keeps lines [] Peek = refl
one_keeps lines (x ∷ queue) Peek = append-nil (x ∷ queue)
one_keeps lines queue Len = append-nil queue

pub keeps : (lines : ℕ) (queue : Queue) (ops : List FifoOp) → queue ++ all_pushed lines queue ops ≡ all_popped lines queue ops ++ queue_after_all lines queue ops
keeps lines queue [] = append-nil queue
keeps lines queue (op ∷ ops) =
    let in_ = pushed_by op (reply_to lines queue op) in
    let out = popped_by op (reply_to lines queue op) in
    let next = queue_after lines queue op in
    sym (append_assoc queue in_ (all_pushed lines next ops))
    ∙ ap (λ q. q ++ all_pushed lines next ops) (one_keeps lines queue op)
    ∙ append_assoc out next (all_pushed lines next ops)
    ∙ ap (λ q. out ++ q) (keeps lines next ops)
    ∙ sym (append_assoc out (all_popped lines next ops) (queue_after_all lines next ops))
