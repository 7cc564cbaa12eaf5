use Rattle.std.proofs.Common.{◌<◌, ℕ}
use Rattle.c_images.specs.Replies.{IsReplyOfKind, IsSlot}
use Rattle.c_images.proofs.replies.holds_replies.Given as goal

-- the results of the callers so far that have a number keep replies of the kind, or 144 zeros
abbrev pub invariant-loop-caller : goal.invariant-loop-caller
invariant-loop-caller l = (k : ℕ) → k < l.caller → IsSlot (IsReplyOfKind l.kind) k l.base.words
