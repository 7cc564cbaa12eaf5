use Rattle.std.proofs.Common.{◌≡◌, refl, sym, subst, ◌∙◌}
use Rattle.fifo_object.specs.Queue.{IsReply}
use Rattle.fifo_object.specs.Words.{reply_in, reply_words}
use Rattle.fifo_object.proofs.ReadBack.{memory_is_not_bad, no_reply, reply_is_there}
use Rattle.fifo_object.proofs.words.fifo_reply_of.Goals as goal

pub returns-then-not-is_reply-clause-bad : goal.returns-then-not-is_reply-clause-bad
returns-then-not-is_reply-clause-bad c = (λ _. no_reply c.args.words.now (sym c.is_reply.ensures ∙ c.if-not-is_reply.true), λ _. refl)

pub returns-in_err-reply_in-clause-bad : goal.returns-in_err-reply_in-clause-bad
returns-in_err-reply_in-clause-bad c =
    let read = reply_is_there c.args.words.now (sym c.is_reply.ensures ∙ c.if-not-is_reply.false) in
    (λ bad. absurd (memory_is_not_bad c.from_residual.result c.from_residual.ensures.1 bad), λ no. absurd (no (reply_in c.args.words.now) read.0 read.1))

-- what is read has these words
found : (c : goal.In_ok-reply_in) → IsReply c.in_ok-reply_in.field-0 × (reply_words c.in_ok-reply_in.field-0 ≡ c.args.words.now)
found c =
    subst (λ read. IsReply read × (reply_words read ≡ c.args.words.now)) (sym c.in_ok-reply_in.ensures) (reply_is_there c.args.words.now (sym c.is_reply.ensures ∙ c.if-not-is_reply.false))

pub returns-clause-found : goal.returns-clause-found
returns-clause-found c = found c

pub returns-clause-bad : goal.returns-clause-bad
returns-clause-bad c = (let read = found c in (λ is. cc, λ no. absurd (no c.in_ok-reply_in.field-0 read.0 read.1)))
