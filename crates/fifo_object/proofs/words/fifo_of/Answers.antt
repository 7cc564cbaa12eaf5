use Rattle.std.proofs.Common.{◌≡◌, refl, sym, subst, ◌∙◌}
use Rattle.fifo_object.specs.Queue.{IsOp}
use Rattle.fifo_object.specs.Words.{op_in, op_words}
use Rattle.fifo_object.proofs.ReadBack.{memory_is_not_bad, no_op, fifo_op_is_there}
use Rattle.fifo_object.proofs.words.fifo_of.Goals as goal

pub returns-then-not-is_op-clause-bad : goal.returns-then-not-is_op-clause-bad
returns-then-not-is_op-clause-bad c = (λ _. no_op c.args.words.now (sym c.is_op.ensures ∙ c.if-not-is_op.true), λ _. refl)

pub returns-in_err-op_in-clause-bad : goal.returns-in_err-op_in-clause-bad
returns-in_err-op_in-clause-bad c =
    let read = fifo_op_is_there c.args.words.now (sym c.is_op.ensures ∙ c.if-not-is_op.false) in
    (λ bad. absurd (memory_is_not_bad c.from_residual.result c.from_residual.ensures.1 bad), λ no. absurd (no (op_in c.args.words.now) read.0 read.1))

-- what is read has these words
found : (c : goal.In_ok-op_in) → IsOp c.in_ok-op_in.field-0 × (op_words c.in_ok-op_in.field-0 ≡ c.args.words.now)
found c =
    subst (λ read. IsOp read × (op_words read ≡ c.args.words.now)) (sym c.in_ok-op_in.ensures) (fifo_op_is_there c.args.words.now (sym c.is_op.ensures ∙ c.if-not-is_op.false))

pub returns-clause-found : goal.returns-clause-found
returns-clause-found c = found c

pub returns-clause-bad : goal.returns-clause-bad
returns-clause-bad c = (let read = found c in (λ is. cc, λ no. absurd (no c.in_ok-op_in.field-0 read.0 read.1)))
