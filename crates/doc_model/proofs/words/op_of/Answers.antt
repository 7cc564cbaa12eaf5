use Rattle.std.proofs.Common.{refl, sym, ◌∙◌}
use Rattle.doc_model.specs.WordParts.{op_with}
use Rattle.doc_model.specs.Words.{IsOpOf, AreOfNoOp}
use Rattle.doc_model.proofs.OpKinds.{op_found, op_only, op_none}
use Rattle.doc_model.proofs.WordTexts.{memory_is_not_bad}
use Rattle.doc_model.proofs.words.op_of.Goals as goal

-- words whose parts are no operation's
none : (c : goal.Then-not-has_op) → AreOfNoOp c.args.words.now
none c =
    let p = c.in-Some.parts in
    let parts_are = c.in-Some.ensures in
    op_none c.args.words.now p.kind p.key p.document p.number parts_are.some parts_are.small parts_are.texts.0 parts_are.texts.1 (sym c.has_op.ensures ∙ c.if-not-has_op.true)

pub returns-then-not-has_op-clause-only : goal.returns-then-not-has_op-clause-only
returns-then-not-has_op-clause-only c = λ op is amount has. absurd (none c op is amount has)

pub returns-then-not-has_op-clause-bad : goal.returns-then-not-has_op-clause-bad
returns-then-not-has_op-clause-bad c = (λ _. none c, λ _. refl)

pub returns-in_err-op_with-clause-bad : goal.returns-in_err-op_with-clause-bad
returns-in_err-op_with-clause-bad c =
    let p = c.in-Some.parts in
    let parts_are = c.in-Some.ensures in
    let op = op_with p.kind p.key p.document p.number in
    let read = op_found c.args.words.now p.kind p.key p.document p.number parts_are.some parts_are.small parts_are.texts.0 parts_are.texts.1 op (sym c.has_op.ensures ∙ c.if-not-has_op.false) refl in
    (λ bad. absurd (memory_is_not_bad c.from_residual.result c.from_residual.ensures.1 bad), λ no. absurd (no op read.limits read.amount read.has))

found : (c : goal.In_ok-op_with) → IsOpOf c.args.words.now c.in_ok-op_with.field-0
found c =
    let p = c.in-Some.parts in
    let parts_are = c.in-Some.ensures in
    op_found c.args.words.now p.kind p.key p.document p.number parts_are.some parts_are.small parts_are.texts.0 parts_are.texts.1 c.in_ok-op_with.field-0
    (sym c.has_op.ensures ∙ c.if-not-has_op.false) c.in_ok-op_with.ensures

pub returns-clause-found : goal.returns-clause-found
returns-clause-found c = (let read = found c in (read.limits, read.has))

pub returns-clause-only : goal.returns-clause-only
returns-clause-only c =
    let p = c.in-Some.parts in
    let parts_are = c.in-Some.ensures in
    λ op is amount has. c.in_ok-op_with.ensures ∙ op_only c.args.words.now p.kind p.key p.document p.number parts_are.some parts_are.small parts_are.texts.0 parts_are.texts.1 op is amount has

pub returns-clause-bad : goal.returns-clause-bad
returns-clause-bad c = (let read = found c in (λ is. cc, λ no. absurd (no c.in_ok-op_with.field-0 read.limits read.amount read.has)))
