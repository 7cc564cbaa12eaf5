use Rattle.std.proofs.Common.{refl, sym, ◌∙◌}
use Rattle.doc_model.specs.WordParts.{reply_with}
use Rattle.doc_model.specs.Words.{AreOfNoReply}
use Rattle.doc_model.proofs.ReplyKinds.{IsReplyOf, reply_found, reply_only, reply_none}
use Rattle.doc_model.proofs.WordTexts.{memory_is_not_bad}
use Rattle.doc_model.proofs.words.reply_of.Goals as goal

-- words whose parts are no reply's
none : (c : goal.Then-not-has_reply) → AreOfNoReply c.args.words.now
none c =
    let p = c.in-Some.parts in
    let parts_are = c.in-Some.ensures in
    reply_none c.args.words.now p.kind p.key p.document p.number parts_are.some parts_are.small parts_are.texts.0 parts_are.texts.1 (sym c.has_reply.ensures ∙ c.if-not-has_reply.true)

pub returns-then-not-has_reply-clause-only : goal.returns-then-not-has_reply-clause-only
returns-then-not-has_reply-clause-only c = λ reply is fits has. absurd (none c reply is fits has)

pub returns-then-not-has_reply-clause-bad : goal.returns-then-not-has_reply-clause-bad
returns-then-not-has_reply-clause-bad c = (λ _. none c, λ _. refl)

pub returns-in_err-reply_with-clause-bad : goal.returns-in_err-reply_with-clause-bad
returns-in_err-reply_with-clause-bad c =
    let p = c.in-Some.parts in
    let parts_are = c.in-Some.ensures in
    let reply = reply_with p.kind p.key p.document p.number in
    let read = reply_found c.args.words.now p.kind p.key p.document p.number parts_are.some parts_are.small parts_are.texts.0 parts_are.texts.1 reply (sym c.has_reply.ensures ∙ c.if-not-has_reply.false) refl in
    (λ bad. absurd (memory_is_not_bad c.from_residual.result c.from_residual.ensures.1 bad), λ no. absurd (no reply read.limits read.number read.has))

found : (c : goal.In_ok-reply_with) → IsReplyOf c.args.words.now c.in_ok-reply_with.field-0
found c =
    let p = c.in-Some.parts in
    let parts_are = c.in-Some.ensures in
    reply_found c.args.words.now p.kind p.key p.document p.number parts_are.some parts_are.small parts_are.texts.0 parts_are.texts.1 c.in_ok-reply_with.field-0
    (sym c.has_reply.ensures ∙ c.if-not-has_reply.false) c.in_ok-reply_with.ensures

pub returns-clause-found : goal.returns-clause-found
returns-clause-found c = (let read = found c in (read.limits, read.has))

pub returns-clause-only : goal.returns-clause-only
returns-clause-only c =
    let p = c.in-Some.parts in
    let parts_are = c.in-Some.ensures in
    λ reply is fits has. c.in_ok-reply_with.ensures ∙ reply_only c.args.words.now p.kind p.key p.document p.number parts_are.some parts_are.small parts_are.texts.0 parts_are.texts.1 reply is fits has

pub returns-clause-bad : goal.returns-clause-bad
returns-clause-bad c = (let read = found c in (λ is. cc, λ no. absurd (no c.in_ok-reply_with.field-0 read.limits read.number read.has)))
