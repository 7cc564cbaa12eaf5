use Rattle.std.proofs.Common.{◌≤◌, ◌<◌, ⊎_elim, sym, ◌∙◌, true≢false}
use Rattle.std.proofs.lemmas.Bool.{cases_lt}
use Rattle.cx_core.specs.Merge.{history_of}
use Rattle.cx_core.specs.RootEvents.{unanswered}
use Rattle.cx_core.specs.State.{Instance}
use Rattle.core_events.proofs.ReplyLemmas.{answered_late, answered_one}
use Rattle.core_events.proofs.replies.answer_below.Goals as goal

pub returns-then-not-is_below : goal.returns-then-not-is_below
returns-then-not-is_below g c = λ callers reads.
    let base = c.args.base.now in
    let instance : Instance = record { callers = callers; base = base; step = g.O.Object.step c.args.object.now; reads = reads } in
    let late : c.args.place ≤ c.in-Some.own.ticket =
    ⊎_elim (λ (below : c.in-Some.own.ticket < c.args.place). absurd (true≢false (sym (c.is_below.ensures.1 below) ∙ c.if-not-is_below.true))) (λ (at : c.args.place ≤ c.in-Some.own.ticket). at) (cases_lt c.in-Some.own.ticket c.args.place) in
    answered_late instance (history_of base.place c.args.locals.now) c.args.place (unanswered c.args.local.now) c.in-Some.own (sym c.unanswered.ensures ∙ c.in-Some.is) late

pub returns : goal.returns
returns g c = λ callers reads.
    let base = c.args.base.now in
    let instance : Instance = record { callers = callers; base = base; step = g.O.Object.step c.args.object.now; reads = reads } in
    answered_one instance (history_of base.place c.args.locals.now) c.args.place (unanswered c.args.local.now) c.in-Some.own c.in_ok-reply.reply
    (sym c.unanswered.ensures ∙ c.in-Some.is) (c.is_below.ensures.0 c.if-not-is_below.false) (c.in_ok-reply.ensures callers reads)
