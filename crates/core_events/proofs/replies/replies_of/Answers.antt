use Rattle.std.proofs.Common.{◌≡◌, ◌+◌, length, ap, sym, ◌∙◌, arith, true≢false}
use Rattle.std.specs.Option.{option_to_list}
use Rattle.cx_base.specs.Codes.{root_place_of}
use Rattle.cx_core.specs.Merge.{history_of}
use Rattle.cx_core.specs.RootEvents.{answers_below, reads_at, unanswered}
use Rattle.cx_core.specs.State.{Instance}
use Rattle.core_events.proofs.replies.replies_of.Goals as goal

pub returns-then-not-can_raise : goal.returns-then-not-can_raise
returns-then-not-can_raise g c = λ words can.
    true≢false (sym ((c.can_raise.ensures c.args.base.now (g.O.Object.step c.args.object.now)).1 can) ∙ c.if-not-can_raise.true)

pub returns : goal.returns
returns g c = λ words.
    let base = c.args.base.now in
    let step = g.O.Object.step c.args.object.now in
    let reads = g.O.Object.only_reads c.args.object.now in
    let instance : Instance = record { callers = c.args.callers.number; base = base; step = step; reads = reads } in
    let history = history_of base.place c.args.locals.now in
    let l = c.args.local.now in
    let place = root_place_of c.args.callers.number c.args.code in
    let entry : option_to_list c.in_ok-entry.entry ≡ answers_below instance history place (unanswered l) =
    c.in_ok-entry.ensures c.args.callers.number reads ∙ ap (λ n. answers_below instance history n (unanswered l)) c.root_place-place.ensures in
    let below = answers_below instance history place (unanswered l) in
    let before : length c.as_slice.result.now + c.count.result ≡ length l.answered + length below = omega (arith, ap length c.as_slice.ensures, ap length entry, c.count.ensures) in (
      (c.can_raise.ensures base step).0 c.if-not-can_raise.false,
      entry,
      c.in_ok-read.ensures c.args.callers.number reads ∙ ap (λ n. reads_at instance history n (length c.as_slice.result.now + c.count.result) c.args.read.now) c.root_place-place.ensures
          ∙ ap (λ n. reads_at instance history place n c.args.read.now) before,
    )
