use Rattle.std.proofs.Common.{◌≡◌, ◌+◌, ◌-◌, ◌≤◌, Some, ap, arith, length, refl, subst, sym, true}
use Rattle.life_records.specs.Scripts.{named_op}
use Rattle.life_records.specs.declared.record.FullLine.{FullLine}
use Rattle.cx_lives.specs.Ends.{IsKeptOut, IsWorkOf, IsCommandOutcome, full_in}
use Rattle.cx_lives.specs.Serving.{IsServed}
use Rattle.cx_lives.specs.Works.{IsFullLeft}
use Rattle.cx_lives.specs.declared.progress.Work.{Work}
use Rattle.cx_lives.specs.declared.work.Left.{Left}
use Rattle.cx_lives.proofs.Commands.{count_all, count_more, count_none, named_here}
use Rattle.cx_lives.proofs.CommandOutcomes.{full_line, whole_work}
use Rattle.cx_lives.proofs.work.serve_on.Goals as goal
use Rattle.cx_lives.proofs.work.serve_on.Goals.{then-command-client+in_ok-turn+in-Next, else-command-client}

pub make-requires-clause-served : goal.make-requires-clause-served
make-requires-clause-served g c = λ κs lives.
    let same : c.loop-at.number ≡ c.loop-at.number + 1 - 1 = omega arith in
    subst (λ k. IsServed (g.O.TypedObject.meaning c.args.service.now.object) c.args.life.now c.args.service.now k (c.loop-at.number + 1 - 1) c.loop-at.progress) (sym c.if-command-client.true)
    (subst (λ k. IsServed (g.O.TypedObject.meaning c.args.service.now.object) c.args.life.now c.args.service.now c.number-client.result k c.loop-at.progress) same c.loop-at.invariant.served)

pub make-requires-clause-named : goal.make-requires-clause-named
make-requires-clause-named g c = λ κs lives.
    let items = c.commands-commands.result.now in
    let command = c.command_at-command.result.now in
    named_here c.args.life.now items c.commands-commands.ensures c.loop-at.at command c.command_at-command.ensures c.number-client.result c.loop-at.number c.loop-at.invariant.count c.if-command-client.true

pub loop-at-preserved : goal.loop-at-preserved
loop-at-preserved g c =
    let me = c.number-client.result in
    let items = c.commands-commands.result.now in
    let command = c.command_at-command.result.now in
    elim c.if-command-client.branch [
      | then-command-client+in_ok-turn+in-Next w ↦ (record {
        served = rw (w.progress-is, w.number-is) (subst (λ k. IsServed (g.O.TypedObject.meaning c.args.service.now.object) c.args.life.now c.args.service.now k (c.loop-at.number + 1) w.in-Next.back) w.if-command-client.true
            (subst (IsCommandOutcome (g.O.TypedObject.meaning c.args.service.now.object) c.args.life.now c.args.service.now command.client (c.loop-at.number + 1)) w.in-Next.is w.in_ok-turn.ensures));
        count = count_more c.args.life.now items c.commands-commands.ensures c.loop-at.at command c.command_at-command.ensures
            me c.loop-at.number c.loop-at.invariant.count _ w.number-is w.if-command-client.true;
        few = omega (arith, w.number-is, c.loop-at.invariant.few);
      })
      | else-command-client w ↦ (record {
        served = rw (w.progress-is, w.number-is) c.loop-at.invariant.served;
        count = count_none c.args.life.now items c.commands-commands.ensures c.loop-at.at command c.command_at-command.ensures
            me c.loop-at.number c.loop-at.invariant.count _ w.number-is w.if-command-client.false;
        few = omega (arith, w.number-is, c.loop-at.invariant.few);
      })
    ]

pub returns : goal.returns
returns g c =
    let me = c.number-client.result in
    let over : length c.commands-commands.result.now ≤ c.loop-at.at = omega arith in
    let work = whole_work (g.O.TypedObject.meaning c.args.service.now.object) c.args.life.now c.args.service.now me c.loop-at.number c.loop-at.progress c.loop-at.invariant.served
    (count_all c.args.life.now c.commands-commands.result.now c.loop-at.at me c.loop-at.number c.commands-commands.ensures over c.loop-at.invariant.count) in
    let mine = subst (IsWorkOf (g.O.TypedObject.meaning c.args.service.now.object) c.args.life.now c.args.service.now me) (sym c.over.ensures) work in (
      subst (λ k. IsWorkOf (g.O.TypedObject.meaning c.args.service.now.object) c.args.life.now c.args.service.now k c.over.result) c.number-client.ensures mine,
      ap (λ (w : Work g.row.O-Reply.Denot). full_in w.end) c.over.ensures,
    )

pub returns-in-Full : goal.returns-in-Full
returns-in-Full g c =
    let life = c.args.life.now in
    let r = c.args.service.now in
    let me = c.number-client.result in
    let n = c.loop-at.number in
    let items = c.commands-commands.result.now in
    let command = c.command_at-command.result.now in
    let named = named_here life items c.commands-commands.ensures c.loop-at.at command c.command_at-command.ensures me n c.loop-at.invariant.count c.if-command-client.true in
    let mine : named_op life me (n + 1) ≡ Some command.op = subst (λ k. named_op life k (n + 1) ≡ Some command.op) c.if-command-client.true named in
    let same : n + 1 - 1 ≡ n = omega arith in
    let back = c.in-Full.back in
    let note = c.in-Full.note in
    let kept_out : IsKeptOut (g.O.TypedObject.meaning c.args.service.now.object) life r command.client (n + 1 - 1) back note = subst (IsCommandOutcome (g.O.TypedObject.meaning c.args.service.now.object) life r command.client (n + 1)) c.in-Full.is c.in_ok-turn.ensures in
    let kept : IsKeptOut (g.O.TypedObject.meaning c.args.service.now.object) life r me n back note = subst (λ k. IsKeptOut (g.O.TypedObject.meaning c.args.service.now.object) life r me k back note) same (subst (λ k. IsKeptOut (g.O.TypedObject.meaning c.args.service.now.object) life r k (n + 1 - 1) back note) c.if-command-client.true kept_out) in
    let left : Left g.row.O-Reply.Denot = record { progress = back; at = c.loop-at.at; number = n; begun = true } in
    let line : FullLine = record { client = me; command = n + 1; note = note } in
    subst (λ k. IsFullLeft (g.O.TypedObject.meaning c.args.service.now.object) life r k left line) c.number-client.ensures (record {
      left_is = record {
        served = kept.served;
        count = c.loop-at.invariant.count;
        few = c.loop-at.invariant.few;
      };
      full = full_line (g.O.TypedObject.meaning c.args.service.now.object) life r me n (n + 1) back note command.op kept refl mine;
    })
