use Rattle.std.proofs.Common.{◌≡◌, ◌+◌, ◌-◌, ◌≤◌, Some, [], arith, length, refl, slice_get, subst, sym}
use Rattle.cx_lives.proofs.Commands.{count_all, count_more, count_none, named_here}
use Rattle.cx_lives.proofs.Lists.{all_at}
use Rattle.life_records.specs.Limits.{IsCommandOf}
use Rattle.life_records.specs.Scripts.{own_ops}
use Rattle.pool_lives.proofs.Making.{makes_none}
use Rattle.pool_lives.specs.Working.{IsAtWork, MakesCommand}
use Rattle.pool_lives.proofs.work.serve.Goals as goal
use Rattle.pool_lives.proofs.work.serve.Goals.{then-command-me+in_ok-goes_on+else-not-goes_on, else-command-me}

pub loop-at-init : goal.loop-at-init
loop-at-init g c =
    let new = c.requires.client in
    record {
      work = record {
        who = record { may = new.may; by = sym c.number-me.ensures; closing = new.closing; calls = []; has = new.none };
        made = makes_none (g.O.TypedObject.meaning c.args.object.now) c.args.life.now c.number-me.result c.new-lines.result.entries.items c.new-lines.result.reads.items c.requires.pool.is_life.uncut c.new-lines.ensures.entries c.new-lines.ensures.reads;
      };
      count = refl;
      few = omega arith;
    }

pub make-requires-clause-at_work : goal.make-requires-clause-at_work
make-requires-clause-at_work g c κs within =
    let m = g.O.TypedObject.meaning c.args.object.now in
    let life = c.args.life.now in
    let r = c.args.pool.now.service in
    let table = c.args.pool.now.line.table.shared.table_id in
    let n = c.loop-at.number in
    let same : n ≡ n + 1 - 1 = omega arith in (
      omega arith,
      subst (λ k. IsAtWork m life r table k c.command_at-command.result.now.client (n + 1 - 1) c.loop-at.client c.loop-at.lines) (sym c.clients-clients.ensures)
          (subst (λ k. IsAtWork m life r table life.clients k (n + 1 - 1) c.loop-at.client c.loop-at.lines) (sym c.if-command-me.true)
          (subst (λ k. IsAtWork m life r table life.clients c.number-me.result k c.loop-at.client c.loop-at.lines) same c.loop-at.invariant.work)),
    )

pub make-requires-clause-named : goal.make-requires-clause-named
make-requires-clause-named g c κs within =
    let items = c.commands-commands.result.now in
    let command = c.command_at-command.result.now in
    named_here c.args.life.now items c.commands-commands.ensures c.loop-at.at command c.command_at-command.ensures c.number-me.result c.loop-at.number c.loop-at.invariant.count c.if-command-me.true

pub make-requires-clause-op : goal.make-requires-clause-op
make-requires-clause-op g c κs within =
    let life = c.args.life.now in
    let command = c.command_at-command.result.now in
    (all_at (IsCommandOf (g.O.TypedObject.meaning c.args.object.now).is_op life) life.commands c.loop-at.at command c.requires.pool.is_life.limits.commands (subst (λ items. slice_get items c.loop-at.at ≡ Some command) c.commands-commands.ensures c.command_at-command.ensures)).op

pub loop-at-preserved : goal.loop-at-preserved
loop-at-preserved g c =
    let m = g.O.TypedObject.meaning c.args.object.now in
    let life = c.args.life.now in
    let r = c.args.pool.now.service in
    let table = c.args.pool.now.line.table.shared.table_id in
    let me = c.number-me.result in
    let n = c.loop-at.number in
    let items = c.commands-commands.result.now in
    let command = c.command_at-command.result.now in
    elim c.if-command-me.branch [
      | then-command-me+in_ok-goes_on+else-not-goes_on w ↦ (record {
        work = rw (w.client-is, w.lines-is, w.number-is) (subst (λ k. IsAtWork m life r table k me (n + 1) w.make.new.client w.make.new.lines) c.clients-clients.ensures
            (subst (λ k. IsAtWork m life r table c.clients-clients.result k (n + 1) w.make.new.client w.make.new.lines) w.if-command-me.true
            (subst (MakesCommand m life r table c.clients-clients.result command.client (n + 1) w.make.new.client w.make.new.lines) w.if-not-goes_on.false w.in_ok-goes_on.ensures)));
        count = count_more life items c.commands-commands.ensures c.loop-at.at command c.command_at-command.ensures me n c.loop-at.invariant.count _ w.number-is w.if-command-me.true;
        few = omega (arith, w.number-is, c.loop-at.invariant.few);
      })
      | else-command-me w ↦ (record {
        work = rw (w.client-is, w.lines-is, w.number-is) c.loop-at.invariant.work;
        count = count_none life items c.commands-commands.ensures c.loop-at.at command c.command_at-command.ensures me n c.loop-at.invariant.count _ w.number-is w.if-command-me.false;
        few = omega (arith, w.number-is, c.loop-at.invariant.few);
      })
    ]

pub returns : goal.returns
returns g c =
    let m = g.O.TypedObject.meaning c.args.object.now in
    let life = c.args.life.now in
    let r = c.args.pool.now.service in
    let table = c.args.pool.now.line.table.shared.table_id in
    let me = c.number-me.result in
    let over : length c.commands-commands.result.now ≤ c.loop-at.at = omega arith in
    let all = count_all life c.commands-commands.result.now c.loop-at.at me c.loop-at.number c.commands-commands.ensures over c.loop-at.invariant.count in
    subst (λ k. IsAtWork m life r table life.clients k (length (own_ops k life.commands)) c.loop-at.client c.loop-at.lines) c.number-me.ensures
    (subst (λ n. IsAtWork m life r table life.clients me n c.loop-at.client c.loop-at.lines) all c.loop-at.invariant.work)
