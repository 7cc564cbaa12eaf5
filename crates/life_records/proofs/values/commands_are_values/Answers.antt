use Rattle.std.proofs.Common.{sym, subst, arith}
use Rattle.std.proofs.lemmas.List.{take_all}
use Rattle.std.proofs.lemmas.List.Elements.{All-more, All-same}
use Rattle.life_records.proofs.values.commands_are_values.Goals as goal

pub loop-command-preserved : goal.loop-command-preserved
loop-command-preserved g c =
    let o = c.args.object.now in
    All-more (λ command. (g.O.TypedObject.meaning o).is_op_value command.op) c.args.commands.now c.loop-command.command-index c.command-item.result c.loop-command-test.true c.loop-command.invariant (subst (λ command. (g.O.TypedObject.meaning o).is_op_value command.op) c.command-item.is (c.op_is_a_value.ensures))

pub returns : goal.returns
returns g c =
    let o = c.args.object.now in
    All-same (λ command. (g.O.TypedObject.meaning o).is_op_value command.op) c.args.commands.now _ (sym (take_all c.loop-command.command-index c.args.commands.now (omega (arith, c.loop-command-test.false)))) c.loop-command.invariant
