use Rattle.std.proofs.Common.{sym, subst, arith}
use Rattle.std.proofs.lemmas.List.{take_all}
use Rattle.std.proofs.lemmas.List.Elements.{All-more, All-same}
use Rattle.life_records.proofs.values.reads_have_values.Goals as goal

pub loop-line-preserved : goal.loop-line-preserved
loop-line-preserved g c =
    let o = c.args.object.now in
    All-more (λ line. (g.O.TypedObject.meaning o).is_reply_value line.reply) c.args.lines.now c.loop-line.line-index c.line-item.result c.loop-line-test.true c.loop-line.invariant (subst (λ line. (g.O.TypedObject.meaning o).is_reply_value line.reply) c.line-item.is (c.reply_is_a_value.ensures))

pub returns : goal.returns
returns g c =
    let o = c.args.object.now in
    All-same (λ line. (g.O.TypedObject.meaning o).is_reply_value line.reply) c.args.lines.now _ (sym (take_all c.loop-line.line-index c.args.lines.now (omega (arith, c.loop-line-test.false)))) c.loop-line.invariant
