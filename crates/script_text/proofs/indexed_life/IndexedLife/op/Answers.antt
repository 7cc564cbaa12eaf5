use Rattle.std.proofs.Common.{arith, ap, ◌∙◌, ◌<◌, length, slice_get}
use Rattle.std.specs.Option.{option_map}
use Rattle.std.specs.Borrow.{Bor}
use Rattle.life_records.specs.declared.script.Life.{Life}
use Rattle.life_records.specs.Scripts.{named_op}
use Rattle.script_text.proofs.OwnOps.{got, op_of_at}
use Rattle.script_text.proofs.indexed_life.IndexedLife.op.Goals as goal

pub returns : goal.returns
returns g c =
    let within : c.args.client < length c.self.inside.by_client.items =
    omega (arith, ap (λ (life : Life g.row.Op.Denot). life.clients) c.self.view_is, c.self.invariant.clients) in
    let found = op_of_at c.self.inside.life.now c.args.client c.in_ok-before.before c.args.command c.self.inside.by_client.items c.index.result.now
    c.self.invariant.ops within c.index.ensures c.in_ok-before.ensures.0 c.in_ok-before.ensures.1 in
    let answer = got c.deref.result.now c.in_ok-before.before c.get.result c.get.ensures.lookup.1 c.get.ensures.lookup.3 in
    ap (option_map (λ (op : Bor g.row.Op.Denot). op.now)) (c.copied.ensures ∙ answer ∙ ap (λ ops. slice_get ops c.in_ok-before.before) c.deref.ensures.value)
    ∙ found ∙ ap (λ (life : Life g.row.Op.Denot). named_op life c.args.client c.args.command) c.self.view_is
