use Rattle.core_order.proofs.OneOrder.{OrderLaws, one_order}
use Rattle.core_order.proofs.one_order.runs_have_one_order.Goals as goal

pub returns : goal.returns
returns g c = λ object callers base based. (
    let laws : OrderLaws (g.O.Object.lawful object) (g.O.Object.step object) (g.O.Object.only_reads object) = record { keeps = g.met.O.Object.keeps object; leaves = g.met.O.Object.leaves object } in
    one_order (record { callers = callers; base = base; step = g.O.Object.step object; reads = g.O.Object.only_reads object }) (g.O.Object.line_count object) (g.O.Object.lawful object) laws based)
