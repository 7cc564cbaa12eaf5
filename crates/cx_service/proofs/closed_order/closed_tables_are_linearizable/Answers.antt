use Rattle.std.proofs.Common.{◌∙◌, sym, subst, arith}
use Rattle.cx_core.specs.Base.{LawfulBase}
use Rattle.cx_core.proofs.MergeLemmas.{history_is}
use Rattle.table_invariant.specs.Rule.{opening_limited}
use Rattle.table_invariant.specs.Running.{instance_at}
use Rattle.core_runs.proofs.Ordering.{linearizable}
use Rattle.table_invariant.proofs.Opening.{limited_lawful}
use Rattle.cx_service.proofs.CallOrder.{keeps_calls, keeps_images, none_linked, none_made}
use Rattle.cx_service.proofs.closed_order.closed_tables_are_linearizable.Goals as goal

pub returns : goal.returns
returns g c = λ table seats r running leaves. (
    let instance = instance_at table g.O.Object.step g.O.Object.only_reads in
    let law = leaves.state in
    let below = law.tickets.below in
    let opening = limited_lawful instance leaves.reached.limits law.shape.some law.shape.few (omega (arith, below)) running.base.at_place in
    let is = linearizable instance leaves.reached.events _ _ opening leaves.reached.ran in
    let same = sym (history_is instance.base.place is.history leaves.whole is.merged) ∙ history_is instance.base.place law.history leaves.whole law.tickets.merged in
    record {
      linearizable = is;
      history = same ∙ leaves.history;
      calls = keeps_calls instance (opening_limited instance leaves.reached.limits) _ leaves.reached.events opening (none_made instance leaves.reached.limits) leaves.reached.ran seats leaves.times;
      images = keeps_images instance (opening_limited instance leaves.reached.limits) _ leaves.reached.events opening (none_made instance leaves.reached.limits) leaves.reached.ran seats leaves.times;
      one_order = c.runs_have_one_order.ensures table.object table.callers table.base (subst (λ n. LawfulBase n (g.O.Object.lawful table.object) table.base) running.lines running.base) leaves.reached.events _ _ opening (none_linked instance leaves.reached.limits) leaves.reached.ran;
    })
