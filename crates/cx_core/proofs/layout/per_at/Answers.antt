use Rattle.std.proofs.Common.{◌*◌, ap, arith}
use Rattle.cx_core.proofs.LayoutLemmas.{per_within, vol_within}
use Rattle.cx_core.proofs.layout.per_at.Goals as goal

pub overflow_add-result : goal.overflow_add-result
overflow_add-result c = omega (arith, ap (λ n. c.args.region * n) c.replica_count.ensures, vol_within c.args.callers c.args.region c.args.replica c.args.i c.requires.replica c.requires.i)

pub returns-clause-value : goal.returns-clause-value
returns-clause-value c = omega (arith, ap (λ n. c.args.region * n) c.replica_count.ensures)

pub returns-clause-within : goal.returns-clause-within
returns-clause-within c = omega (arith, ap (λ n. c.args.region * n) c.replica_count.ensures, per_within c.args.callers c.args.region c.args.replica c.args.i c.requires.replica c.requires.i)
