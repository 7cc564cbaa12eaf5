use Rattle.std.proofs.Common.{arith}
use Rattle.cx_core.proofs.LayoutLemmas.{vol_within}
use Rattle.cx_core.proofs.layout.vol_at.Goals as goal

pub returns-clause-within : goal.returns-clause-within
returns-clause-within c = omega (arith, vol_within c.args.callers c.args.region c.args.replica c.args.i c.requires.replica c.requires.i)
