use Rattle.caller_cache.proofs.Covering.{covered_cleared}
use Rattle.caller_cache.proofs.marks.Marks.clear.Goals as goal

pub invariant_of-self : goal.invariant_of-self
invariant_of-self c = (c.self.invariant.0, covered_cleared c.self.inside.marks.items c.self.inside.lines.items c.self.inside.listed.items c.self.inside.first c.args.i c.self.invariant.1)
