use Rattle.std.proofs.Common.{refl}
use Rattle.cx_core.specs.declared.kinds.Kind.TheVariants.{BackOff}
use Rattle.cx_core.specs.Events.{step_word}
use Rattle.table_invariant.proofs.Listing.{learns_listed}
use Rattle.table_invariant.proofs.laws.listed_copies_are_learned.Goals as goal

pub returns : goal.returns
returns c = λ instance r known lines from to lists small on long agree. learns_listed instance r known (step_word instance (BackOff r) known.local) lines from to lists small on refl long agree
