use Rattle.std.proofs.Common.{refl}
use Rattle.table_invariant.proofs.Copying.{learns_taking}
use Rattle.cx_core.specs.Events.{step_word}
use Rattle.cx_core.specs.declared.kinds.Kind.TheVariants.{BackOff}
use Rattle.table_invariant.proofs.laws.loaded_images_are_learned.Goals as goal

pub returns : goal.returns
returns c = λ instance r image known small on tells. learns_taking instance r image known (step_word instance (BackOff r) known.local) small on refl tells
