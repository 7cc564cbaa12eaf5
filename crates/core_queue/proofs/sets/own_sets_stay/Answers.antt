use Rattle.std.proofs.Common.{sym, subst}
use Rattle.cx_core.specs.State.{EachLocal}
use Rattle.core_queue.specs.NotedSets.{OwnSetsHold}
use Rattle.core_queue.proofs.OwnSets.{own_event}
use Rattle.core_queue.proofs.sets.own_sets_stay.Goals as goal

pub returns : goal.returns
returns c = λ instance history later before after event law own made on. subst (λ h. EachLocal after.locals (λ _ l. OwnSetsHold instance h l.cells)) (sym on.is) (own_event instance history on.more before after event law made own)
