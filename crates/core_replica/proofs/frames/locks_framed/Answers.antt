use Rattle.cx_core.specs.LawfulLocks.{Locks}
use Rattle.cx_core.proofs.Putting.{stepped}
use Rattle.core_replica.proofs.LockLaws as law
use Rattle.core_replica.proofs.frames.locks_framed.Goals as goal

pub returns : goal.returns
returns c = λ instance before after step locks.
    stepped _ _ (Locks instance.callers) before after step
    (λ at v caller l l' there off same. law.locks_framed instance before.words before.locals at v caller l l' locks there off same)
