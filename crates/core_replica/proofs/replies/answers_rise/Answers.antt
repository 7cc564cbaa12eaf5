use Rattle.core_replica.proofs.OwnLaws as own
use Rattle.core_replica.proofs.replies.answers_rise.Goals as goal

pub returns : goal.returns
returns c = λ instance history s caller i j l x y tickets at at_i at_j order. own.answers_rise instance history s.locals caller l tickets at i j x y at_i at_j order
