use Rattle.cx_core.specs.Lawful.{Cells}
use Rattle.core_queue.proofs.CellLaws as law
use Rattle.cx_core.proofs.Putting.{stepped}
use Rattle.core_queue.proofs.frames.cells_framed.Goals as goal

pub returns : goal.returns
returns c = λ instance history before after step shape cells.
    stepped _ _ (Cells instance history) before after step
    (λ at v caller l l' there off same. law.cells_framed instance history before.words before.locals at v caller l l' cells shape there off.0 off.1 same)
