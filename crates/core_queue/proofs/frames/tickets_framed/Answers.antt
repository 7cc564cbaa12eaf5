use Rattle.cx_core.specs.Lawful.{Tickets}
use Rattle.cx_core.proofs.Putting.{stepped}
use Rattle.core_queue.proofs.TicketLaws as law
use Rattle.core_queue.proofs.frames.tickets_framed.Goals as goal

pub returns : goal.returns
returns c = λ instance history before after step tickets.
    stepped _ _ (λ _ locals. Tickets instance history locals) before after step
    (λ at v caller l l' there off same. law.tickets_framed instance history before.locals caller l l' tickets there same.own same.answered)
