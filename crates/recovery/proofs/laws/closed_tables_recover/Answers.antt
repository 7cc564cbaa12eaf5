use Rattle.recovery.proofs.KeptLaws.{recovers}
use Rattle.recovery.proofs.laws.closed_tables_recover.Goals as goal

pub returns : goal.returns
returns g c = λ table seats r choice image answer opened leaves left is_answer.
    recovers g.O.Object.line_count g.O.Object.lawful g.O.Object.step g.O.Object.only_reads g.O.Object.version_number g.O.Object.old_format
    (λ o. record { keeps = g.met.O.Object.keeps o; shape = λ image law. (g.met.O.Object.shape o image law).0; replies = g.met.O.Object.replies o })
    g.met.O.Object.shape g.met.O.Object.takes_over
    table seats r choice image opened leaves left answer is_answer
