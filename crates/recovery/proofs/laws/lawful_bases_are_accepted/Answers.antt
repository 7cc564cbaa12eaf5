use Rattle.recovery.proofs.Accepting.{base_named}
use Rattle.recovery.proofs.laws.lawful_bases_are_accepted.Goals as goal

pub returns : goal.returns
returns g c = λ object image answer size lawful is_answer.
    base_named (g.O.Object.line_count object) (g.O.Object.lawful object) (g.O.Object.version_number object) (g.met.O.Object.shape object) (g.O.Object.old_format object) (g.met.O.Object.takes_over object)
    image size lawful answer is_answer
