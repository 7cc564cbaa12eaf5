use Rattle.cx_core.specs.State.{Instance}
use Rattle.recovery.proofs.KeptLaws.{accepts}
use Rattle.recovery.proofs.laws.crash_images_are_accepted.Goals as goal

pub returns : goal.returns
returns g c = λ object callers base s image answer lawful law left is_answer.
    let instance : Instance = record { callers = callers; base = base; step = g.O.Object.step object; reads = g.O.Object.only_reads object } in
    accepts (g.O.Object.line_count object) (g.O.Object.lawful object) (g.O.Object.version_number object) instance
    (record { keeps = g.met.O.Object.keeps object; shape = λ words fits. (g.met.O.Object.shape object words fits).0; replies = g.met.O.Object.replies object })
    (g.met.O.Object.shape object) (g.O.Object.old_format object) (g.met.O.Object.takes_over object)
    lawful s law image left answer is_answer
