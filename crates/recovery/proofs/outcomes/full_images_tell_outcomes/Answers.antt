use Rattle.cx_core.specs.State.{Instance}
use Rattle.recovery.proofs.LastEntries.{full_tells}
use Rattle.recovery.proofs.outcomes.full_images_tell_outcomes.Goals as goal

pub returns : goal.returns
returns g c = λ history place caller entries small from to few.
    let o = c.args.object.now in
    let instance : Instance = record { callers = 1; base = c.args.base.now; step = g.O.Object.step o; reads = g.O.Object.only_reads o } in
    full_tells (g.O.Object.line_count o) (g.O.Object.lawful o) instance
    (record { keeps = g.met.O.Object.keeps o; shape = λ words fits. (g.met.O.Object.shape o words fits).0; replies = g.met.O.Object.replies o })
    c.requires history small entries place caller from to few
