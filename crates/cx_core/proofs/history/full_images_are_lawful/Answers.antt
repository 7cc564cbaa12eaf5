use Rattle.std.proofs.Common.{false}
use Rattle.cx_core.specs.State.{Instance}
use Rattle.cx_core.proofs.HistoryLemmas.{full_lawful}
use Rattle.cx_core.proofs.history.full_images_are_lawful.Goals as goal

pub returns : goal.returns
returns g c = λ history place entries small from to.
    let o = c.args.object.now in
    let instance : Instance = record { callers = 1; base = c.args.base.now; step = g.O.Object.step o; reads = λ op. false } in
    full_lawful (g.O.Object.line_count o) (g.O.Object.lawful o) instance
    (record { keeps = g.met.O.Object.keeps o; shape = λ image law. (g.met.O.Object.shape o image law).0; replies = g.met.O.Object.replies o })
    history c.requires entries small place from to
