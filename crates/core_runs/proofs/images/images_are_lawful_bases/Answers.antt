use Rattle.cx_core.specs.State.{Instance}
use Rattle.cx_core.proofs.HistoryLemmas.{full_lawful}
use Rattle.core_runs.proofs.WholeLaws.{entries_of}
use Rattle.core_runs.proofs.images.images_are_lawful_bases.Goals as goal

pub returns : goal.returns
returns g c = λ callers s place law from to.
    let o = c.args.object.now in
    let instance : Instance = record { callers = callers; base = c.args.base.now; step = g.O.Object.step o; reads = g.O.Object.only_reads o } in
    full_lawful (g.O.Object.line_count o) (g.O.Object.lawful o) instance
    (record { keeps = g.met.O.Object.keeps o; shape = λ image law. (g.met.O.Object.shape o image law).0; replies = g.met.O.Object.replies o })
    law.history c.requires (entries_of instance s law c.requires.numbers) law.tickets.below place from to
