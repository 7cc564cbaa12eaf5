use Rattle.cx_core.specs.Crash.{recovered}
use Rattle.cx_core.specs.State.{Instance}
use Rattle.core_replica.proofs.BaseLaws.{kept_lawful}
use Rattle.core_runs.proofs.WholeLaws.{crash_kept, entries_of}
use Rattle.core_runs.proofs.crash.recovered_bases_are_lawful.Goals as goal

pub returns : goal.returns
returns g c = λ callers s image law crash.
    let o = c.args.object.now in
    let instance : Instance = record { callers = callers; base = c.args.base.now; step = g.O.Object.step o; reads = g.O.Object.only_reads o } in
    kept_lawful (g.O.Object.line_count o) (g.O.Object.lawful o) instance law.history s (recovered instance image)
    (record { keeps = g.met.O.Object.keeps o; shape = λ image law. (g.met.O.Object.shape o image law).0; replies = g.met.O.Object.replies o })
    c.requires (entries_of instance s law c.requires.numbers) law.tickets.below (crash_kept instance s law image crash)
