use Rattle.cx_core.specs.State.{Instance}
use Rattle.core_replica.proofs.BaseLaws.{kept_lawful}
use Rattle.core_replica.proofs.crash.kept_bases_are_lawful.Goals as goal

pub returns : goal.returns
returns g c = λ callers history s kept entries small is.
    let o = c.args.object.now in
    let instance : Instance = record { callers = callers; base = c.args.base.now; step = g.O.Object.step o; reads = g.O.Object.only_reads o } in
    kept_lawful (g.O.Object.line_count o) (g.O.Object.lawful o) instance history s kept
    (record { keeps = g.met.O.Object.keeps o; shape = λ image law. (g.met.O.Object.shape o image law).0; replies = g.met.O.Object.replies o })
    c.requires entries small is
