use Rattle.cx_core.specs.State.{Instance}
use Rattle.table_invariant.proofs.Keeping.{kept_held}
use Rattle.table_invariant.proofs.laws.known_sets_may_be_kept.Goals as goal

pub returns : goal.returns
returns g c = λ callers ticket word pairs s seat known rule view tells.
    let o = c.args.object.now in
    let instance : Instance = record { callers = callers; base = c.args.base.now; step = g.O.Object.step o; reads = g.O.Object.only_reads o } in
    kept_held (g.O.Object.line_count o) (g.O.Object.lawful o) instance
    (record { keeps = g.met.O.Object.keeps o; shape = λ image law. (g.met.O.Object.shape o image law).0; replies = g.met.O.Object.replies o })
    c.requires s seat known ticket pairs rule view tells word
