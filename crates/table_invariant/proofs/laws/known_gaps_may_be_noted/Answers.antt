use Rattle.std.proofs.Common.{refl}
use Rattle.cx_core.specs.State.{Instance}
use Rattle.table_invariant.proofs.GapNoting.{learns_gap}
use Rattle.table_invariant.proofs.laws.known_gaps_may_be_noted.Goals as goal

pub returns : goal.returns
returns g c = λ callers s i v known pairs slot_is small fits tells.
    let o = c.args.object.now in
    let instance : Instance = record { callers = callers; base = c.args.base.now; step = g.O.Object.step o; reads = g.O.Object.only_reads o } in
    learns_gap (g.O.Object.line_count o) (g.O.Object.lawful o) instance
    (record { keeps = g.met.O.Object.keeps o; shape = λ image law. (g.met.O.Object.shape o image law).0; replies = g.met.O.Object.replies o })
    c.requires s i v known _ pairs slot_is small fits refl tells
