use Rattle.std.proofs.Common.{refl}
use Rattle.cx_core.specs.State.{Instance}
use Rattle.table_invariant.proofs.Offering.{learns_offer}
use Rattle.table_invariant.proofs.laws.known_sets_may_be_offered.Goals as goal

pub returns : goal.returns
returns g c = λ callers j known can tells.
    let o = c.args.object.now in
    let instance : Instance = record { callers = callers; base = c.args.base.now; step = g.O.Object.step o; reads = g.O.Object.only_reads o } in
    learns_offer (g.O.Object.line_count o) (g.O.Object.lawful o) instance
    (record { keeps = g.met.O.Object.keeps o; shape = λ image law. (g.met.O.Object.shape o image law).0; replies = g.met.O.Object.replies o })
    c.requires j known _ can refl tells
