use Rattle.replica.proofs.Stepping.{stepped}
use Rattle.table_tests.proofs.region_tests.step_one.Goals as goal

-- after the full step of an entry, one full step fewer can be done on the memory
pub returns : goal.returns
returns g c =
    let object = c.args.object.now in
    stepped (g.M.Memory.stands c.args.mem.now) (g.M.Memory.stands c.full_step.new.mem) (g.O.Object.line_count object) (g.O.Object.lawful object) (g.O.Object.step object)
    (record {
      keeps = g.met.O.Object.keeps object;
      shape = λ image law. (g.met.O.Object.shape object image law).0;
      replies = g.met.O.Object.replies object;
    })
    c.args.entry.now c.requires.caller c.requires.op c.args.left c.requires.some
    (g.met.M.Memory.words c.args.mem.now) c.requires.mem c.full_step.ensures.framed.size_kept c.full_step.ensures.framed.writable_kept c.full_step.result c.full_step.ensures.done
