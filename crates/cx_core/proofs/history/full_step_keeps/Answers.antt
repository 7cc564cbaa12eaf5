use Rattle.cx_core.specs.Region.{object_part}
use Rattle.cx_core.proofs.KeepLemmas.{keeps}
use Rattle.cx_core.proofs.history.full_step_keeps.Goals as goal

pub returns : goal.returns
returns g c =
    let o = c.args.object.now in
    let law = c.requires.lawful in
    let image = object_part c.args.base.now.words in
    let op = c.args.entry.now.op in
    let image_lawful = g.met.O.Object.keeps o image op law.object c.requires.entry.op in
    let shape = g.met.O.Object.shape o (g.O.Object.step o image op).0 image_lawful in
    let reply_words = g.met.O.Object.replies o image op law.object c.requires.entry.op in
    keeps (g.O.Object.line_count o) (g.O.Object.lawful o) (g.O.Object.step o) c.args.base.now c.args.entry.now c.args.next.now law c.requires.place c.requires.entry.caller c.requires.entry.some c.requires.entry.most image_lawful shape.0 reply_words c.requires.next_place c.requires.next_words
