use Rattle.life_records.proofs.meanings.steps_are_meant.Goals as goal

pub returns : goal.returns
returns g c =
    let o = c.args.object.now in
    record {
      object = record { keeps = g.met.O.Object.keeps o; shape = λ image i. (g.met.O.Object.shape o image i).0; replies = g.met.O.Object.replies o };
      means = g.met.O.TypedObject.has_meaning o;
    }
