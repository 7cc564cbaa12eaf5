use Rattle.life_records.proofs.Recording.{legal_reads, replies}
use Rattle.life_records.proofs.Turns.{in_turn}
use Rattle.life_records.proofs.TypedSteps.{typed_steps}
use Rattle.life_records.proofs.replies.replies_are_the_stores.Goals as goal

pub returns : goal.returns
returns g c =
    let o = c.args.object.now in
    let t = typed_steps _ _ (g.O.Object.opening o) _ (g.O.Object.only_reads o) (g.O.TypedObject.meaning o) c.steps_are_meant.ensures.object c.steps_are_meant.ensures.means in
    let base = c.args.base.now in
    λ callers s store life report law is. record {
      replies = replies t callers base s store life report c.requires law is;
      legal_reads = legal_reads t callers base s store life report c.requires law is;
      in_turn = in_turn t callers base s store life report c.requires law is;
    }
