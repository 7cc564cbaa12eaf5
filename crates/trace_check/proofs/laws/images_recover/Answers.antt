use Rattle.trace_check.proofs.Leaving.{accepted, at_place, kept_at}
use Rattle.trace_check.proofs.laws.images_recover.Goals as goal

pub returns-clause-accepted : goal.returns-clause-accepted
returns-clause-accepted g c = λ callers choice place s image law is leaves. (
  accepted (g.O.Object.line_count c.args.object.now) _ c.requires.size.long s law choice image is (g.O.Object.version_number c.args.object.now) (g.O.Object.lawful c.args.object.now)
      (record { keeps = g.met.O.Object.keeps c.args.object.now; shape = λ image law. (g.met.O.Object.shape c.args.object.now image law).0; replies = g.met.O.Object.replies c.args.object.now })
      (λ words law. (g.met.O.Object.shape c.args.object.now words law).1)
      c.requires,
  at_place (g.O.Object.line_count c.args.object.now) _ c.requires.size.long s law choice image is place leaves,
)

pub returns-clause-kept : goal.returns-clause-kept
returns-clause-kept g c = λ callers choice s image law is.
    kept_at (g.O.Object.line_count c.args.object.now) _ c.requires.size.long s law choice image is (g.O.Object.version_number c.args.object.now) (g.O.Object.lawful c.args.object.now)
    (record { keeps = g.met.O.Object.keeps c.args.object.now; shape = λ image law. (g.met.O.Object.shape c.args.object.now image law).0; replies = g.met.O.Object.replies c.args.object.now })
    (λ words law. (g.met.O.Object.shape c.args.object.now words law).1)
    c.requires
