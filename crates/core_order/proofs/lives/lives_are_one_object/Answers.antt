use Rattle.std.proofs.Common.{refl, arith, []}
use Rattle.cx_core.proofs.HistoryLemmas.{ObjectLaws}
use Rattle.core_order.proofs.Composing.{all_stand, ends_as}
use Rattle.core_order.proofs.lives.lives_are_one_object.Goals as goal

pub returns-clause-stand : goal.returns-clause-stand
returns-clause-stand g c = λ lives are.
    let o = c.args.object.now in
    let laws : ObjectLaws (g.O.Object.line_count o) (g.O.Object.lawful o) (g.O.Object.step o) = record { keeps = g.met.O.Object.keeps o; shape = λ image law. (g.met.O.Object.shape o image law).0; replies = g.met.O.Object.replies o } in
    all_stand (g.O.Object.line_count o) (g.O.Object.lawful o) (g.O.Object.step o) (g.O.Object.only_reads o) laws c.args.base.now lives c.args.base.now [] c.requires (omega arith) (omega arith) refl are

pub returns-clause-ends : goal.returns-clause-ends
returns-clause-ends g c = λ lives are.
    let o = c.args.object.now in
    let laws : ObjectLaws (g.O.Object.line_count o) (g.O.Object.lawful o) (g.O.Object.step o) = record { keeps = g.met.O.Object.keeps o; shape = λ image law. (g.met.O.Object.shape o image law).0; replies = g.met.O.Object.replies o } in
    ends_as (g.O.Object.line_count o) (g.O.Object.lawful o) (g.O.Object.step o) (g.O.Object.only_reads o) laws lives c.args.base.now c.requires are
