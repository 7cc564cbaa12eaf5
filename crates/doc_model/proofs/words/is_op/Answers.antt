use Rattle.doc_model.proofs.OpKinds.{op_decided}
use Rattle.doc_model.proofs.words.is_op.Goals as goal

pub returns-in-Some : goal.returns-in-Some
returns-in-Some c =
    let p = c.in-Some.parts in
    let parts_are = c.in-Some.ensures in
    op_decided c.args.words.now p.kind p.key p.document p.number parts_are.some parts_are.small parts_are.texts.0 parts_are.texts.1 c.has_op.result c.has_op.ensures
