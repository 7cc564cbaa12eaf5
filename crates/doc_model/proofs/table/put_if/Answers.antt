use Rattle.std.proofs.Common.{ap, ◌∙◌}
use Rattle.doc_model.specs.Meaning.{standing_revision}
use Rattle.doc_model.proofs.Puts.{is_stale, is_current}
use Rattle.doc_model.proofs.table.put_if.Goals as goal

pub returns-then-standing-revision : goal.returns-then-standing-revision
returns-then-standing-revision c =
    let is = rw c.deref.ensures.value at (c.revision_of-standing.ensures c.table.inside.last) in
    is_stale c.args.lines c.args.table.now c.args.key.now c.args.doc.now c.args.revision c.revision_of-standing.result (is ∙ ap (standing_revision c.args.key.now) c.table.view_is) c.if-standing-revision.true

pub returns : goal.returns
returns c =
    let is = rw c.deref.ensures.value at (c.revision_of-standing.ensures c.table.inside.last) in
    is_current c.args.lines c.args.table.now c.args.key.now c.args.doc.now c.args.revision c.revision_of-standing.result _ _ (is ∙ ap (standing_revision c.args.key.now) c.table.view_is) c.if-standing-revision.false c.set.ensures
