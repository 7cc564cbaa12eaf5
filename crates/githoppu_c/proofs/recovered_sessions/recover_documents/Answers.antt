use Rattle.std.proofs.Common.{◌∙◌, rules}
use Rattle.doc_store.specs.contracts.store.DocStoreObject.TheImpl.{ghosts as store_ghosts}
use Rattle.c_images.specs.declared.replies.ReplyKind.TheVariants.{Document}
use Rattle.githoppu_c.specs.Contents.{store_session}
use Rattle.githoppu_c.specs.Objects.{IsObjectFault, IsObjectIn, IsStoreFault, IsStoreIn}
use Rattle.githoppu_c.specs.Recoveries.{AreFew, RefusesWords}
use Rattle.githoppu_c.proofs.Openings.{open_callable, recovered_boxes, refused_sessions}
use Rattle.githoppu_c.proofs.Refused.{handed_on}
use Rattle.githoppu_c.proofs.SameLines.{store_base, store_fault}
use Rattle.githoppu_c.proofs.recovered_sessions.recover_documents.Goals as goal

-- no sessions of the document store were recovered: the status is handed on, and is one of `RefusesWords`
pub returns-in_err-sessions : goal.returns-in_err-sessions
returns-in_err-sessions c =
    let words = c.args.words.now in
    let few : AreFew c.args.count = search rules in
    handed_on _ (RefusesWords 1 (IsStoreFault words) words c.args.count) c.from_residual.result _ c.from_residual.ensures.1
    (refused_sessions 1 (IsStoreFault words) (IsObjectFault store_ghosts Document c.of.result words) words c.args.count _ few (store_fault words c.of.result (c.of.ensures ∙ c.in-Ok.ensures.1.lines)) c.in_err-sessions.ensures)

-- the boxes have the sessions of the document store that was recovered; or memory ran out
pub returns : goal.returns
returns c =
    let words = c.args.words.now in
    let few : AreFew c.args.count = search rules in
    recovered_boxes store_session Document (open_callable store_ghosts Document) c.of.result (store_ghosts.line_count c.of.result) c.args.count (IsObjectIn store_ghosts Document c.of.result words) (λ b said. said.1)
    c.in_ok-sessions.sessions.items c.in_ok-sessions.ensures (λ v. v.items) 1 (IsStoreIn words) (IsStoreFault words) words (store_base words c.of.result (c.of.ensures ∙ c.in-Ok.ensures.1.lines)) few c.boxed.result c.boxed.ensures
