use Rattle.std.proofs.Common.{◌≡◌, rules}
use Rattle.doc_store.specs.contracts.store.DocStoreObject.TheImpl.{ghosts as store_ghosts}
use Rattle.cx_core.specs.Base.{fresh_region}
use Rattle.cx_core.specs.declared.entry.Base.{Base}
use Rattle.c_images.specs.Replies.{IsDocumentReply}
use Rattle.c_images.specs.declared.replies.ReplyKind.TheVariants.{Document}
use Rattle.githoppu_c.specs.Contents.{MayOpen, store_session}
use Rattle.githoppu_c.proofs.Openings.{open_callable, opened_boxes}
use Rattle.githoppu_c.proofs.Replies.{fresh_keeps}
use Rattle.githoppu_c.proofs.open.open_documents.Goals as goal

-- the boxes have the sessions of the store that was opened, whose results keep replies since it has none; or memory ran out
pub returns : goal.returns
returns c =
    let lines = store_ghosts.line_count c.of.result in
    let first = λ (b : Base). b.words ≡ fresh_region (store_ghosts.opening c.of.result) in
    let may : MayOpen c.args.lines c.args.count = search rules in
    opened_boxes store_session Document (open_callable store_ghosts Document) c.of.result lines c.args.count first
    (λ b fresh. fresh_keeps IsDocumentReply (store_ghosts.opening c.of.result) b.words fresh) c.in_ok-sessions.sessions.items c.in_ok-sessions.ensures (λ v. v.items) c.args.lines c.of.ensures may c.boxed.result c.boxed.ensures
