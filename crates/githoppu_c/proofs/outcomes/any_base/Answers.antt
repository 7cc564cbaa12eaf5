use Rattle.std.proofs.Common.{◌∙◌, inl, rules}
use Rattle.doc_store.specs.contracts.store.DocStoreObject.TheImpl.{ghosts as store_ghosts}
use Rattle.c_images.specs.declared.replies.ReplyKind.TheVariants.{Document}
use Rattle.githoppu_c.specs.Objects.{IsObjectFault, IsObjectIn}
use Rattle.githoppu_c.proofs.SameLines.{store_base, store_fault}
use Rattle.githoppu_c.proofs.BasesForKinds.{base_for_kind}
use Rattle.githoppu_c.proofs.outcomes.any_base.Goals as goal

-- the head names a document store: the base that is taken for one, or the fault, is that of the words
pub returns-in-Ok : goal.returns-in-Ok
returns-in-Ok c =
    let words = c.args.words.now in
    let said = c.in-Ok.ensures in
    let same = c.of.ensures ∙ said.1.lines in
    record {
      base = base_for_kind words (IsObjectIn store_ghosts Document c.of.result words) (IsObjectFault store_ghosts Document c.of.result words) c.base_in.result said.1.headed
          (λ b taken. inl (said.0, store_base words c.of.result same b taken)) (λ f of. inl (said.0, store_fault words c.of.result same f of)) c.base_in.ensures.base;
      long = search rules;
    }
