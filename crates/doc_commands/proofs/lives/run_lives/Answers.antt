use Rattle.std.proofs.Common.{[], subst, sym}
use Rattle.cx_lives.proofs.Appending.{none_lived}
use Rattle.cx_lives.specs.Lives.{HaveLived}
use Rattle.doc_store.specs.DocumentMeaning.{document_meaning}
use Rattle.doc_store.specs.ExactStep.{IsImageOfStore, reads_in, store_step}
use Rattle.doc_commands.proofs.lives.run_lives.Goals as goal

pub returns-then-is_empty : goal.returns-then-is_empty
returns-then-is_empty g c =
    let n = c.args.script.now.lines in
    let none = c.is_empty.ensures.0 c.if-is_empty.true in
    subst (λ ls. HaveLived (document_meaning n) n 2 (IsImageOfStore n) (store_step n) reads_in ls c.new.result) (sym none)
    (subst (λ lived. HaveLived (document_meaning n) n 2 (IsImageOfStore n) (store_step n) reads_in [] lived) (sym c.new.ensures) (none_lived (document_meaning n) n 2 (IsImageOfStore n) (store_step n) reads_in))
