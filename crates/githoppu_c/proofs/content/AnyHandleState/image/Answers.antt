use Rattle.std.proofs.Common.{of_z, rules, subst, sym, to_z, w32}
use Rattle.doc_store.specs.contracts.store.DocStoreObject.TheImpl.{ghosts as store_ghosts}
use Rattle.fifo_object.specs.contracts.fifo.FifoObject.TheImpl.{ghosts as queue_ghosts}
use Rattle.program_object.specs.contracts.object.ProgramObjectObject.TheImpl.{ghosts as program_ghosts}
use Rattle.c_images.specs.declared.replies.ReplyKind.TheVariants.{Document, Queue as QueueReplies, Program as ProgramReplies}
use Rattle.githoppu_c.specs.Again.{ComesBack, ContentComesBack}
use Rattle.githoppu_c.specs.declared.content.AnyHandleState.{AnyHandleState}
use Rattle.githoppu_c.proofs.TakenUp.{program_comes_back, queue_comes_back, store_comes_back}
use Rattle.githoppu_c.proofs.content.AnyHandleState.image.Goals as goal

-- the image that was written of a document store is recovered again
pub returns-in-Documents-clause-back : goal.returns-in-Documents-clause-back
returns-in-Documents-clause-back c =
    let after = c.image.new.words in
    let code = to_z w32 (of_z w32 c.image.result) in
    let back : ContentComesBack store_ghosts 1 Document c.args.choice after code c.in-Documents.content = search rules in
    subst (λ (s : AnyHandleState). ComesBack s c.args.choice after code) (sym c.in-Documents.is) (store_comes_back c.args.choice after code c.in-Documents.content back)

-- the image that was written of a queue is recovered again
pub returns-in-Queue-clause-back : goal.returns-in-Queue-clause-back
returns-in-Queue-clause-back c =
    let after = c.image-in-Queue.new.words in
    let code = to_z w32 (of_z w32 c.image-in-Queue.result) in
    let back : ContentComesBack queue_ghosts 2 QueueReplies c.args.choice after code c.in-Queue.content = search rules in
    subst (λ (s : AnyHandleState). ComesBack s c.args.choice after code) (sym c.in-Queue.is) (queue_comes_back c.args.choice after code c.in-Queue.content back)

-- the image that was written of a program's object is recovered again, whichever other program's images are taken over
pub returns-in-Program-clause-back : goal.returns-in-Program-clause-back
returns-in-Program-clause-back c =
    let after = c.image-in-Program.new.words in
    let code = to_z w32 (of_z w32 c.image-in-Program.result) in
    let back : ContentComesBack program_ghosts 3 ProgramReplies c.args.choice after code c.in-Program.content = search rules in
    subst (λ (s : AnyHandleState). ComesBack s c.args.choice after code) (sym c.in-Program.is) (program_comes_back c.args.choice after code
    (λ table seats r answer. c.written_images_are_taken_up.ensures.taken_up table seats r 3 c.args.choice after answer) c.in-Program.content back)
