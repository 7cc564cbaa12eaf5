use Rattle.std.proofs.Common.{of_z, rules, subst, sym, to_z, w32}
use Rattle.doc_store.specs.contracts.store.DocStoreObject.TheImpl.{ghosts as store_ghosts}
use Rattle.fifo_object.specs.contracts.fifo.FifoObject.TheImpl.{ghosts as queue_ghosts}
use Rattle.program_object.specs.contracts.object.ProgramObjectObject.TheImpl.{ghosts as program_ghosts}
use Rattle.githoppu_c.specs.Again.{ContentTakenBack, TakenComesBack}
use Rattle.githoppu_c.specs.declared.content.AnyHandleState.{AnyHandleState}
use Rattle.githoppu_c.proofs.TakenUp.{program_taken_back, queue_taken_back, store_taken_back}
use Rattle.githoppu_c.proofs.content.AnyHandleState.checkpoint.Goals as goal

-- the image that a session took of a document store is recovered again
pub returns-in-Documents-clause-back : goal.returns-in-Documents-clause-back
returns-in-Documents-clause-back c =
    let after = c.checkpoint.new.words in
    let code = to_z w32 (of_z w32 c.checkpoint.result) in
    let back : ContentTakenBack store_ghosts 1 after code c.in-Documents.content = search rules in
    subst (λ (s : AnyHandleState). TakenComesBack s after code) (sym c.in-Documents.is) (store_taken_back after code c.in-Documents.content back)

-- the image that a session took of a queue is recovered again
pub returns-in-Queue-clause-back : goal.returns-in-Queue-clause-back
returns-in-Queue-clause-back c =
    let after = c.checkpoint-in-Queue.new.words in
    let code = to_z w32 (of_z w32 c.checkpoint-in-Queue.result) in
    let back : ContentTakenBack queue_ghosts 2 after code c.in-Queue.content = search rules in
    subst (λ (s : AnyHandleState). TakenComesBack s after code) (sym c.in-Queue.is) (queue_taken_back after code c.in-Queue.content back)

-- the image that a session took of a program's object is recovered again, whichever other program's images are taken over
pub returns-in-Program-clause-back : goal.returns-in-Program-clause-back
returns-in-Program-clause-back c =
    let after = c.checkpoint-in-Program.new.words in
    let code = to_z w32 (of_z w32 c.checkpoint-in-Program.result) in
    let back : ContentTakenBack program_ghosts 3 after code c.in-Program.content = search rules in
    subst (λ (s : AnyHandleState). TakenComesBack s after code) (sym c.in-Program.is) (program_taken_back after code
    (λ table place region answer. c.taken_images_are_taken_up.ensures.taken_up table 3 place region after answer) c.in-Program.content back)
