use Rattle.std.proofs.Common.{◌≡◌}
use Rattle.cx_base.specs.Memory.{Becomes}
use Rattle.doc_store.specs.ExactStep.{store_step}
use Rattle.std.proofs.lemmas.Result.{IfOk-weaker}
use Rattle.doc_store.proofs.Stepping.{op_are_words, image_goes_on}
use Rattle.word_tests.proofs.rows.asked.Goals as goal

-- Where the step is done, all that the memory may hold is a lawful image of the store: a step of the store leads from a lawful image to one.
pub returns-clause-lawful : goal.returns-clause-lawful
returns-clause-lawful g c =
    let op = c.args.op.now in
    let lines = c.args.store.now.lines in
    IfOk-weaker c.run.result (λ reply. Becomes (g.M.Memory.stands c.args.mem.now) (g.M.Memory.stands c.run.new.mem) (λ before now. store_step lines before op ≡ (now, reply))) _
    (λ reply b. image_goes_on lines op reply (op_are_words op c.told-op c.fits-op) c.requires.lawful b) c.run.ensures.done
