use Rattle.doc_commands.proofs.OneAnswer.{tells_nothing}
use Rattle.doc_commands.proofs.image_answer.answer_of.Goals as goal

pub returns-in_ok-text-in-Err : goal.returns-in_ok-text-in-Err
returns-in_ok-text-in-Err c =
    let image = c.args.image.now in
    let fault = c.in-Err.fault in
    let refused = c.in_ok-text-in-Err.ensures in
    λ input read. (
      (image, read, tells_nothing image fault c.in-Err.ensures refused.some),
      record { image = image; read = read; fault = fault; some = refused.some; is = c.in-Err.ensures; refusal = refused.text },
    )
