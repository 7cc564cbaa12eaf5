use Rattle.std.proofs.Common.{◌≡◌, ◌∙◌}
use Rattle.cx_program.specs.Status.{status_of}
use Rattle.cx_program.proofs.recover.recover_text.Goals as goal

pub returns-clause-calls : goal.returns-clause-calls
returns-clause-calls c =
    let status : c.without_lives-ended.result.status ≡ status_of c.in_ok-answer.answer.end = c.without_lives-ended.ensures.0 ∙ c.status_of.ensures in
    (c.in_ok-answer.answer.end, c.in_ok-answer.ensures.ends, status)

pub returns-clause-writes : goal.returns-clause-writes
returns-clause-writes c =
    let status : c.without_lives-ended.result.status ≡ status_of c.in_ok-answer.answer.end = c.without_lives-ended.ensures.0 ∙ c.status_of.ensures in
    (c.in_ok-answer.answer.end, c.in_ok-answer.ensures.writes, status, c.without_lives-ended.ensures.1)
