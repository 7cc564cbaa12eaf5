use Rattle.std.proofs.Common.{refl, map, string_bytes, [], None, List, ℕ, arith}
use Rattle.cx_program.specs.Texts.{usage_text}
use Rattle.cx_program.specs.declared.status.Status.TheVariants.{Usage}
use Rattle.cx_program.proofs.Answering.{answers_written, owed_by}
use Rattle.cx_program.proofs.CommandLaws.{none_read, owed_short}
use Rattle.cx_program.proofs.top_call.cx_run.Goals as goal

pub returns-in-Ok-Some-clause-answer : goal.returns-in-Ok-Some-clause-answer
returns-in-Ok-Some-clause-answer g c =
    c.run_asked.ensures.answer (map string_bytes c.args.words.now) (rw c.in-Ok-Some.field-0-is at c.in-Ok-Some.ensures)

pub returns-in-Ok-Some-clause-unread : goal.returns-in-Ok-Some-clause-unread
returns-in-Ok-Some-clause-unread g c none =
    c.run_asked.ensures.unread (none_read (map string_bytes c.args.words.now) c.in-Ok-Some.asked (rw c.in-Ok-Some.field-0-is at c.in-Ok-Some.ensures) none)

pub returns-in-Ok-None-clause-answer : goal.returns-in-Ok-None-clause-answer
returns-in-Ok-None-clause-answer g c =
    let words : List (List ℕ) = map string_bytes c.args.words.now in
    let given = g.S.Source.left c.args.source.now in
    answers_written words given usage_text c.without_lives-ended.result c.write_answer.result (g.K.Sink.written c.args.sink.now) (g.K.Sink.written c.write_answer.new.sink)
    (g.K.Sink.faults c.args.sink.now) (g.K.Sink.faults c.write_answer.new.sink)
    (owed_by words given Usage [] usage_text c.without_lives-ended.result c.without_lives-ended.ensures
    (owed_short None words given [] Usage [] usage_text (rw c.in-Ok-None.field-0-is at c.in-Ok-None.ensures) refl (omega arith) refl refl)) c.write_answer.ensures.wrote
