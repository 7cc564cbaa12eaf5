use Rattle.std.proofs.Common.{rules, subst, sym, Some, List, ℕ, []}
use Rattle.cx_base.specs.Outside.{Rose}
use Rattle.cx_program.specs.Answer.{Read}
use Rattle.cx_program.specs.Commands.{command}
use Rattle.cx_program.specs.Input.{IsInput}
use Rattle.cx_program.specs.Texts.{too_long_text}
use Rattle.cx_program.specs.declared.status.Status.TheVariants.{TooLong}
use Rattle.cx_program.proofs.Answering.{answers_written, cause_written, owed_by}
use Rattle.cx_program.proofs.CommandLaws.{GivesUp, owed_long}
use Rattle.cx_program.proofs.top_call.run_asked.Goals as goal

pub returns-in-Ok-Failed-clause-answer : goal.returns-in-Ok-Failed-clause-answer
returns-in-Ok-Failed-clause-answer g c words asks =
    let shows = rw c.in-Ok-Failed.field-0-is at c.in-Ok-Failed.ensures.input in
    let read : Read words = record { asked = Some c.args.asked.now; asks = asks; reads = shows.0 } in search rules

pub returns-in-Ok-Failed-clause-cause : goal.returns-in-Ok-Failed-clause-cause
returns-in-Ok-Failed-clause-cause g c =
    let shows = rw c.in-Ok-Failed.field-0-is at c.in-Ok-Failed.ensures.input in
    let rose : Rose (g.S.Source.faults c.args.source.now) (g.S.Source.faults c.input_of.new.source) = shows.1 in search rules

pub returns-in-Ok-TooLong-clause-answer : goal.returns-in-Ok-TooLong-clause-answer
returns-in-Ok-TooLong-clause-answer g c words asks =
    let given = g.S.Source.left c.args.source.now in
    let shows = rw c.in-Ok-TooLong.field-0-is at c.in-Ok-TooLong.ensures.input in
    answers_written words given too_long_text c.without_lives-ended.result c.write_answer.result (g.K.Sink.written c.args.sink.now) (g.K.Sink.written c.write_answer.new.sink)
    (g.K.Sink.faults c.args.sink.now) (g.K.Sink.faults c.write_answer.new.sink)
    (owed_by words given TooLong [] too_long_text c.without_lives-ended.result c.without_lives-ended.ensures
    (owed_long (Some c.args.asked.now) words given shows.0 asks shows.2 shows.1)) c.write_answer.ensures.wrote

pub returns-in-Ok-TooLong-clause-cause : goal.returns-in-Ok-TooLong-clause-cause
returns-in-Ok-TooLong-clause-cause g c =
    cause_written too_long_text c.without_lives-ended.result c.write_answer.result (g.K.Sink.written c.args.sink.now) (g.K.Sink.written c.write_answer.new.sink)
    (g.S.Source.faults c.args.source.now) (g.S.Source.faults c.input_of.new.source) (g.K.Sink.faults c.args.sink.now) (g.K.Sink.faults c.write_answer.new.sink)
    (λ gives. subst GivesUp c.without_lives-ended.ensures.0 gives) c.write_answer.ensures.wrote

pub returns-in-Ok-Whole-clause-answer : goal.returns-in-Ok-Whole-clause-answer
returns-in-Ok-Whole-clause-answer g c words asks =
    let shows = rw c.in-Ok-Whole.field-0-is at c.in-Ok-Whole.ensures.input in
    let given = g.S.Source.left c.args.source.now in
    c.run_input.ensures.answer words given asks (subst (λ (bytes : List ℕ). IsInput (command c.args.asked.now).reads given bytes) (sym c.deref.ensures.value) shows.1)

pub returns-in-Ok-Whole-clause-cause : goal.returns-in-Ok-Whole-clause-cause
returns-in-Ok-Whole-clause-cause g c = c.run_input.ensures.cause (g.S.Source.faults c.args.source.now) (g.S.Source.faults c.input_of.new.source)
