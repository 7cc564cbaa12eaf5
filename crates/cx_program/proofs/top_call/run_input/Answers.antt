use Rattle.std.proofs.Common.{subst, sym, Some, List, ℕ}
use Rattle.cx_program.specs.Commands.{command}
use Rattle.cx_program.proofs.Answering.{answers_written, cause_written}
use Rattle.cx_program.proofs.CommandLaws.{owed_short, sound}
use Rattle.cx_program.proofs.top_call.run_input.Goals as goal

pub returns-in-Ok-clause-answer : goal.returns-in-Ok-clause-answer
returns-in-Ok-clause-answer g c words given asks is =
    answers_written words given c.deref.result.now c.in-Ok.ended c.write_answer.result (g.K.Sink.written c.args.sink.now) (g.K.Sink.written c.write_answer.new.sink)
    (g.K.Sink.faults c.args.sink.now) (g.K.Sink.faults c.write_answer.new.sink)
    (owed_short (Some c.args.asked.now) words given c.args.bytes.now c.in-Ok.ended.status c.in-Ok.ended.trails c.deref.result.now asks is c.requires c.in-Ok.ensures.calls
    (subst (λ (text : List ℕ). (command c.args.asked.now).writes c.args.bytes.now c.in-Ok.ended.status c.in-Ok.ended.trails text) (sym c.deref.ensures.value) c.in-Ok.ensures.writes))
    c.write_answer.ensures.wrote

pub returns-in-Ok-clause-cause : goal.returns-in-Ok-clause-cause
returns-in-Ok-clause-cause g c reads reads' =
    cause_written c.deref.result.now c.in-Ok.ended c.write_answer.result (g.K.Sink.written c.args.sink.now) (g.K.Sink.written c.write_answer.new.sink)
    reads reads' (g.K.Sink.faults c.args.sink.now) (g.K.Sink.faults c.write_answer.new.sink)
    ((sound (Some c.args.asked.now)).plain c.args.bytes.now c.in-Ok.ended.status c.in-Ok.ensures.calls) c.write_answer.ensures.wrote
