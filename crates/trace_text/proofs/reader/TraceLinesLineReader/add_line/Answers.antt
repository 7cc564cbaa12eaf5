use Rattle.std.proofs.Common.{sym, subst, ◌∙◌}
use Rattle.trace_text.specs.Traces.{IsTraceWithin}
use Rattle.trace_text.proofs.Steps.{head_kept}
use Rattle.trace_text.proofs.reader.TraceLinesLineReader.add_line.Goals as goal

pub returns-in-Some-clause-keeps : goal.returns-in-Some-clause-keeps
returns-in-Some-clause-keeps c = λ _. subst IsTraceWithin (sym c.with_head.ensures) (head_kept c.args.line.now (c.in-Some.callers, c.in-Some.lines) (sym c.read_head.ensures ∙ c.in-Some.is))
