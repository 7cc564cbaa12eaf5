use Rattle.std.proofs.Common.{inr, refl}
use Rattle.trace_text.proofs.Steps.{no_line}
use Rattle.plain_text.specs.Lines.{text_lines}
use Rattle.trace_text.proofs.reader.read_trace.Goals as goal

pub returns-in-Nothing-clause-refused : goal.returns-in-Nothing-clause-refused
returns-in-Nothing-clause-refused c = inr (no_line (text_lines c.args.bytes.now) (rw c.in-Nothing.is at c.in_ok-read_lines.ensures.read), refl, refl)
