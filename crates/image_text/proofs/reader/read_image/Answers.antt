use Rattle.std.proofs.Common.{inr}
use Rattle.image_text.proofs.MissingLines.{misses_first, misses_second}
use Rattle.image_text.proofs.reader.read_image.Goals as goal

pub returns-in-Nothing-clause-refused : goal.returns-in-Nothing-clause-refused
returns-in-Nothing-clause-refused c = inr (misses_first c.args.bytes.now (rw c.in-Nothing.is at c.in_ok-read_lines.ensures.read))

pub returns-in-Begun-clause-refused : goal.returns-in-Begun-clause-refused
returns-in-Begun-clause-refused c = inr (misses_second c.args.bytes.now c.in-Begun.field-0 (rw c.in-Begun.is at c.in_ok-read_lines.ensures.read))
