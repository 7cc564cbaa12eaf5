use Rattle.script_text.proofs.WithinLimits.{limits-script, within-script}
use Rattle.script_text.proofs.reader.read_script.Goals as goal

pub returns-clause-limits : goal.returns-clause-limits
returns-clause-limits g c =
    rw c.finish.ensures (limits-script g.C.CommandReader.commands g.C.CommandReader.is_op c.args.bytes.now _ g.met.C.CommandReader.reads.lives
    c.in_ok-read_lines.ensures.read c.in_ok-read_lines.ensures.keeps)

pub returns-clause-within : goal.returns-clause-within
returns-clause-within g c = rw c.finish.ensures (within-script g.C.CommandReader.commands c.args.bytes.now _ c.in_ok-read_lines.ensures.read)
