use Rattle.std.proofs.Common.{◌∙◌, sym}
use Rattle.script_text.specs.Grammar.{AsksWithinLimits}
use Rattle.script_text.specs.LineReading.{accepted}
use Rattle.script_text.proofs.WithinLimits.{said_asks}
use Rattle.script_text.proofs.reader.DraftLineReader.add_line.Goals as goal

pub add-requires : goal.add-requires
add-requires g c =
    (accepted g.C.CommandReader.commands g.C.CommandReader.asked g.met.C.CommandReader.reads c.args.self.now c.args.line.now c.in-Ok.says
    (sym c.in_ok-says.ensures.is ∙ c.in-Ok.is)).stands

pub returns-clause-keeps : goal.returns-clause-keeps
returns-clause-keeps g c = λ ops.
    let asks : AsksWithinLimits g.C.CommandReader.is_op c.in-Ok.says = rw c.in-Ok.is at c.in_ok-says.ensures.within in
    rw c.in_ok-add.ensures (said_asks g.C.CommandReader.is_op c.args.self.now c.in-Ok.says asks ops)
