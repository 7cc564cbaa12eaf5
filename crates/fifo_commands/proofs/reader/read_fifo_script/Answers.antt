use Rattle.std.proofs.Common.{◌∙◌, refl}
use Rattle.fifo_commands.specs.Uncut.{uncut_script}
use Rattle.fifo_commands.proofs.NoCuts.{uncut_one}
use Rattle.fifo_commands.proofs.reader.read_fifo_script.Goals as goal

pub without_cuts-requires : goal.without_cuts-requires
without_cuts-requires c = c.in_ok-script.ensures.within.uncut refl

pub returns-clause-only : goal.returns-clause-only
returns-clause-only c = λ script is.
    uncut_one c.in_ok-without_cuts.field-0 script (c.in_ok-without_cuts.ensures ∙ c.in_ok-script.ensures.only (uncut_script script) is)
