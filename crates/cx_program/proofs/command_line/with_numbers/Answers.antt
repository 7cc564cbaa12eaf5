use Rattle.std.proofs.Common.{◌∙◌, ap, ap₂}
use Rattle.clap.specs.Simple.{App, with_subcommand}
use Rattle.clap.specs.Words.{app_of}
use Rattle.cx_program.proofs.command_line.with_numbers.Goals as goal

pub returns : goal.returns
returns c =
    let with_load = c.in_ok-with_load.ensures.shape c.in_ok-load.ensures.local ∙ ap (λ (a : App). with_subcommand (app_of c.args.line) a.top) c.in_ok-load.ensures.app in
    c.in_ok-command.ensures.shape c.in_ok-pool.ensures.local ∙ ap₂ with_subcommand with_load (ap (λ (a : App). a.top) c.in_ok-pool.ensures.app)
