use Rattle.std.proofs.Common.{◌∙◌, ap}
use Rattle.clap.specs.Simple.{App, with_subcommand}
use Rattle.clap.specs.Words.{app_of}
use Rattle.cx_program.proofs.command_line.with_lone.Goals as goal

pub returns : goal.returns
returns c = c.in_ok-command.ensures.shape c.new.ensures.local ∙ ap (λ (a : App). with_subcommand (app_of c.args.line) a.top) c.new.ensures.app
