use Rattle.std.proofs.Common.{◌≡◌, ◌∙◌, ap₂, false, refl}
use Rattle.std.proofs.lemmas.Result.{IfOk-weaker}
use Rattle.clap.specs.Built.{AddsArg}
use Rattle.clap.specs.Words.{app_of}
use Rattle.clap.specs.Simple.{with_rule}
use Rattle.clap.specs.declared.builder.command.Command.TheViews.{out-Command}
use Rattle.cx_program.specs.CommandLine.{pool_app}
use Rattle.cx_program.proofs.command_line.pool_command.Goals as goal

pub returns-clause-app : goal.returns-clause-app
returns-clause-app c =
    IfOk-weaker c.arg.result (AddsArg c.new.result c.number.result) (λ command. app_of command ≡ pool_app)
    (λ command adds. adds.shape c.number.ensures.local ∙ ap₂ with_rule c.new.ensures.app c.number.ensures.rule) c.arg.ensures

pub returns-clause-local : goal.returns-clause-local
returns-clause-local c =
    IfOk-weaker c.arg.result (AddsArg c.new.result c.number.result) (λ command. (out-Command command).has_globals ≡ false)
    (λ command adds. rw (adds.globals, c.new.ensures.local, c.number.ensures.local) refl) c.arg.ensures
