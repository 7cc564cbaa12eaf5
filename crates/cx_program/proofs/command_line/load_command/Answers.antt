use Rattle.std.proofs.Common.{rules, ◌≡◌, ◌∙◌, ap₂, false, refl}
use Rattle.std.proofs.lemmas.Result.{IfOk-weaker}
use Rattle.clap.specs.Built.{AddsArg}
use Rattle.clap.specs.Words.{app_of}
use Rattle.clap.specs.Simple.{with_rule}
use Rattle.clap.specs.declared.builder.command.Command.TheViews.{out-Command}
use Rattle.cx_program.specs.CommandLine.{load_app}
use Rattle.cx_program.proofs.command_line.load_command.Goals as goal

pub returns-clause-app : goal.returns-clause-app
returns-clause-app c =
    let one = c.in_ok-arg.ensures.shape c.number.ensures.local ∙ ap₂ with_rule c.new.ensures.app c.number.ensures.rule in
    let two = c.in_ok-arg-2.ensures.shape c.number-2.ensures.local ∙ ap₂ with_rule one c.number-2.ensures.rule in
    IfOk-weaker c.arg-3.result (AddsArg c.in_ok-arg-2.field-0 c.number-3.result) (λ command. app_of command ≡ load_app)
    (λ command adds. adds.shape c.number-3.ensures.local ∙ ap₂ with_rule two c.number-3.ensures.rule) c.arg-3.ensures

pub returns-clause-local : goal.returns-clause-local
returns-clause-local c =
    let one : (out-Command c.in_ok-arg.field-0).has_globals ≡ false = search rules in
    let two : (out-Command c.in_ok-arg-2.field-0).has_globals ≡ false = search rules in
    IfOk-weaker c.arg-3.result (AddsArg c.in_ok-arg-2.field-0 c.number-3.result) (λ command. (out-Command command).has_globals ≡ false)
    (λ command adds. rw (adds.globals, two, c.number-3.ensures.local) refl) c.arg-3.ensures
