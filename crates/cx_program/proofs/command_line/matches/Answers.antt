use Rattle.std.proofs.Common.{◌≡◌, ◌∙◌, refl, ap, map, string_bytes, codes, true, subst, ℕ, List}
use Rattle.clap.specs.Faults.{fault_of, is_simple_and_free}
use Rattle.clap.specs.Kinds.{FailsBy}
use Rattle.clap.specs.Words.{app_of}
use Rattle.clap.specs.Simple.{App, app_of_fields, new_app, new_shape, with_subcommand}
use Rattle.clap.specs.declared.builder.command.Command.{Command}
use Rattle.clap.specs.declared.builder.command.Command.TheOpen.{Command-F}
use Rattle.clap.proofs.OnLiterals.{clap_on_literals}
use Rattle.cx_program.specs.CommandLine.{load_app, pool_app, program}
use Rattle.cx_program.proofs.command_line.matches.Goals as goal

is_simple_program : is_simple_and_free program ≡ true
unfolding clap_on_literals
is_simple_program = refl

abbrev with_settings : App → App
with_settings a = record a { top = record a.top { no_binary_name = true; disable_help_flag = true; disable_help_subcommand = true; subcommand_required = true } }

abbrev bare : App
bare = with_settings (new_app (codes "cx_tool"))

pub returns : goal.returns
returns c =
    let bare_is : app_of c.subcommand_required-bare.result ≡ bare =
    ap app_of_fields c.subcommand_required-bare.ensures
    ∙ ap (λ (f : Command-F Command). app_of_fields (record f { subcommand_required = true })) c.disable_help_subcommand.ensures
    ∙ ap (λ (f : Command-F Command). app_of_fields (record f { disable_help_subcommand = true; subcommand_required = true })) c.disable_help_flag.ensures
    ∙ ap (λ (f : Command-F Command). app_of_fields (record f { disable_help_flag = true; disable_help_subcommand = true; subcommand_required = true })) c.no_binary_name.ensures
    ∙ ap with_settings c.new.ensures.app in
    let next : (name : List ℕ) (before after : App) → before ≡ after → with_subcommand before (new_shape name) ≡ with_subcommand after (new_shape name) = λ name before after is. ap (λ (a : App). with_subcommand a (new_shape name)) is in
    let with_run = c.in_ok-with_run.ensures ∙ next (codes "run") _ _ bare_is in
    let with_image = c.in_ok-with_image.ensures ∙ next (codes "image") _ _ with_run in
    let with_recover = c.in_ok-with_recover.ensures ∙ next (codes "recover") _ _ with_image in
    let with_fifo = c.in_ok-with_fifo.ensures ∙ next (codes "fifo") _ _ with_recover in
    let with_trace = c.in_ok-with_trace.ensures ∙ next (codes "trace") _ _ with_fifo in
    let app_is : app_of c.in_ok-with_numbers.field-0 ≡ program =
    c.in_ok-with_numbers.ensures ∙ ap (λ (a : App). with_subcommand (with_subcommand a load_app.top) pool_app.top) with_trace in
    subst (λ (a : App). FailsBy (fault_of a (map string_bytes c.args.words.now)) c.try_get_matches_from.result) app_is (c.try_get_matches_from.ensures.kinds (ap is_simple_and_free app_is ∙ is_simple_program))
