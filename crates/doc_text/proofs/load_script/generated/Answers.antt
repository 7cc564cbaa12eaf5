use Rattle.std.proofs.Common.{◌∙◌, ◌++◌, List, ap, arith}
use Rattle.doc_model.specs.declared.operations.Op.{Op}
use Rattle.life_records.specs.declared.script.Command.{Command}
use Rattle.doc_text.specs.Generated.{generated_commands}
use Rattle.doc_text.proofs.Loads.{commands_more}
use Rattle.doc_text.proofs.load_script.generated.Goals as goal

pub loop-client-preserved : goal.loop-client-preserved
loop-client-preserved c =
    rw (commands_more c.args.from c.args.ops 0 c.loop-client.client c.loop-client.client (omega arith))
    (c.in_ok-add_commands.ensures ∙ ap (λ (cs : List (Command Op)). cs ++ generated_commands c.args.from c.args.ops c.loop-client.client) c.loop-client.invariant)
