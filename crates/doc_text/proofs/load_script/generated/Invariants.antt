use Rattle.std.proofs.Common.{◌≡◌, flat_map}
use Rattle.std.specs.List.{range_with_len}
use Rattle.doc_text.specs.Generated.{generated_commands}
use Rattle.doc_text.proofs.load_script.generated.Given as goal

abbrev pub invariant-loop-client : goal.invariant-loop-client
invariant-loop-client l = l.commands ≡ flat_map (generated_commands l.from l.ops) (range_with_len 0 l.client)
