use Rattle.std.proofs.Common.{◌≡◌, ◌++◌, ◌+◌, ◌*◌, map}
use Rattle.std.specs.List.{range_with_len}
use Rattle.doc_text.specs.Generated.{generated_command}
use Rattle.doc_text.proofs.load_script.add_commands.Given as goal

abbrev pub invariant-loop-i : goal.invariant-loop-i
invariant-loop-i l = l.commands ≡ l.initial.commands ++ map (λ i. generated_command l.from l.client (l.client * l.ops + i)) (range_with_len 0 l.i)
