use Rattle.std.proofs.Common.{◌≡◌, string_bytes, false, take, All}
use Rattle.cx_program.specs.CommandLine.{begins_with_hyphen}
use Rattle.cx_program.proofs.command_line.has_option.Given as goal

abbrev pub invariant-loop-word : goal.invariant-loop-word
invariant-loop-word l = All (λ word. begins_with_hyphen (string_bytes word) ≡ false) (take l.word-index l.words)
