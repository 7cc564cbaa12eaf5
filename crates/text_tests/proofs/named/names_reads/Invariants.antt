use Rattle.std.proofs.Common.{All, take}
use Rattle.life_records.specs.Lives.{Names}
use Rattle.text_tests.proofs.named.names_reads.Given as goal

-- each line of the reads before that of the loop names a command of the life
abbrev pub invariant-loop-line : goal.invariant-loop-line
invariant-loop-line l = All (λ line. Names l.life line.client line.command) (take l.line-index l.reads)
