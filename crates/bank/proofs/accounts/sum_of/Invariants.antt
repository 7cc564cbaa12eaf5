use Rattle.std.proofs.Common.{◌≡◌, sum, take}
use Rattle.bank.proofs.accounts.sum_of.Given as goal

-- the sum of the first words
abbrev pub invariant-loop-word : goal.invariant-loop-word
invariant-loop-word l = l.total ≡ sum (take l.word-index l.words)
