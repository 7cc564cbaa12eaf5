use Rattle.bank.proofs.Sums.{sum_after_words}
use Rattle.bank.proofs.accounts.sums_are_kept.Goals as goal

pub returns : goal.returns
returns c = sum_after_words
