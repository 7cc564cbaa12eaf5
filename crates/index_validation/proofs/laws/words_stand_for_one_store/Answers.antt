use Rattle.index_validation.proofs.LawfulWords.{one_store}
use Rattle.index_validation.proofs.laws.words_stand_for_one_store.Goals as goal

pub returns : goal.returns
returns c = one_store
