use Rattle.index_validation.proofs.LawfulWords.{has_one_store}
use Rattle.index_validation.proofs.laws.lawful_words_have_one_store.Goals as goal

pub returns : goal.returns
returns c = has_one_store
