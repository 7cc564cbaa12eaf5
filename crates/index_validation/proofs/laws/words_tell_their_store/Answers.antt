use Rattle.index_validation.proofs.LawfulWords.{store_is}
use Rattle.index_validation.proofs.laws.words_tell_their_store.Goals as goal

pub returns : goal.returns
returns c = store_is
