use Rattle.index_validation.proofs.Revisions.{has_one_revised_store, pairs_are_read, is_revised_store}
use Rattle.index_validation.proofs.laws.lawful_words_have_one_revised_store.Goals as goal

pub returns-clause-one : goal.returns-clause-one
returns-clause-one c = has_one_revised_store

pub returns-clause-pairs : goal.returns-clause-pairs
returns-clause-pairs c = pairs_are_read

pub returns-clause-lawful : goal.returns-clause-lawful
returns-clause-lawful c = is_revised_store
