use Rattle.word_index.proofs.ExactChanges.{removed_is, removed_revised}
use Rattle.word_index.proofs.WordChanges.{removed_words}
use Rattle.word_index.proofs.laws.keys_are_removed.Goals as goal

pub returns-clause-stands : goal.returns-clause-stands
returns-clause-stands c = λ key words i. removed_is key words

pub returns-clause-words : goal.returns-clause-words
returns-clause-words c = λ key words n i w. removed_words key words i n w

pub returns-clause-revised : goal.returns-clause-revised
returns-clause-revised c = removed_revised
