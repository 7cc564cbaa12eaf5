use Rattle.word_tests.proofs.index.two_keys_over_a_vector.Given as goal

-- the ledger has the name and the parts of the blank that it is opened from
abbrev pub ghosts-over_a_vector : goal.ghosts-over_a_vector
ghosts-over_a_vector g a = record { name = a.blank.name; parts = a.blank.parts }
