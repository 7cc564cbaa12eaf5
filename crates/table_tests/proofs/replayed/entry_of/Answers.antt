use Rattle.cx_attempts.proofs.ReadEntries.{first_and_rest}
use Rattle.table_tests.proofs.Tried.{rest_words}
use Rattle.table_tests.proofs.replayed.entry_of.Goals as goal

-- the number and the operation are the words that were given
pub returns-clause-words : goal.returns-clause-words
returns-clause-words c = first_and_rest c.args.words.now c.copy_from_slice.new.self c.told-words c.copy_from_slice.ensures.after

-- the operation has 144 words of 64 bits
pub returns-clause-op : goal.returns-clause-op
returns-clause-op c = rest_words c.args.words.now c.copy_from_slice.new.self c.copy_from_slice.ensures.len c.fits-words c.copy_from_slice.ensures.after
