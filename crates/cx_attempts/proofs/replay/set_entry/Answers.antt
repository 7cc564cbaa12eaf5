use Rattle.cx_attempts.proofs.ReadEntries.{first_and_rest}
use Rattle.cx_attempts.proofs.replay.set_entry.Goals as goal

pub returns-clause-words : goal.returns-clause-words
returns-clause-words c = first_and_rest c.args.words.now c.copy_from_slice.new.self c.told-words c.copy_from_slice.ensures.after
