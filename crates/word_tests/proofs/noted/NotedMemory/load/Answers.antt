use Rattle.std.proofs.Common.{◌≡◌, slice_index, length, rules, sym}
use Rattle.std.proofs.lemmas.List.{get_or_read}
use Rattle.cx_base.specs.Noted.{shown_after_load, shows_load}
use Rattle.word_tests.proofs.noted.NotedMemory.load.Goals as goal

-- the words that are there fit the notes also with this load noted
pub invariant_of-self-clause-shown : goal.invariant_of-self-clause-shown
invariant_of-self-clause-shown c =
    let words = c.args.self.now.words.items in
    -- the word that is noted is the one that stands at the place
    let there : slice_index words c.args.at ≡ c.index-v.result.now = sym (get_or_read words c.args.at _ (search rules) c.index-v.ensures 0) in
    rw c.note.ensures.items (shown_after_load c.args.self.now.notes.items words c.args.at c.index-v.result.now there c.args.self.now.shown)

-- a load that is noted is a load of the words that fit the notes
pub returns-clause-stands : goal.returns-clause-stands
returns-clause-stands c =
    let words = c.args.self.now.words.items in
    rw c.note.ensures.items (shows_load (length words) c.args.self.now.notes.items c.args.at c.index-v.result.now)
