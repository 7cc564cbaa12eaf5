use Rattle.std.proofs.Common.{◌<◌, ◌^◌, length, arith}
use Rattle.std.proofs.lemmas.List.{length-set}
use Rattle.cx_base.specs.Noted.{shown_after_store, shows_store}
use Rattle.word_tests.proofs.noted.NotedMemory.store.Goals as goal

-- the words that are there fit the notes also after this store, which is noted
pub invariant_of-self-clause-shown : goal.invariant_of-self-clause-shown
invariant_of-self-clause-shown c =
    -- the word stored has 64 bits
    let small : c.args.v < 2 ^ 64 = omega arith in
    rw c.note.ensures.items (shown_after_store c.args.self.now.notes.items c.args.self.now.words.items c.args.at c.args.v small c.args.self.now.shown)

-- a store that is noted is a store into the words that fit the notes
pub returns-clause-stands : goal.returns-clause-stands
returns-clause-stands c =
    let words = c.args.self.now.words.items in
    -- the word stored has 64 bits
    let small : c.args.v < 2 ^ 64 = omega arith in
    rw (c.note.ensures.items, length-set words c.args.at c.args.v) (shows_store (length words) c.args.self.now.notes.items c.args.at c.args.v small)
