use Rattle.std.proofs.Common.{◌≡◌, ◌<◌, ◌≤◌, arith, rules}
use Rattle.cx_base.proofs.ReadLemmas.{Reads-none, Reads-load, Reads-loaded}
use Rattle.word_index.proofs.KeyWords.{first_within, second_within, word_of_first, word_of_second}
use Rattle.avl_words.proofs.Memories.{found, loadable}
use Rattle.word_index.proofs.blocks.early_word.Goals as goal

pub word-requires-clause-memory : goal.word-requires-clause-memory
word-requires-clause-memory g c = loadable (search rules) (λ first now s. first_within now c.args.first c.args.at (c.requires.memory.all first now s))

pub returns-then-at-lt7 : goal.returns-then-at-lt7
returns-then-at-lt7 g c =
    let low : c.args.at < 7 = omega arith in
    found (Reads-load (Reads-none _ c.requires.memory.all) c.in_ok-low.ensures.done (λ ws p e lines bytes h used. word_of_first ws c.args.first c.args.at c.in_ok-low.low low e lines bytes h used)) (search rules) (search rules) (search rules)

pub word-requires-2-clause-memory : goal.word-requires-2-clause-memory
word-requires-2-clause-memory g c = loadable (search rules) (λ first now s. first_within now c.args.first c.args.at (c.requires.memory.all first now s))

pub word-requires-3-clause-memory : goal.word-requires-3-clause-memory
word-requires-3-clause-memory g c =
    let seven : 7 ≤ c.args.at = omega arith in
    let r = Reads-loaded (Reads-none _ c.requires.memory.all) c.in_ok-second.ensures.done in
    loadable (search rules) (λ first now s. (let p = (r.from first now s).1 in second_within now c.args.first c.in_ok-second.second c.args.at seven p.0 p.1))

pub returns : goal.returns
returns g c =
    let seven : c.args.at ≡ 7 = omega arith in
    found (Reads-load (Reads-loaded (Reads-none _ c.requires.memory.all) c.in_ok-second.ensures.done) c.in_ok-high.ensures.done
    (λ ws p e lines bytes h used. word_of_second ws c.args.first c.in_ok-second.second c.args.at c.in_ok-high.high seven p.1 e lines bytes h used)) (search rules) (search rules) (search rules)
