use Rattle.std.proofs.Common.{rules}
use Rattle.cx_base.specs.Packing.{unpacked}
use Rattle.cx_base.proofs.ReadLemmas.{Reads-weaker, Reads-with}
use Rattle.word_index.proofs.Finding.{found_none, found_there}
use Rattle.avl_words.proofs.Memories.{found}
use Rattle.word_index.proofs.answers.find.Goals as goal

pub returns-then-end-eq0 : goal.returns-then-end-eq0
returns-then-end-eq0 g c =
    let end = c.in_ok-end.end in
    let key = unpacked c.args.key.now.len c.args.key.now.words in
    record {
      finds = found (Reads-weaker (Reads-with c.requires.all c.in_ok-end.ensures.finds.done) (λ ws p. found_none ws key end.node end.above p.0 p.1 c.if-end-eq0.true)) (search rules) (search rules) (search rules);
      visits = search rules;
    }

pub returns-else-end-eq0 : goal.returns-else-end-eq0
returns-else-end-eq0 g c =
    let end = c.in_ok-end.end in
    let key = unpacked c.args.key.now.len c.args.key.now.words in
    record {
      finds = found (Reads-weaker (Reads-with c.requires.all c.in_ok-end.ensures.finds.done) (λ ws p. found_there ws key end.node end.above p.0 p.1 c.if-end-eq0.false)) (search rules) (search rules) (search rules);
      visits = search rules;
    }
