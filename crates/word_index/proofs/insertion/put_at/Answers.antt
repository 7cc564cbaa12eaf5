use Rattle.std.proofs.Common.{◌^◌, ◌≤◌, ◌==◌, eq-eqb, subst, arith, rules}
use Rattle.std.proofs.lemmas.Bool.{eqb-true}
use Rattle.cx_base.specs.Packing.{unpacked}
use Rattle.cx_base.proofs.MemoryLemmas.{always_at_most, Becomes-store, Becomes-both}
use Rattle.cx_base.proofs.ReadLemmas.{always_read, Reads-with, Becomes-from-read}
use Rattle.word_index.proofs.Inserting.{counted, used_few, can_write, exact_none, exact_put}
use Rattle.avl_words.proofs.Memories.{changed, storable}
use Rattle.avl_words.specs.Lines.{with_word}
use Rattle.word_index.specs.Insertion.{PutsDocument}
use Rattle.word_index.proofs.insertion.put_at.Goals as goal

pub overflow_sub-needed : goal.overflow_sub-needed
overflow_sub-needed g c =
    let m = c.args.mem.now in
    let doc = unpacked c.args.doc.now.len c.args.doc.now.words.now in
    always_at_most (g.M.Memory.stands m) (g.met.M.Memory.some_stands m) c.args.old c.args.used
    (λ first ws s. (counted doc (c.requires.memory.all first ws s)).below)

pub overflow_add-needed : goal.overflow_add-needed
overflow_add-needed g c =
    let m = c.args.mem.now in
    let doc = unpacked c.args.doc.now.len c.args.doc.now.words.now in
    let few : c.args.used ≤ 2 ^ 32 = always_at_most (g.M.Memory.stands m) (g.met.M.Memory.some_stands m) c.args.used (2 ^ 32) (λ first ws s. used_few doc (c.requires.memory.all first ws s)) in
    omega (arith, c.lines_of_pair-new.ensures, c.requires.pair.key.is_key.short, c.requires.pair.is_document.short)

pub overflow_sub-lines : goal.overflow_sub-lines
overflow_sub-lines g c =
    let m = c.args.mem.now in
    always_at_most (g.M.Memory.stands m) (g.met.M.Memory.some_stands m) 1 c.args.lines (λ first ws s. (let k = c.requires.memory.all first ws s in omega (arith, k.index.stands.arranged.sized.some, k.long)))

pub returns-then-lines-needed : goal.returns-then-lines-needed
returns-then-lines-needed g c =
    let doc = unpacked c.args.doc.now.len c.args.doc.now.words.now in
    changed (record { from = λ first now s. (now, s, exact_none doc (c.requires.memory.all first now s) c.lines_of_pair-new.ensures c.if-lines-needed.true) }) (search rules) (search rules)

pub write_at-requires-clause-memory : goal.write_at-requires-clause-memory
write_at-requires-clause-memory g c =
    let doc = unpacked c.args.doc.now.len c.args.doc.now.words.now in
    let old = c.args.old in
    let new = c.lines_of_pair-new.result in
    storable (search rules) (search rules) (always_read c.requires.memory.all c.in_ok-revision.ensures.done
    (λ ws k r. can_write doc k c.lines_of_pair-new.ensures (old == new) (eqb-true old new, eq-eqb old new) c.if-lines-needed.false c.requires.pair.key.is_key c.requires.pair.is_document))

pub returns : goal.returns
returns g c =
    let key = unpacked c.args.key.now.len c.args.key.now.words in
    let doc = unpacked c.args.doc.now.len c.args.doc.now.words.now in
    let revision = c.in_ok-revision.revision in
    let inserted = c.in_ok-inserted.inserted in
    changed (Becomes-store (Becomes-both (Becomes-from-read (Reads-with c.requires.memory.all c.in_ok-revision.ensures.done)) c.in_ok-inserted.ensures.done) c.in_ok-put.ensures.done
    (λ first x w s r. subst (λ u. PutsDocument key doc inserted u (with_word 0 6 revision w)) r.1.0
    (exact_put doc r.1.1.0 c.lines_of_pair-new.ensures inserted revision w c.if-lines-needed.false c.requires.pair.key.is_key c.requires.pair.is_document r.1.1.1 r.2))) (search rules) (search rules)
