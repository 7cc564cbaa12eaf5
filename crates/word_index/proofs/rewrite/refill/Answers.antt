use Rattle.std.proofs.Common.{rules}
use Rattle.cx_base.specs.Packing.{unpacked}
use Rattle.cx_base.proofs.MemoryLemmas.{Becomes-then, always_after, Becomes-both}
use Rattle.cx_base.proofs.ReadLemmas.{Reads-none, Becomes-from-read}
use Rattle.word_index.proofs.DocumentRuns.{refill_lines, refill_here, refill_runs}
use Rattle.avl_words.proofs.Memories.{changed, storable}
use Rattle.word_index.proofs.rewrite.refill.Goals as goal

pub fill_chain-requires-clause-memory : goal.fill_chain-requires-clause-memory
fill_chain-requires-clause-memory g c =
    let doc = c.args.doc.now in
    storable (search rules) (search rules) (λ first now s. refill_lines now c.args.node c.args.first doc.len c.div_ceil.result doc.words.now (c.requires.all first now s) c.div_ceil.ensures)

pub put_new-requires-clause-memory : goal.put_new-requires-clause-memory
put_new-requires-clause-memory g c =
    let doc = c.args.doc.now in
    storable (search rules) (search rules) (always_after c.requires.all c.in_ok-fill_chain.ensures.done (λ x y h e. refill_here x y c.args.node c.args.first c.div_ceil.result _ doc.words.now (unpacked doc.len doc.words.now) h e))

pub returns : goal.returns
returns g c =
    let doc = c.args.doc.now in
    changed (Becomes-then (Becomes-both (Becomes-from-read (Reads-none _ c.requires.all)) c.in_ok-fill_chain.ensures.done) c.in_ok-put_new.ensures.done
    (λ x z w r e. refill_runs x r.0 z w c.args.node c.args.first doc.len c.div_ceil.result doc.words.now c.args.doc.now.packed c.div_ceil.ensures r.1.0 r.1.1 r.2 e)) (search rules) (search rules)
