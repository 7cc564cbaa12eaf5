use Rattle.std.proofs.Common.{refl, sym, subst, rules}
use Rattle.cx_base.specs.Packing.{unpacked}
use Rattle.cx_base.proofs.MemoryLemmas.{Becomes-store, always_after}
use Rattle.avl_words.specs.Lines.{IsWithin}
use Rattle.word_index.proofs.DocumentRuns.{replaced_here, replaced_runs}
use Rattle.avl_words.proofs.Memories.{changed, storable}
use Rattle.word_index.proofs.insertion.write_at.Goals as goal

pub put-requires-clause-memory : goal.put-requires-clause-memory
put-requires-clause-memory g c =
    let doc = c.args.doc.now in
    storable (search rules) (search rules) (always_after c.requires.memory.all c.in_ok-exchange.ensures.done
    (λ x y h e. subst (λ u. IsWithin u c.args.node) (sym e) (replaced_here x c.args.node doc.len doc.words.now doc.packed (h.over c.if-node-eq0.false).can)))

pub returns : goal.returns
returns g c =
    let d = unpacked c.args.doc.now.len c.args.doc.now.words.now in
    changed (Becomes-store c.in_ok-exchange.ensures.done c.in_ok-put.ensures.done (λ first x y s e. record {
      new = λ z. absurd (c.if-node-eq0.false z);
      over = λ ne. (refl, replaced_runs x y c.args.node c.args.revision d e);
    })) (search rules) (search rules)
