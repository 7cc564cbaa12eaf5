use Rattle.std.proofs.Common.{◌≡◌, ℕ, List, rules}
use Rattle.cx_base.specs.Memory.{Becomes}
use Rattle.cx_base.specs.Packing.{unpacked}
use Rattle.cx_base.proofs.MemoryLemmas.{Becomes-then}
use Rattle.cx_base.proofs.ReadLemmas.{Becomes-from-read, always_read}
use Rattle.doc_model.specs.Revisions.{next_revision}
use Rattle.index_validation.specs.Reading.{revised_in}
use Rattle.word_index.specs.Insertion.{PutsDocument}
use Rattle.doc_store.specs.StoreLaws.{lines_are}
use Rattle.doc_store.proofs.ExactSteps.{set_runs}
use Rattle.avl_words.proofs.Memories.{changed, storable}
use Rattle.doc_store.proofs.changes.set.Goals as goal

pub insert-requires-clause-memory : goal.insert-requires-clause-memory
insert-requires-clause-memory g c = storable (search rules) (search rules) (always_read c.requires.may.memory.all c.in_ok-revision.ensures.done (λ ws i n. i))

pub returns : goal.returns
returns g c =
    let key = unpacked c.args.key.now.len c.args.key.now.words in
    let document = unpacked c.args.doc.now.len c.args.doc.now.words.now in
    let m = c.args.mem.now in
    let ran : Becomes (g.M.Memory.stands m) (g.M.Memory.stands c.insert.new.mem) (λ x z. (y : List ℕ) × ((y ≡ x) × (c.in_ok-revision.revision ≡ next_revision (revised_in y).last)) × PutsDocument key document c.in_ok-inserted.inserted y z) =
    Becomes-then (Becomes-from-read c.in_ok-revision.ensures.done) c.in_ok-inserted.ensures.changes.done (λ x y z r d. (y, r, d)) in
    changed (record {
      from = λ first now s. (
          let p = ran.from first now s in
          let put = p.2 in (
            p.0,
            p.1,
            set_runs c.args.lines p.0 put.0 now c.set_reply.new.reply key document c.in_ok-revision.revision c.in_ok-inserted.inserted
                (lines_are p.0 (g.M.Memory.size m) c.args.lines (g.met.M.Memory.words m first p.0 p.1).long c.requires.may.lines_are) put.1.0 put.1.1 put.2 c.set_reply.ensures,
          ));
    }) (search rules) (search rules)
