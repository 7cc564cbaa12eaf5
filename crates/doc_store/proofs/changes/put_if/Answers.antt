use Rattle.std.proofs.Common.{rules}
use Rattle.cx_base.specs.Memory.{Becomes}
use Rattle.cx_base.specs.Packing.{unpacked}
use Rattle.cx_base.proofs.MemoryLemmas.{Becomes-weaker, Becomes-then}
use Rattle.cx_base.proofs.ReadLemmas.{Becomes-from-read, always_read}
use Rattle.doc_model.specs.Meaning.{set_reply}
use Rattle.doc_store.specs.ExactStep.{Exactly}
use Rattle.index_validation.specs.Reading.{revised_in}
use Rattle.word_index.specs.Exact.{with_document}
use Rattle.std.proofs.lemmas.Result.{IfOk-weaker}
use Rattle.doc_store.proofs.ExactSteps.{stale_runs, current_runs}
use Rattle.avl_words.proofs.Memories.{changed, storable}
use Rattle.doc_store.proofs.changes.put_if.Goals as goal

pub set-requires : goal.set-requires
set-requires g c = record {
  may = record {
    memory = storable (search rules) (search rules) (always_read c.requires.may.memory.all c.in_ok-standing.ensures.done (λ ws i n. i));
    lines_are = search rules;
    zero = search rules;
  };
  pair = c.requires.pair;
}

pub returns-then-standing-revision : goal.returns-then-standing-revision
returns-then-standing-revision g c =
    let key = unpacked c.args.key.now.len c.args.key.now.words in
    let document = unpacked c.args.doc.now.len c.args.doc.now.words.now in
    changed (Becomes-weaker (Becomes-from-read c.in_ok-standing.ensures.done) (λ first x y s r.
    stale_runs c.args.lines x y key document c.number_reply.new.reply c.args.revision c.in_ok-standing.standing r.0 r.1 c.if-standing-revision.true c.number_reply.ensures)) (search rules) (search rules)

pub returns : goal.returns
returns g c =
    let key = unpacked c.args.key.now.len c.args.key.now.words in
    let document = unpacked c.args.doc.now.len c.args.doc.now.words.now in
    changed (IfOk-weaker c.set.result (λ _. Becomes (g.M.Memory.stands c.standing_revision.new.mem) (g.M.Memory.stands c.set.new.mem) (Exactly (λ ws. set_reply c.args.lines (revised_in ws) key document) (with_document key document) c.set.new.reply)) _
    (λ _ b. Becomes-then (Becomes-from-read c.in_ok-standing.ensures.done) b (λ x y z r d.
    current_runs c.args.lines x y key document c.set.new.reply c.args.revision c.in_ok-standing.standing r.0 r.1 z c.if-standing-revision.false d)) c.set.ensures.done) (search rules) (search rules)
