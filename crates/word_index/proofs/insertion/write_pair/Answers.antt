use Rattle.std.proofs.Common.{◌≡◌, ◌+◌, ℕ, List, refl, arith, rules}
use Rattle.std.specs.Int.{div_ceil}
use Rattle.cx_base.specs.Packing.{unpacked}
use Rattle.cx_base.specs.Store.{pair_lines}
use Rattle.cx_base.proofs.MemoryLemmas.{Becomes-then, always_after, Becomes-both}
use Rattle.word_index.proofs.ExactRuns.{new_pair_runs}
use Rattle.word_index.proofs.Putting.{length_unpacked, room_less, room_after_line, room_after_text, node_still, pair_written}
use Rattle.word_index.specs.Fresh.{CanTake}
use Rattle.avl_words.proofs.Memories.{changed, storable}
use Rattle.word_index.proofs.insertion.write_pair.Goals as goal

-- the room is that of the node, of the key's blocks and of the document's
parts : (ws : List ℕ) (key_len doc_len count other : ℕ) (key_words doc_words : List ℕ) → count ≡ div_ceil key_len 56 → other ≡ div_ceil doc_len 56 →
    CanTake ws (pair_lines (unpacked key_len key_words, unpacked doc_len doc_words)) → CanTake ws (1 + (count + other))
parts ws key_len doc_len count other key_words doc_words c d room =
    room_less ws (pair_lines (unpacked key_len key_words, unpacked doc_len doc_words)) (1 + (count + other)) (omega (arith, c, d, length_unpacked key_len key_words, length_unpacked doc_len doc_words)) room

key_part : (ws : List ℕ) (key_len doc_len count : ℕ) (key_words doc_words : List ℕ) → count ≡ div_ceil key_len 56 →
    CanTake ws (pair_lines (unpacked key_len key_words, unpacked doc_len doc_words)) → CanTake ws (1 + (count + div_ceil doc_len 56))
key_part ws key_len doc_len count key_words doc_words c room = parts ws key_len doc_len count (div_ceil doc_len 56) key_words doc_words c refl room

pub write_text-requires-clause-memory : goal.write_text-requires-clause-memory
write_text-requires-clause-memory g c =
    let key = c.args.key.now in
    let doc = c.args.doc.now in
    let count = c.div_ceil.result in
    storable (search rules) (search rules) (always_after c.requires.memory.all c.in_ok-node.ensures.changes.done (λ x y h t. room_less y (count + div_ceil doc.len 56) count (omega arith)
    (room_after_line x y c.in_ok-node.node (count + div_ceil doc.len 56) (key_part x key.len doc.len count key.words doc.words.now c.div_ceil.ensures h) t)))

pub write_text-requires-2-clause-memory : goal.write_text-requires-2-clause-memory
write_text-requires-2-clause-memory g c =
    let key = c.args.key.now in
    let doc = c.args.doc.now in
    let count = c.div_ceil.result in
    let other = c.div_ceil-2.result in
    storable (search rules) (search rules) (always_after c.requires.memory.all (Becomes-both c.in_ok-node.ensures.changes.done c.in_ok-key_first.ensures.changes.done) (λ x z h t.
    room_after_text t.0 z key.words count c.in_ok-key_first.key_first other
    (room_after_line x t.0 c.in_ok-node.node (count + other) (parts x key.len doc.len count other key.words doc.words.now c.div_ceil.ensures c.div_ceil-2.ensures h) t.1) t.2))

pub put_line-requires : goal.put_line-requires
put_line-requires g c =
    let key = c.args.key.now in
    let doc = c.args.doc.now in
    let count = c.div_ceil.result in
    let other = c.div_ceil-2.result in
    storable (search rules) (search rules) (always_after c.requires.memory.all (Becomes-both (Becomes-both c.in_ok-node.ensures.changes.done c.in_ok-key_first.ensures.changes.done) c.in_ok-doc_first.ensures.changes.done) (λ x w h t.
    node_still x t.1.0 t.0 w c.in_ok-node.node count other c.in_ok-key_first.key_first c.in_ok-doc_first.doc_first key.words doc.words.now
    (parts x key.len doc.len count other key.words doc.words.now c.div_ceil.ensures c.div_ceil-2.ensures h) t.1.1 t.1.2 t.2))

pub returns-clause-changes : goal.returns-clause-changes
returns-clause-changes g c =
    let key = c.args.key.now in
    let doc = c.args.doc.now in
    let count = c.div_ceil.result in
    let other = c.div_ceil-2.result in
    changed (Becomes-then (Becomes-both (Becomes-both c.in_ok-node.ensures.changes.done c.in_ok-key_first.ensures.changes.done) c.in_ok-doc_first.ensures.changes.done) c.in_ok-put_line.ensures.changes.done (λ x w v t f.
    pair_written x t.1.0 t.0 w v c.in_ok-node.node count other c.in_ok-key_first.key_first c.in_ok-doc_first.doc_first key.len doc.len c.args.revision key.words doc.words.now
    c.requires.key c.args.doc.now.packed c.div_ceil.ensures c.div_ceil-2.ensures t.1.1 t.1.2 t.2 f)) (search rules) (search rules)

pub returns-clause-exact : goal.returns-clause-exact
returns-clause-exact g c =
    let key = c.args.key.now in
    let doc = c.args.doc.now in
    let count = c.div_ceil.result in
    let other = c.div_ceil-2.result in
    Becomes-then (Becomes-both (Becomes-both c.in_ok-node.ensures.exact c.in_ok-key_first.ensures.exact) c.in_ok-doc_first.ensures.exact) c.in_ok-put_line.ensures.exact (λ x w v t f.
    new_pair_runs c.in_ok-node.node c.in_ok-key_first.key_first c.in_ok-doc_first.doc_first key.len doc.len c.args.revision count other key.words doc.words.now x t.1.0 t.0 w v
    c.requires.key c.args.doc.now.packed c.div_ceil.ensures c.div_ceil-2.ensures t.1.1 t.1.2 t.2 f)
