use Rattle.std.proofs.Common.{rules}
use Rattle.cx_base.specs.Packing.{unpacked}
use Rattle.cx_base.proofs.MemoryLemmas.{Becomes-then, Becomes-weaker}
use Rattle.cx_base.proofs.ReadLemmas.{always_read, Reads-with, Becomes-from-read}
use Rattle.word_index.proofs.Cutting.{can_cut, visits_read, removal_runs, no_removal_runs}
use Rattle.avl_words.proofs.Memories.{changed, storable}
use Rattle.word_index.proofs.removal.remove.Goals as goal

pub returns-then-end-eq0-clause-changes : goal.returns-then-end-eq0-clause-changes
returns-then-end-eq0-clause-changes g c =
    let way = c.seek_place.new.way in
    let end = c.in_ok-end.end in
    let key = unpacked c.args.key.now.len c.args.key.now.words in
    changed (Becomes-weaker (Becomes-from-read (Reads-with c.requires.all c.in_ok-end.ensures.finds.done)) (λ first x y s r. no_removal_runs x y key way.nodes way.sides way.depth end.node end.above r.1.0 r.0 r.1.1 c.if-end-eq0.true)) (search rules) (search rules)

pub returns-then-end-eq0-clause-visits : goal.returns-then-end-eq0-clause-visits
returns-then-end-eq0-clause-visits g c =
    visits_read c.in_ok-end.ensures.finds.kept c.in_ok-end.ensures.visits.few

pub take_out-requires : goal.take_out-requires
take_out-requires g c =
    let way = c.seek_place.new.way in
    let end = c.in_ok-end.end in
    let key = unpacked c.args.key.now.len c.args.key.now.words in
    storable (search rules) (search rules) (always_read c.requires.all c.in_ok-end.ensures.finds.done (λ ws i s. can_cut ws key way.nodes way.sides way.depth end.node end.above s i c.if-end-eq0.false))

pub returns-clause-changes : goal.returns-clause-changes
returns-clause-changes g c =
    let way = c.seek_place.new.way in
    let end = c.in_ok-end.end in
    let key = unpacked c.args.key.now.len c.args.key.now.words in
    changed (Becomes-then (Becomes-from-read (Reads-with c.requires.all c.in_ok-end.ensures.finds.done)) c.in_ok-take_out.ensures.done
    (λ x y v r t. removal_runs x y t.0 v key way.nodes way.sides way.depth end.node end.above r.1.0 r.0 r.1.1 c.if-end-eq0.false t.1 t.2)) (search rules) (search rules)

pub returns-clause-visits : goal.returns-clause-visits
returns-clause-visits g c =
    Becomes-then (visits_read c.in_ok-end.ensures.finds.kept c.in_ok-end.ensures.visits.few) c.in_ok-take_out.ensures.done (λ x y v r t. r)
