use Rattle.std.proofs.Common.{rules}
use Rattle.cx_base.specs.Packing.{unpacked}
use Rattle.cx_base.proofs.ReadLemmas.{Reads-weaker, Reads-then, always_read}
use Rattle.doc_store.proofs.Answering.{has_node, rev_none, rev_some}
use Rattle.avl_words.proofs.Memories.{found, loadable}
use Rattle.doc_store.proofs.readings.rev.Goals as goal

pub rev_at-requires : goal.rev_at-requires
rev_at-requires g c =
    let key = unpacked c.args.key.now.len c.args.key.now.words in
    loadable (search rules) (always_read c.requires.memory.all c.in_ok-found.ensures.finds.done (λ ws i f. has_node ws key c.in_ok-found.found c.in-Some.node c.in-Some.is i f))

pub returns-in-None : goal.returns-in-None
returns-in-None g c =
    let key = unpacked c.args.key.now.len c.args.key.now.words in
    found (Reads-weaker c.in_ok-found.ensures.finds.done (λ ws f. rev_none ws key c.kind_reply.new.reply c.in_ok-found.found c.in-None.is c.kind_reply.ensures f)) (search rules) (search rules) (search rules)

pub returns-in_ok-rev_at-in-Some : goal.returns-in_ok-rev_at-in-Some
returns-in_ok-rev_at-in-Some g c =
    let key = unpacked c.args.key.now.len c.args.key.now.words in
    found (Reads-then c.in_ok-found.ensures.finds.done c.in_ok-rev_at-in-Some.ensures.done (λ ws f d. rev_some ws key c.number_reply.new.reply c.in_ok-found.found c.in-Some.node c.in_ok-rev_at-in-Some.field-0 c.in-Some.is c.number_reply.ensures f d)) (search rules) (search rules) (search rules)
