use Rattle.std.proofs.Common.{◌≡◌, rules}
use Rattle.cx_base.specs.Memory.{Reads}
use Rattle.cx_base.specs.Packing.{unpacked}
use Rattle.cx_base.proofs.ReadLemmas.{Reads-weaker, Reads-then, always_read}
use Rattle.std.proofs.lemmas.Result.{IfOk-weaker}
use Rattle.avl_words.specs.Lines.{word_of}
use Rattle.doc_store.proofs.Answering.{has_node}
use Rattle.doc_store.proofs.ExactSteps.{standing_none, standing_some}
use Rattle.avl_words.proofs.Memories.{found, loadable}
use Rattle.doc_store.proofs.changes.standing_revision.Goals as goal

pub rev_at-requires : goal.rev_at-requires
rev_at-requires g c =
    let key = unpacked c.args.key.now.len c.args.key.now.words in
    loadable (search rules) (always_read c.requires.all c.in_ok-found.ensures.finds.done (λ ws i f. has_node ws key c.in_ok-found.found c.in-Some.node c.in-Some.is i f))

pub returns-in-None : goal.returns-in-None
returns-in-None g c =
    let key = unpacked c.args.key.now.len c.args.key.now.words in
    found (Reads-weaker c.in_ok-found.ensures.finds.done (λ ws f. standing_none ws key c.in_ok-found.found c.in-None.is f)) (search rules) (search rules) (search rules)

pub returns-in-Some : goal.returns-in-Some
returns-in-Some g c =
    let key = unpacked c.args.key.now.len c.args.key.now.words in
    found (IfOk-weaker c.rev_at.result (λ revision. Reads (g.M.Memory.stands c.find.new.mem) (g.M.Memory.stands c.rev_at.new.mem) (λ ws. revision ≡ word_of ws c.in-Some.node 7)) _
    (λ revision r. Reads-then c.in_ok-found.ensures.finds.done r (λ ws f d. standing_some ws key c.in_ok-found.found c.in-Some.node revision c.in-Some.is f d)) c.rev_at.ensures.done) (search rules) (search rules) (search rules)
