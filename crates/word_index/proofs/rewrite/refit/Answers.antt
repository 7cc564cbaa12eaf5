use Rattle.std.proofs.Common.{◌≡◌, refl, rules}
use Rattle.cx_base.specs.Packing.{unpacked}
use Rattle.cx_base.specs.Memory.{Becomes}
use Rattle.cx_base.specs.Store.{blocks}
use Rattle.cx_base.proofs.MemoryLemmas.{Becomes-then}
use Rattle.std.proofs.lemmas.Result.{IfOk-weaker}
use Rattle.cx_base.proofs.ReadLemmas.{Reads-weaker, Reads-none, Reads-loaded, Becomes-from-read}
use Rattle.avl_words.proofs.Memories.{always_said, changed, storable, loadable}
use Rattle.word_index.specs.Exact.{with_refilled}
use Rattle.word_index.proofs.DocumentChanges.{node_here}
use Rattle.word_index.proofs.DocumentRuns.{rewrite_refills}
use Rattle.word_index.proofs.rewrite.refit.Goals as goal

pub word-requires-clause-memory : goal.word-requires-clause-memory
word-requires-clause-memory g c = loadable (search rules) (λ first now s. node_here now c.args.node _ (c.requires.all first now s).can)

pub refill-requires : goal.refill-requires
refill-requires g c =
    storable (search rules) (search rules) (always_said (Reads-weaker (Reads-loaded (Reads-none _ c.requires.all) c.in_ok-first.ensures.done) (λ ws p. record {
      can = p.0.can;
      first_is = p.1;
      counted = p.0.alike;
    })))

pub returns : goal.returns
returns g c =
    let doc = c.args.doc.now in
    let d = unpacked doc.len doc.words.now in
    let r = Reads-loaded (Reads-none _ c.requires.all) c.in_ok-first.ensures.done in
    changed (IfOk-weaker c.refill.result (λ _. Becomes (g.M.Memory.stands c.word.new.mem) (g.M.Memory.stands c.refill.new.mem) (λ old now. now ≡ with_refilled d c.args.node old)) _
    (λ _ b. Becomes-then (Becomes-from-read r) b (λ x y z p q. rewrite_refills x y z c.args.node (blocks d) d p.0 p.1.0.alike refl q))
    c.refill.ensures.done) (search rules) (search rules)
