use Rattle.std.proofs.Common.{◌≡◌, ◌∙◌, rules}
use Rattle.cx_base.specs.Packing.{unpacked}
use Rattle.cx_base.specs.Memory.{Becomes}
use Rattle.cx_base.proofs.MemoryLemmas.{Becomes-then}
use Rattle.std.proofs.lemmas.Result.{IfOk-weaker}
use Rattle.cx_base.proofs.ReadLemmas.{Reads-weaker, Reads-none, Reads-loaded, Becomes-from-read}
use Rattle.avl_words.proofs.Memories.{always_said, changed, storable, loadable}
use Rattle.word_index.specs.Exact.{with_renewed}
use Rattle.word_index.proofs.DocumentChanges.{node_here}
use Rattle.word_index.proofs.DocumentRuns.{old_counted, rewrite_renews}
use Rattle.word_index.proofs.rewrite.replace.Goals as goal

pub word-requires-clause-memory : goal.word-requires-clause-memory
word-requires-clause-memory g c = loadable (search rules) (λ first now s. node_here now c.args.node _ (c.requires.all first now s).can)

pub word-requires-2-clause-memory : goal.word-requires-2-clause-memory
word-requires-2-clause-memory g c = loadable (search rules) (always_said (Reads-weaker (Reads-loaded (Reads-none _ c.requires.all) c.in_ok-first.ensures.done) (λ ws p. node_here ws c.args.node _ p.0.can)))

pub renew-requires : goal.renew-requires
renew-requires g c =
    storable (search rules) (search rules) (always_said (Reads-weaker (Reads-loaded (Reads-loaded (Reads-none _ c.requires.all) c.in_ok-first.ensures.done) c.in_ok-word.ensures.done) (λ ws p. record {
      can = p.0.0.can;
      first_is = p.0.1;
      counted = old_counted ws c.args.node c.in_ok-word.field-0 c.div_ceil-count.result p.1 c.div_ceil-count.ensures;
    })))

pub returns : goal.returns
returns g c =
    let doc = c.args.doc.now in
    let d = unpacked doc.len doc.words.now in
    let r = Reads-loaded (Reads-loaded (Reads-none _ c.requires.all) c.in_ok-first.ensures.done) c.in_ok-word.ensures.done in
    changed (IfOk-weaker c.renew.result (λ _. Becomes (g.M.Memory.stands c.word-2.new.mem) (g.M.Memory.stands c.renew.new.mem) (λ old now. now ≡ with_renewed d c.args.node old)) _
    (λ _ b. Becomes-then (Becomes-from-read r) b (λ x y z p q. (
    let counted = old_counted y c.args.node c.in_ok-word.field-0 c.div_ceil-count.result p.1.1 c.div_ceil-count.ensures in
    rewrite_renews x y z c.args.node c.div_ceil-count.result d p.0 counted (λ same. p.1.0.0.unlike (counted ∙ same)) q)))
    c.renew.ensures.done) (search rules) (search rules)
