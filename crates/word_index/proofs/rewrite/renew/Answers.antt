use Rattle.std.proofs.Common.{◌≡◌, ◌+◌, ◌*◌, ◌∙◌, ap, ℕ, List, refl, sym, subst, rules}
use Rattle.cx_base.specs.Packing.{unpacked}
use Rattle.cx_base.specs.Memory.{Becomes, Stored}
use Rattle.cx_base.proofs.MemoryLemmas.{Becomes-store, Becomes-always, always_after, Becomes-both}
use Rattle.cx_base.proofs.ReadLemmas.{Reads-none, Becomes-from-read}
use Rattle.avl_words.specs.Lines.{with_word, IsWithin}
use Rattle.word_index.specs.Changes.{LooseChain}
use Rattle.word_index.specs.Exact.{with_chain_given, with_renewed}
use Rattle.word_index.proofs.DocumentChanges.{node_here}
use Rattle.word_index.proofs.DocumentRuns.{bare_here, renew_chain, renew_room, renew_node, named_here, renew_runs}
use Rattle.avl_words.proofs.Memories.{changed, storable}
use Rattle.word_index.proofs.rewrite.renew.Goals as goal

-- two words stored, in words of which something is known
bared : {Key : Type 0} {a b d : Key → List ℕ → Type 0} {P : List ℕ → Type 0} (node : ℕ) → ((first : Key) (now : List ℕ) → a first now → P now) → Stored (8 * node + 5) 0 a b → Stored (8 * node + 6) 0 b d → Becomes a d (λ x y. P x × (y ≡ with_word node 6 0 (with_word node 5 0 x)))
bared {P = P} node all s t =
    Becomes-store {R = λ x y. P x × (y ≡ with_word node 5 0 x)}
    (Becomes-store {S = λ x y. P x × (y ≡ with_word node 5 0 x)} (Becomes-from-read (Reads-none _ all)) s (λ first x y m r. (subst P r.0 r.1, ap (with_word node 5 0) r.0)))
    t (λ first x y m r. (r.0, ap (with_word node 6 0) r.1))

pub put-requires-clause-memory : goal.put-requires-clause-memory
put-requires-clause-memory g c = storable (search rules) (search rules) (λ first now s. node_here now c.args.node _ (c.requires.all first now s).can)

pub put-requires-2-clause-memory : goal.put-requires-2-clause-memory
put-requires-2-clause-memory g c =
    let doc = c.args.doc.now in
    storable (search rules) (search rules) (always_after c.requires.all (Becomes-store (Becomes-from-read (Reads-none _ c.requires.all)) c.in_ok-put.ensures.done (λ first x y m r. ap (with_word c.args.node 5 0) r.0))
    (λ x z h e. subst (λ u. IsWithin u c.args.node) (sym e) (bare_here x c.args.node c.args.first c.args.count (unpacked doc.len doc.words.now) h)))

pub give_chain-requires : goal.give_chain-requires
give_chain-requires g c =
    let doc = c.args.doc.now in
    storable (search rules) (search rules) (Becomes-always (bared c.args.node c.requires.all c.in_ok-put.ensures.done c.in_ok-put-2.ensures.done)
    (λ x z r. subst (λ u. LooseChain u c.args.first c.args.count) (sym r.1) (renew_chain x c.args.node c.args.first c.args.count (unpacked doc.len doc.words.now) r.0)))

pub write_text-requires-clause-memory : goal.write_text-requires-clause-memory
write_text-requires-clause-memory g c =
    let doc = c.args.doc.now in
    storable (search rules) (search rules) (Becomes-always (Becomes-both (bared c.args.node c.requires.all c.in_ok-put.ensures.done c.in_ok-put-2.ensures.done) c.in_ok-give_chain.ensures.exact)
    (λ x z r. renew_room x z c.args.node c.args.first c.args.count doc.len c.div_ceil.result doc.words.now r.1.0 (r.2 ∙ ap (with_chain_given c.args.count c.args.first) r.1.1) c.div_ceil.ensures))

pub put-requires-3-clause-memory : goal.put-requires-3-clause-memory
put-requires-3-clause-memory g c =
    let doc = c.args.doc.now in
    storable (search rules) (search rules) (Becomes-always (Becomes-both (Becomes-both (bared c.args.node c.requires.all c.in_ok-put.ensures.done c.in_ok-put-2.ensures.done) c.in_ok-give_chain.ensures.exact) c.in_ok-text.ensures.exact)
    (λ x w r. renew_node x r.0 w c.args.node c.args.first c.args.count doc.len c.div_ceil.result c.in_ok-text.text doc.words.now c.args.doc.now.packed r.1.1.0 (r.1.2 ∙ ap (with_chain_given c.args.count c.args.first) r.1.1.1) c.div_ceil.ensures r.2))

pub put-requires-4-clause-memory : goal.put-requires-4-clause-memory
put-requires-4-clause-memory g c =
    let doc = c.args.doc.now in
    storable (search rules) (search rules) (Becomes-always (Becomes-store (Becomes-both (Becomes-both (bared c.args.node c.requires.all c.in_ok-put.ensures.done c.in_ok-put-2.ensures.done) c.in_ok-give_chain.ensures.exact) c.in_ok-text.ensures.exact) c.in_ok-put-3.ensures.done
    (λ first x w s r.
    named_here w c.args.node c.in_ok-text.text (renew_node x r.0 w c.args.node c.args.first c.args.count doc.len c.div_ceil.result c.in_ok-text.text doc.words.now c.args.doc.now.packed r.1.1.0 (r.1.2 ∙ ap (with_chain_given c.args.count c.args.first) r.1.1.1) c.div_ceil.ensures r.2)))
    (λ x v h. h))

pub returns : goal.returns
returns g c =
    let doc = c.args.doc.now in
    let node = c.args.node in
    changed (Becomes-store (Becomes-store {S = λ x u. with_word node 6 doc.len u ≡ with_renewed (unpacked doc.len doc.words.now) node x}
    (Becomes-both (Becomes-both (bared node c.requires.all c.in_ok-put.ensures.done c.in_ok-put-2.ensures.done) c.in_ok-give_chain.ensures.exact) c.in_ok-text.ensures.exact) c.in_ok-put-3.ensures.done
    (λ first x w s r.
    renew_runs x r.0 w (with_word node 6 doc.len (with_word node 5 c.in_ok-text.text w)) node c.args.first c.args.count doc.len c.div_ceil.result c.in_ok-text.text doc.words.now c.args.doc.now.packed r.1.1.0 (r.1.2 ∙ ap (with_chain_given c.args.count c.args.first) r.1.1.1) c.div_ceil.ensures
    r.2 refl)) c.in_ok-put-4.ensures.done
    (λ first x u s q. q)) (search rules) (search rules)
