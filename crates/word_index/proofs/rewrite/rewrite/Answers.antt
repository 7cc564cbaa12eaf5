use Rattle.std.proofs.Common.{◌≡◌, ap, sym, subst, ◌∙◌, rules}
use Rattle.std.proofs.lemmas.Result.{IfOk-weaker}
use Rattle.cx_base.specs.Memory.{Always, Becomes, Words}
use Rattle.write_buffer.specs.Buffering.{Covers}
use Rattle.write_buffer.specs.declared.held.Held.{Held}
use Rattle.write_buffer.proofs.Buffered.{always_over, becomes_behind}
use Rattle.cx_base.specs.Packing.{unpacked}
use Rattle.word_index.specs.Exact.{with_rewritten}
use Rattle.word_index.specs.Rewriting.{CanRenew}
use Rattle.avl_words.proofs.Memories.{changed, storable}
use Rattle.word_index.proofs.rewrite.rewrite.Goals as goal

pub replace-requires : goal.replace-requires
replace-requires g c =
    let b = c.over-buffer.result in
    storable (search rules) (search rules) (always_over (g.M.Memory.size b.inner.now) b.held.now.count b.held.now.places b.held.now.values c.over-buffer.ensures.none
    (subst (λ m. Always (g.M.Memory.stands m) (λ ws. CanRenew ws c.args.node (unpacked c.args.doc.now.len c.args.doc.now.words.now))) (sym c.over-buffer.ensures.inner) c.requires.all))

pub returns : goal.returns
returns g c =
    let b = c.over-buffer.result in
    let f = c.replace.new.mem in
    let new = c.store_held.new.mem in
    let same : c.mem-2-1.given.0 ≡ f.inner.now = search rules in
    let h = c.held-2-1.given.0 in
    let same_held : c.held-2-1.given.0 ≡ f.held.now = search rules in
    let size : g.M.Memory.size new ≡ g.M.Memory.size f.inner.now = c.store_held.ensures.framed.size_kept ∙ ap g.M.Memory.size same in
    changed (IfOk-weaker c.store_held.result (λ _. Becomes (g.M.Memory.stands c.mem-2-1.given.0) (g.M.Memory.stands new) (Covers h.count h.places h.values)) _
    (λ _ d. subst (λ m. Becomes (g.M.Memory.stands m) (g.M.Memory.stands new) (λ old now. now ≡ with_rewritten (unpacked c.args.doc.now.len c.args.doc.now.words.now) c.args.node old)) c.over-buffer.ensures.inner
    (becomes_behind (g.M.Memory.size b.inner.now) (g.M.Memory.size f.inner.now) b.held.now.count f.held.now.count b.held.now.places b.held.now.values f.held.now.places f.held.now.values c.over-buffer.ensures.none
    (λ key now s. subst (λ n. Words n now) size (g.met.M.Memory.words new key now s))
    c.in_ok-replace.ensures.done
    (subst (λ m. Becomes (g.M.Memory.stands m) (g.M.Memory.stands new) (Covers f.held.now.count f.held.now.places f.held.now.values)) same
    (subst (λ (x : Held). Becomes (g.M.Memory.stands c.mem-2-1.given.0) (g.M.Memory.stands new) (Covers x.count x.places x.values)) same_held d))))
    c.store_held.ensures.done) (search rules) (search rules)
