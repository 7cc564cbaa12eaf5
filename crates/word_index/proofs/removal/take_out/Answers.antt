use Rattle.std.proofs.Common.{◌≡◌, ap, sym, subst, ◌∙◌, rules}
use Rattle.std.proofs.lemmas.Result.{IfOk-weaker}
use Rattle.cx_base.specs.Memory.{Always, Becomes, Words}
use Rattle.write_buffer.specs.Buffering.{Covers}
use Rattle.write_buffer.specs.declared.held.Held.{Held}
use Rattle.write_buffer.proofs.Buffered.{always_over, becomes_behind}
use Rattle.word_index.specs.Removal.{CanCut, TakesOut}
use Rattle.avl_words.proofs.Memories.{changed, storable}
use Rattle.word_index.proofs.removal.take_out.Goals as goal

pub cut_pair-requires : goal.cut_pair-requires
cut_pair-requires g c =
    let b = c.over-buffer.result in
    storable (search rules) (search rules) (always_over (g.M.Memory.size b.inner.now) b.held.now.count b.held.now.places b.held.now.values c.over-buffer.ensures.none
    (subst (λ m. Always (g.M.Memory.stands m) (λ ws. CanCut ws c.args.way.now.nodes c.args.way.now.sides c.args.way.now.depth c.args.node)) (sym c.over-buffer.ensures.inner) c.requires.all))

pub returns : goal.returns
returns g c =
    let b = c.over-buffer.result in
    let f = c.cut_pair.new.mem in
    let new = c.store_held.new.mem in
    let same : c.mem-2-1.given.0 ≡ f.inner.now = search rules in
    let h = c.held-2-1.given.0 in
    let same_held : c.held-2-1.given.0 ≡ f.held.now = search rules in
    let size : g.M.Memory.size new ≡ g.M.Memory.size f.inner.now = c.store_held.ensures.framed.size_kept ∙ ap g.M.Memory.size same in
    changed (IfOk-weaker c.store_held.result (λ _. Becomes (g.M.Memory.stands c.mem-2-1.given.0) (g.M.Memory.stands new) (Covers h.count h.places h.values)) _
    (λ _ d. subst (λ m. Becomes (g.M.Memory.stands m) (g.M.Memory.stands new) (TakesOut c.args.way.now.nodes c.args.way.now.sides c.args.way.now.depth c.args.node)) c.over-buffer.ensures.inner
    (becomes_behind (g.M.Memory.size b.inner.now) (g.M.Memory.size f.inner.now) b.held.now.count f.held.now.count b.held.now.places b.held.now.values f.held.now.places f.held.now.values c.over-buffer.ensures.none
    (λ key now s. subst (λ n. Words n now) size (g.met.M.Memory.words new key now s))
    c.in_ok-cut_pair.ensures.done
    (subst (λ m. Becomes (g.M.Memory.stands m) (g.M.Memory.stands new) (Covers f.held.now.count f.held.now.places f.held.now.values)) same
    (subst (λ (x : Held). Becomes (g.M.Memory.stands c.mem-2-1.given.0) (g.M.Memory.stands new) (Covers x.count x.places x.values)) same_held d))))
    c.store_held.ensures.done) (search rules) (search rules)
