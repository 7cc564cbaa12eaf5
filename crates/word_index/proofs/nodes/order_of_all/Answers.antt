use Rattle.std.proofs.Common.{◌≡◌, ◌+◌, ◌*◌, ◌/◌, ◌<◌, ◌≤◌, ◌⊎◌, inl, inr, get_or, arith, rules}
use Rattle.std.proofs.lemmas.Bool.{cases_lt}
use Rattle.cx_base.proofs.MemoryLemmas.{Framed-then}
use Rattle.cx_base.proofs.ReadLemmas.{kept_then, Reads-none, Reads-load, Reads-loaded, Reads-then, Reads-weaker, always_read}
use Rattle.word_index.proofs.KeyWords.{compared_none, compared_chain, compared_more, compared_apart, compared_ends}
use Rattle.avl_words.proofs.Memories.{found, loadable}
use Rattle.word_index.proofs.nodes.order_of_all.Goals as goal

pub loop-at-init : goal.loop-at-init
loop-at-init g c =
    let a = c.in_ok-first.ensures in
    let b = c.in_ok-len.ensures in
    record {
      done = Reads-load (Reads-loaded (Reads-none _ c.requires.all) a.done) b.done (λ ws p e. compared_none c.args.node c.in_ok-first.first c.in_ok-len.len c.args.key.now.words ws p.1 e);
      kept = kept_then a.kept b.kept;
      sized = search rules;
      framed = Framed-then a.framed b.framed;
    }

pub loop-at-preserved : goal.loop-at-preserved
loop-at-preserved g c =
    let i = c.loop-at.invariant in
    let w = c.in_ok-other.ensures in
    let mine = c.args.key.now.words in
    let below : c.loop-at.at < (c.in_ok-len.len + 7) / 8 = omega (arith, c.min.ensures, c.div_ceil-at-end.ensures) in
    let same : c.in_ok-other.other ≡ get_or mine c.loop-at.at 0 = omega (arith, c.if-other-mine.false) in
    record {
      done = Reads-then i.done w.done (λ ws p q. compared_more c.args.node c.in_ok-first.first c.in_ok-len.len c.loop-at.at mine ws p c.in_ok-other.other below q same);
      kept = kept_then i.kept w.kept;
      sized = search rules;
      framed = Framed-then i.framed w.framed;
    }

pub early_word-requires-clause-memory : goal.early_word-requires-clause-memory
early_word-requires-clause-memory g c =
    let below : c.loop-at.at < (c.in_ok-len.len + 7) / 8 = omega (arith, c.min.ensures, c.div_ceil-at-end.ensures) in
    loadable (search rules) (always_read c.requires.all c.loop-at.invariant.done (λ ws h p. compared_chain c.args.node c.in_ok-first.first c.in_ok-len.len c.loop-at.at c.args.key.now.words ws p h below))

pub returns-then-other-mine : goal.returns-then-other-mine
returns-then-other-mine g c =
    let key = c.args.key.now in
    let below : c.loop-at.at < (c.in_ok-len.len + 7) / 8 = omega (arith, c.min.ensures, c.div_ceil-at-end.ensures) in
    let few : c.loop-at.at < 8 = omega (arith, c.min.ensures, c.div_ceil-at-end.ensures, c.args.key.now.short) in
    found (Reads-then c.loop-at.invariant.done c.in_ok-other.ensures.done
    (λ ws p q. compared_apart c.args.node c.in_ok-first.first c.in_ok-len.len c.loop-at.at key.words ws p c.in_ok-other.other below q key.len c.order_apart.result few c.order_apart.ensures)) (search rules) (search rules) (search rules)

pub returns : goal.returns
returns g c =
    let key = c.args.key.now in
    let len = c.in_ok-len.len in
    let at = c.loop-at.at in
    let few : at ≤ 8 = omega (arith, c.min.ensures, c.div_ceil-at-end.ensures, c.args.key.now.short) in
    let ends : len ≤ 8 * at ⊎ key.len ≤ 8 * at = elim (cases_lt key.len len) [
      | inl h ↦ inr (omega (arith, c.min.ensures, c.div_ceil-at-end.ensures, c.loop-at-test.false, h))
      | inr h ↦ inl (omega (arith, c.min.ensures, c.div_ceil-at-end.ensures, c.loop-at-test.false, h))
    ] in
    found (Reads-weaker c.loop-at.invariant.done (λ ws p. compared_ends c.args.node c.in_ok-first.first len at key.words ws p key.len c.cmp.result few ends c.cmp.ensures)) (search rules) (search rules) (search rules)
