use Rattle.std.proofs.Common.{◌≡◌, ◌*◌, ◌<◌, ◌≤◌, ◌∙◌, get_or, refl, arith, rules}
use Rattle.std.specs.Ordering.{nat_cmp}
use Rattle.cx_base.specs.Packing.{unpacked}
use Rattle.cx_base.specs.Store.{key_cmp}
use Rattle.cx_base.proofs.MemoryLemmas.{Framed-then}
use Rattle.cx_base.proofs.ReadLemmas.{kept_then, Reads-none, Reads-load, Reads-loaded, Reads-then, always_read}
use Rattle.word_index.proofs.KeyWords.{begun_none, begun_within, begun_more, begun_tells, begun_ends}
use Rattle.avl_words.proofs.Memories.{found, loadable}
use Rattle.word_index.proofs.nodes.order_at.Goals as goal

pub loop-at-init : goal.loop-at-init
loop-at-init g c =
    let a = c.in_ok-first.ensures in
    record {
      done = Reads-load (Reads-none _ c.requires.all) a.done (λ ws p e. begun_none c.args.node c.in_ok-first.first c.args.key.now.words ws e);
      kept = a.kept;
      sized = search rules;
      framed = a.framed;
    }

pub loop-at-preserved : goal.loop-at-preserved
loop-at-preserved g c =
    let i = c.loop-at.invariant in
    let w = c.in_ok-other.ensures in
    let mine = c.args.key.now.words in
    let low : c.loop-at.at < 7 = omega (arith, c.min-at-end.ensures, c.div_ceil.ensures) in
    let same : c.in_ok-other.other ≡ get_or mine c.loop-at.at 0 = omega (arith, c.if-other-mine.false) in
    record {
      done = Reads-load i.done w.done (λ ws p e. begun_more c.args.node c.in_ok-first.first c.loop-at.at mine ws p c.in_ok-other.other low e same);
      kept = kept_then i.kept w.kept;
      sized = search rules;
      framed = Framed-then i.framed w.framed;
    }

pub word-requires-in-loop-at-clause-memory : goal.word-requires-in-loop-at-clause-memory
word-requires-in-loop-at-clause-memory g c =
    loadable (search rules) (always_read c.requires.all c.loop-at.invariant.done (λ ws h p. begun_within c.args.node c.in_ok-first.first c.loop-at.at c.args.key.now.words ws p h))

pub returns-in-Some-clause-finds : goal.returns-in-Some-clause-finds
returns-in-Some-clause-finds g c =
    let key = c.args.key.now in
    let low : c.loop-at.at < 7 = omega (arith, c.min-at-end.ensures, c.div_ceil.ensures) in
    found (Reads-load c.loop-at.invariant.done c.in_ok-other.ensures.done
    (λ ws p e. begun_tells c.args.node c.in_ok-first.first c.loop-at.at key.words ws p c.in_ok-other.other low e (λ len b. c.in-Some.order ≡ key_cmp b (unpacked key.len key.words))
    (λ these len behind same l. c.in-Some.ensures these key.words len behind same l refl))) (search rules) (search rules) (search rules)

pub returns-in-None-clause-finds : goal.returns-in-None-clause-finds
returns-in-None-clause-finds g c =
    let key = c.args.key.now in
    let low : c.loop-at.at < 7 = omega (arith, c.min-at-end.ensures, c.div_ceil.ensures) in
    found (Reads-then (Reads-loaded c.loop-at.invariant.done c.in_ok-other.ensures.done) c.in_ok-short-in-None.ensures.done
    (λ ws pe s pair is. s pair is ∙ begun_tells c.args.node c.in_ok-first.first c.loop-at.at key.words ws pe.0 c.in_ok-other.other low pe.1 (λ len b. nat_cmp len key.len ≡ key_cmp b (unpacked key.len key.words))
    (λ these len behind same l. c.in-None.ensures these key.words len behind same l refl) pair is)) (search rules) (search rules) (search rules)

pub returns-then-key-le56-clause-finds : goal.returns-then-key-le56-clause-finds
returns-then-key-le56-clause-finds g c =
    let key = c.args.key.now in
    let at = c.loop-at.at in
    let few : at ≤ 8 = omega (arith, c.min-at-end.ensures, c.div_ceil.ensures) in
    let ends : key.len ≤ 8 * at = omega (arith, c.min-at-end.ensures, c.div_ceil.ensures, c.loop-at-test.false, c.if-key-le56.true) in
    found (Reads-then c.loop-at.invariant.done c.in_ok-ended.ensures.done
    (λ ws p s pair is. s pair is ∙ begun_ends c.args.node c.in_ok-first.first at key.words ws p key.len few ends pair is)) (search rules) (search rules) (search rules)
