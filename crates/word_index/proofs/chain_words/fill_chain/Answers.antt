use Rattle.std.proofs.Common.{◌≡◌, ◌+◌, ◌-◌, suc, subst, rules, arith}
use Rattle.cx_base.proofs.MemoryLemmas.{Becomes-same, Becomes-then, Becomes-weaker, Becomes-loaded, always_after, Framed-same, Framed-then}
use Rattle.cx_base.proofs.ReadLemmas.{Reads-none, Reads-loaded, Reads-weaker}
use Rattle.avl_words.proofs.Memories.{always_said, changed, loadable, storable}
use Rattle.word_index.specs.Exact.{with_chain_filled}
use Rattle.word_index.specs.Rewriting.{HasLines}
use Rattle.word_index.proofs.FilledChains.{line_there, lines_on, fill_begins, fill_goes_on, fill_ends}
use Rattle.word_index.proofs.chain_words.fill_chain.Goals as goal

pub loop-j-init : goal.loop-j-init
loop-j-init g c = record {
  there = (let e : c.args.count ≡ c.args.count - 0 = omega arith in λ first now s. subst (HasLines now c.args.first) e (c.requires.memory.all first now s));
  exact = Becomes-weaker (Becomes-same _) (λ first x y s e. fill_begins c.args.words.now c.args.count c.args.first x y e);
  sized = search rules;
  can_store = search rules;
  framed = Framed-same _;
}

pub word-requires-clause-memory : goal.word-requires-clause-memory
word-requires-clause-memory g c =
    let l = c.loop-j in
    let less : c.args.count - l.j ≡ suc (c.args.count - (l.j + 1)) = (let t = c.loop-j-test.true in omega arith) in
    loadable (search rules) (λ first now s. line_there now l.line (c.args.count - l.j) (c.args.count - (l.j + 1)) (l.invariant.there first now s) less)

pub put_line-requires : goal.put_line-requires
put_line-requires g c =
    let l = c.loop-j in
    let less : c.args.count - l.j ≡ suc (c.args.count - (l.j + 1)) = (let t = c.loop-j-test.true in omega arith) in
    storable (search rules) (search rules) (always_said (Reads-weaker (Reads-loaded (Reads-none _ l.invariant.there) c.in_ok-next.ensures.done) (λ ws p. line_there ws l.line (c.args.count - l.j) (c.args.count - (l.j + 1)) p.0 less)))

pub loop-j-preserved : goal.loop-j-preserved
loop-j-preserved g c =
    let l = c.loop-j in
    let i = l.invariant in
    let w = c.in_ok-next.ensures in
    let p = c.in_ok-put_line.ensures in
    let less : c.args.count - l.j ≡ suc (c.args.count - (l.j + 1)) = (let t = c.loop-j-test.true in omega arith) in
    record {
      there = always_after (always_said (Reads-loaded (Reads-none _ i.there) w.done)) p.changes.done (λ y z h f.
          lines_on y z c.block.result c.args.words.now l.line (c.args.count - l.j) (c.args.count - (l.j + 1)) c.in_ok-next.next _ h.0 less h.1 c.block.ensures f);
      exact = Becomes-then (Becomes-loaded i.exact w.done) p.exact (λ x y z r f.
          fill_goes_on c.args.words.now c.args.count l.j l.line c.in_ok-next.next c.block.result y z (with_chain_filled c.args.words.now c.args.count 0 c.args.first x) c.loop-j-test.true r.0 r.1 c.block.ensures f);
      sized = search rules;
      can_store = search rules;
      framed = Framed-then (Framed-then i.framed w.framed) p.changes.framed;
    }

pub returns : goal.returns
returns g c =
    let l = c.loop-j in
    changed (Becomes-weaker l.invariant.exact (λ first x y s r. fill_ends c.args.words.now c.args.count l.j l.line y (with_chain_filled c.args.words.now c.args.count 0 c.args.first x) (omega arith) r)) (search rules) (search rules)
