use Rattle.std.proofs.Common.{rules, arith}
use Rattle.cx_base.proofs.MemoryLemmas.{Becomes-same, Becomes-then, Becomes-weaker, Becomes-loaded, always_after, Framed-same, Framed-then}
use Rattle.word_index.proofs.ExactRuns.{chain_begins, chain_goes_on, chain_ends}
use Rattle.word_index.proofs.Giving.{so_far_none, next_can_be_given, so_far_more, so_far_all}
use Rattle.word_index.specs.Exact.{with_chain_given}
use Rattle.avl_words.proofs.Memories.{changed, loadable, storable}
use Rattle.word_index.proofs.given_back.give_chain.Goals as goal

pub loop-init : goal.loop-init
loop-init g c = record {
  done = Becomes-weaker (Becomes-same _) (λ first x y s e. so_far_none c.args.first c.args.count x y e);
  exact = Becomes-weaker (Becomes-same _) (λ first x y s e. chain_begins c.args.count c.args.first x y e);
  sized = search rules;
  can_store = search rules;
  framed = Framed-same _;
}

pub word-requires-clause-memory : goal.word-requires-clause-memory
word-requires-clause-memory g c =
    let l = c.loop in
    loadable (search rules) (always_after c.requires.all l.invariant.done (λ x y h r. (next_can_be_given c.args.first c.args.count l.counter l.line x y c.loop-test.true h r).there))

pub give_back-requires : goal.give_back-requires
give_back-requires g c =
    let l = c.loop in
    storable (search rules) (search rules) (always_after c.requires.all (Becomes-loaded l.invariant.done c.in_ok-next.ensures.done) (λ x y h r. next_can_be_given c.args.first c.args.count l.counter l.line x y c.loop-test.true h r.0))

pub loop-preserved : goal.loop-preserved
loop-preserved g c =
    let l = c.loop in
    let i = l.invariant in
    let w = c.in_ok-next.ensures in
    let b = c.in_ok-give_back.ensures in
    record {
      done = Becomes-then (Becomes-loaded i.done w.done) b.done (λ x y z r e. so_far_more c.args.first c.args.count l.counter l.line c.in_ok-next.next x y z c.loop-test.true r.0 r.1 e);
      exact = Becomes-then (Becomes-loaded i.exact w.done) b.done (λ x y z r e. chain_goes_on c.args.count l.counter l.line c.in_ok-next.next y z (with_chain_given c.args.count c.args.first x) c.loop-test.true r.0 r.1 e);
      sized = search rules;
      can_store = search rules;
      framed = Framed-then (Framed-then i.framed w.framed) b.framed;
    }

pub returns-clause-changes : goal.returns-clause-changes
returns-clause-changes g c =
    let l = c.loop in
    changed (Becomes-weaker l.invariant.done (λ first x y s r. so_far_all c.args.first c.args.count l.counter l.line x y (omega arith) r)) (search rules) (search rules)

pub returns-clause-exact : goal.returns-clause-exact
returns-clause-exact g c =
    let l = c.loop in
    Becomes-weaker l.invariant.exact (λ first x y s r. chain_ends c.args.count l.counter l.line y (with_chain_given c.args.count c.args.first x) (omega arith) r)
