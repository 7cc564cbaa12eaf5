use Rattle.std.proofs.Common.{rules, arith}
use Rattle.cx_base.proofs.MemoryLemmas.{Becomes-same, Becomes-then, Becomes-weaker, always_after, Becomes-both, Framed-same, Framed-then}
use Rattle.word_index.proofs.ExactRuns.{text_begins, text_goes_on, text_ends}
use Rattle.word_index.proofs.Writing.{written_none, can_take_next, taken_within, written_more, written_all}
use Rattle.word_index.specs.Exact.{with_text}
use Rattle.avl_words.proofs.Memories.{changed, storable}
use Rattle.word_index.proofs.taken.write_text.Goals as goal

pub loop-j-init : goal.loop-j-init
loop-j-init g c = record {
  done = Becomes-weaker (Becomes-same _) (λ first x y s e. written_none c.args.words.now c.args.count x y e);
  exact = Becomes-weaker (Becomes-same _) (λ first x y s e. text_begins c.args.words.now c.args.count x y e);
  sized = search rules;
  can_store = search rules;
  framed = Framed-same _;
}

pub take_line-requires : goal.take_line-requires
take_line-requires g c =
    let l = c.loop-j in
    storable (search rules) (search rules) (always_after c.requires.memory.all l.invariant.done (λ x y h r. can_take_next c.args.words.now c.args.count l.j l.next x y c.loop-j-test.true h r))

pub put_line-requires : goal.put_line-requires
put_line-requires g c =
    let l = c.loop-j in
    storable (search rules) (search rules) (always_after c.requires.memory.all (Becomes-both l.invariant.done c.in_ok-line.ensures.changes.done) (λ x z h r. taken_within c.args.words.now c.args.count l.j l.next c.in_ok-line.line x r.0 z c.loop-j-test.true h r.1 r.2))

pub loop-j-preserved : goal.loop-j-preserved
loop-j-preserved g c =
    let l = c.loop-j in
    let i = l.invariant in
    let t = c.in_ok-line.ensures in
    let p = c.in_ok-put_line.ensures in
    record {
      done = Becomes-then (Becomes-both i.done t.changes.done) p.changes.done (λ x z w r f. written_more c.args.words.now c.args.count l.j l.next c.in_ok-line.line c.block.result x r.0 z w c.loop-j-test.true r.1 r.2 c.block.ensures f);
      exact = Becomes-then (Becomes-both i.exact t.exact) p.exact (λ x z w r f. text_goes_on c.args.words.now c.args.count l.j l.next c.in_ok-line.line c.block.result r.0 z w (with_text c.args.words.now c.args.count 0 x) c.loop-j-test.true r.1 r.2 c.block.ensures f);
      sized = search rules;
      can_store = search rules;
      framed = Framed-then (Framed-then i.framed t.changes.framed) p.changes.framed;
    }

pub returns-clause-changes : goal.returns-clause-changes
returns-clause-changes g c =
    let l = c.loop-j in
    changed (Becomes-weaker l.invariant.done (λ first x y s r. written_all c.args.words.now c.args.count l.j l.next x y (omega arith) r)) (search rules) (search rules)

pub returns-clause-exact : goal.returns-clause-exact
returns-clause-exact g c =
    let l = c.loop-j in
    Becomes-weaker l.invariant.exact (λ first x y s r. text_ends c.args.words.now c.args.count l.j l.next y (with_text c.args.words.now c.args.count 0 x) (omega arith) r)
