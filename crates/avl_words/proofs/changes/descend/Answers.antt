use Rattle.cx_base.proofs.MemoryLemmas.{Framed-same, Framed-then}
use Rattle.std.proofs.Common.{rules, ◌∙◌, ◌≤◌, ◌<◌, arith}
use Rattle.std.proofs.Math.ListN.{length-set}
use Rattle.avl_words.proofs.Leaving.{descending_begins, descending_ends, descending_on, descending_within, descending_deep}
use Rattle.cx_base.proofs.ReadLemmas.{kept_then, Reads-none, Reads-load, Reads-weaker, Reads-with, always_read}
use Rattle.avl_words.proofs.Memories.{found, loadable}
use Rattle.avl_words.proofs.changes.descend.Goals as goal

pub loop-depth-init : goal.loop-depth-init
loop-depth-init g c = record {
  done = Reads-none _ (λ first now s way l z r b. descending_begins now c.args.way.now.nodes c.args.way.now.sides c.args.way.now.depth c.args.node way l z r b);
  nodes_long = c.args.way.now.long.0;
  sides_long = c.args.way.now.long.1;
  kept = search rules;
  sized = search rules;
  framed = Framed-same _;
}

pub word-requires-clause-memory : goal.word-requires-clause-memory
word-requires-clause-memory g c =
    let l = c.loop-depth in
    let w = c.args.way.now in
    loadable (search rules) (always_read c.requires.all l.invariant.done (λ ws h o. (let d = o h.way h.left h.item h.right h.below in descending_within ws l.way.nodes l.way.sides l.depth l.least h.way h.left h.item h.right d)))

pub returns-then-left-eq0 : goal.returns-then-left-eq0
returns-then-left-eq0 g c =
    let l = c.loop-depth in
    found (Reads-load l.invariant.done c.in_ok-left.ensures.done (λ ws o e way cc z d b. descending_ends ws l.way.nodes l.way.sides l.depth l.least c.in_ok-left.left way cc z d (o way cc z d b) e c.if-left-eq0.true)) (search rules) (search rules) (search rules)

pub loop-depth-preserved : goal.loop-depth-preserved
loop-depth-preserved g c =
    let l = c.loop-depth in
    let i = l.invariant in
    let w = c.in_ok-left.ensures in
    let below : l.depth < 64 = c.loop-depth-test.true in
    record {
      done = Reads-load i.done w.done (λ ws o e way cc z d b. descending_on ws l.way.nodes l.way.sides l.depth l.least c.in_ok-left.left way cc z d (o way cc z d b) e c.if-left-eq0.false (omega (arith, below, i.nodes_long)) (omega (arith, below, i.sides_long)));
      nodes_long = length-set l.way.nodes l.depth l.least ∙ i.nodes_long;
      sides_long = length-set l.way.sides l.depth 0 ∙ i.sides_long;
      kept = kept_then i.kept w.kept;
      sized = search rules;
      framed = Framed-then i.framed w.framed;
    }

pub returns : goal.returns
returns g c =
    let l = c.loop-depth in
    let w = c.args.way.now in
    let deep : 64 ≤ l.depth = omega (arith, c.loop-depth-test.false) in
    found (Reads-weaker (Reads-with c.requires.all l.invariant.done) (λ ws p. absurd (descending_deep ws w.nodes w.sides w.depth c.args.node l.way.nodes l.way.sides l.depth l.least p.0 deep p.1))) (search rules) (search rules) (search rules)
