use Rattle.std.proofs.Common.{rules, sym, arith, subst}
use Rattle.cx_base.proofs.MemoryLemmas.{Becomes-same, Becomes-store, Becomes-weaker, Framed-access, Framed-same, Framed-then}
use Rattle.avl_words.specs.Lines.{IsPartLength}
use Rattle.word_index.proofs.Arrangements.{empty_begins, empty_more, empty_stands, empty_done}
use Rattle.avl_words.proofs.Memories.{changed}
use Rattle.word_index.proofs.format.format_index.Goals as goal

pub loop-at-init : goal.loop-at-init
loop-at-init g c = record {
  done = Becomes-weaker (Becomes-same _) (λ first x y s e. empty_begins c.args.version x y e);
  sized = search rules;
  can_store = search rules;
  framed = Framed-same _;
}

pub loop-at-preserved : goal.loop-at-preserved
loop-at-preserved g c =
    let i = c.loop-at.invariant in
    let e = c.in_ok-store.ensures in
    record {
      done = Becomes-store i.done e.stands (λ first x y s r.
          empty_more c.args.version c.loop-at.at c.header_word.result x y (omega arith) (subst IsPartLength (sym (g.met.M.Memory.words c.loop-at.mem first y s).long) i.sized) c.header_word.ensures r);
      sized = search rules;
      can_store = search rules;
      framed = Framed-then i.framed (Framed-access e.access);
    }

pub returns-clause-changes : goal.returns-clause-changes
returns-clause-changes g c =
    let i = c.loop-at.invariant in
    changed (Becomes-weaker i.done (λ first x y s r.
    empty_stands c.args.version c.loop-at.at x y c.requires.version (omega arith) (subst IsPartLength (sym (g.met.M.Memory.words c.loop-at.mem first y s).long) i.sized) r)) (search rules) (search rules)

pub returns-clause-exact : goal.returns-clause-exact
returns-clause-exact g c =
    let i = c.loop-at.invariant in
    Becomes-weaker i.done (λ first x y s r. empty_done c.args.version c.loop-at.at x y (omega arith) r)
