use Rattle.std.proofs.Common.{◌+◌, ◌*◌, sym, ◌∙◌, arith}
use Rattle.cx_base.proofs.MemoryLemmas.{Becomes-same, Becomes-then, Becomes-weaker, Framed-same, Framed-then}
use Rattle.cx_base.proofs.WordLemmas.{overwritten_none, overwritten_slice}
use Rattle.cx_base.proofs.accesses.store_words.Goals as goal

pub loop-turn-init : goal.loop-turn-init
loop-turn-init g c = record {
  done = Becomes-weaker (Becomes-same _) (λ first x y s e. sym e ∙ sym (overwritten_none c.args.at x));
  framed = Framed-same _;
}

pub loop-turn-preserved : goal.loop-turn-preserved
loop-turn-preserved g c =
    let i = c.loop-turn.invariant in
    let e = c.in_ok-store_few.ensures in
    let from = 144 * c.loop-turn.turn in
    record {
      done = Becomes-then i.done e.done (λ x y z m n. overwritten_slice c.args.words.now x y z c.args.at from c.min-to.result (144 * (c.loop-turn.turn + 1)) (omega (arith, c.loop-turn-test.true, c.loop-turn.auto.turn-end, c.div_ceil-turn-end.ensures, c.min-to.ensures)) (omega (arith, c.loop-turn-test.true, c.loop-turn.auto.turn-end, c.div_ceil-turn-end.ensures)) (grind arith) m n);
      framed = Framed-then i.framed e.framed;
    }
