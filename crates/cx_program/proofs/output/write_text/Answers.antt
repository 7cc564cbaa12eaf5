use Rattle.std.proofs.Common.{arith, subst, List, ℕ}
use Rattle.cx_base.specs.Outside.{Took}
use Rattle.cx_program.proofs.Transfer.{written-more}
use Rattle.cx_program.proofs.output.write_text.Goals as goal

pub loop-at-preserved : goal.loop-at-preserved
loop-at-preserved g c = record {
  within = omega (arith, c.in_ok-at.ensures.within, c.split_at.ensures.back_len, c.loop-at.invariant.within);
  written =
      written-more c.args.text.now c.loop-at.at c.in_ok-at.field-0 (g.K.Sink.written c.args.sink.now) (g.K.Sink.written c.loop-at.sink) (g.K.Sink.written c.write.new.self) c.loop-at.invariant.written
      (subst (λ (piece : List ℕ). Took c.in_ok-at.field-0 piece (g.K.Sink.written c.loop-at.sink) (g.K.Sink.written c.write.new.self)) c.split_at.ensures.back c.in_ok-at.ensures.ok);
  count = omega (arith, c.in_ok-at.ensures.count, c.loop-at.invariant.count);
}
