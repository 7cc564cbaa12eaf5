use Rattle.std.proofs.Common.{◌≡◌, subst, ◌∙◌, arith, rules}
use Rattle.cx_base.specs.Memory.{Becomes}
use Rattle.cx_core.specs.WriteSet.{stored}
use Rattle.redo_set.specs.Sets.{put_over}
use Rattle.redo_set.proofs.apply.apply_set.Goals as goal

pub returns-clause-changes : goal.returns-clause-changes
unfolding put_over
returns-clause-changes g c =
    let l = c.loop-m in
    let end_ : l.m ≡ c.len-m-end.result = omega (arith, l.auto.m-end, c.loop-m-test.false) in
    record {
      done = subst (λ n. Becomes (g.M.Memory.stands c.args.mem.now) (g.M.Memory.stands l.mem) (λ before now. now ≡ stored n c.args.set.now before)) (end_ ∙ l.invariant.end) l.invariant.done;
      halts = search rules;
      framed = search rules;
    }
