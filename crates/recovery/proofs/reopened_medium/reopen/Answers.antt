use Rattle.std.proofs.Common.{◌+◌, ◌*◌, ◌≤◌, refl, subst, ◌∙◌, arith}
use Rattle.recovery.specs.Reopened.{IsReopened}
use Rattle.recovery.proofs.Copying.{copies_more, reopened}
use Rattle.recovery.proofs.reopened_medium.reopen.Goals as goal

pub loop-line-preserved : goal.loop-line-preserved
loop-line-preserved c =
    copies_more (146 + c.args.lines) ((146 + c.args.lines) * c.from.result) c.from.result c.loop-line.line c.args.medium.now c.loop-line.medium c.copy_line.new.medium (omega arith) refl c.loop-line.invariant c.copy_line.ensures

pub returns : goal.returns
returns c =
    let region = 146 + c.args.lines in
    let all = reopened region (2 * c.args.callers) (region * c.from.result) c.from.result c.loop-line.line c.args.medium.now c.loop-line.medium c.fence.new.self (omega arith) refl (subst (λ n. region * (2 * n) ≤ c.loop-line.line) c.from-2.ensures c.loop-line-test.false) c.loop-line.invariant c.fence.ensures.words c.fence.ensures.stores in
    subst (λ n. IsReopened region (2 * c.args.callers) (region * n) c.args.medium.now c.fence.new.self) (c.from.ensures ∙ c.root_replica.ensures.value) all
