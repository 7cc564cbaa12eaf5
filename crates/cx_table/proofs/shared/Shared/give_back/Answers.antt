use Rattle.std.proofs.Common.{ap, refl, subst, sym, ◌∙◌}
use Rattle.atomic_table.specs.Table.{Allows}
use Rattle.cx_core.specs.declared.kinds.Kind.TheVariants.{BackOff}
use Rattle.cx_core.specs.Layout.{lock_at}
use Rattle.table_invariant.specs.Rule.{RuleHolds}
use Rattle.table_invariant.specs.Running.{Running, instance_at}
use Rattle.table_invariant.specs.Seats.{known_of}
use Rattle.table_invariant.proofs.Keeps.{learns_shown}
use Rattle.cx_table.specs.Right.{Right}
use Rattle.cx_table.specs.Words.{put_by}
use Rattle.cx_table.specs.declared.events.Instruction.TheVariants.{Subtract}
use Rattle.caller_cache.specs.Summaries.{Follows}
use Rattle.cx_table.proofs.shared.Shared.give_back.Goals as goal

pub run-found-requires-clause-allows : goal.run-found-requires-clause-allows
run-found-requires-clause-allows g c =
    let t = c.args.self.now in
    let instance = instance_at t g.O.Object.step g.O.Object.only_reads in
    let at = c.lock_at-word.ensures ∙ ap (λ (x : Running _). lock_at x.callers c.source.inside.replica) c.self.view_is ∙ ap (λ (x : Right). lock_at t.callers x.replica) c.source.view_is in
    subst (λ word. Allows (RuleHolds instance) t.table.slots c.args.seat.now.id c.args.seat.now.me word (put_by (Subtract 1)) g.J.StepEffect.tells) (sym at)
    (c.requires.allows (λ words within. learns_shown instance (BackOff c.args.source.replica) (known_of c.args.seat.now.me.0) words _ _ tt tt c.requires.right refl refl))

pub returns-clause-summary : goal.returns-clause-summary
returns-clause-summary g c = subst (λ (x : Right). Follows c.args.self.now.callers (BackOff x.replica) c.run-found.result c.args.summary.now c.back_off.new.self) c.source.view_is (c.back_off.ensures c.args.self.now.callers c.run-found.result)
