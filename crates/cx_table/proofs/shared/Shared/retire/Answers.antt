use Rattle.std.proofs.Common.{Option, ap, sym, ◌∙◌, ℕ}
use Rattle.cx_base.specs.Codes.{root_replica_of}
use Rattle.cx_core.specs.declared.local.WonCode.{WonCode}
use Rattle.cx_core.specs.Layout.{lock_at}
use Rattle.cx_core.specs.RootEvents.{before_in}
use Rattle.table_invariant.specs.Running.{Running}
use Rattle.cx_table.specs.Right.{WonRight}
use Rattle.cx_table.proofs.shared.Shared.retire.Goals as goal

pub made-requires-clause-shown : goal.made-requires-clause-shown
made-requires-clause-shown g c =
    let callers = c.args.self.now.callers in
    record {
      shown = tt;
      fits = tt;
      place = c.lock_at-word.ensures
          ∙ ap (λ (n : ℕ). lock_at c.self.inside.callers.number n) (c.from-r.ensures ∙ c.root_replica.ensures.value)
          ∙ ap (λ (x : Running _). lock_at x.callers (root_replica_of x.callers c.won.inside.before)) c.self.view_is
          ∙ ap (λ (w : WonRight). lock_at callers (root_replica_of callers w.before)) c.won.view_is
          ∙ ap (λ (o : Option WonCode). lock_at callers (root_replica_of callers (before_in o))) (sym c.requires.won.holds);
    }
