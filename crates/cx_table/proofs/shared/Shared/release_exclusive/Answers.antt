use Rattle.std.proofs.Common.{ℕ, ap, subst, sym, ◌∙◌}
use Rattle.cx_core.specs.Layout.{lock_at}
use Rattle.cx_core.specs.LockEvents.{IsClean}
use Rattle.table_invariant.specs.Running.{IsTableWithinLimits, Running, instance_at}
use Rattle.table_invariant.proofs.Giving.{learns_release}
use Rattle.cx_table.specs.Right.{Right}
use Rattle.cx_table.proofs.Handing.{laws_at}
use Rattle.cx_table.proofs.shared.Shared.release_exclusive.Goals as goal

pub made_learned-requires-clause-learns : goal.made_learned-requires-clause-learns
made_learned-requires-clause-learns g c =
    let t = c.args.self.now in
    let running = subst (IsTableWithinLimits g.O.Object.line_count g.O.Object.lawful) c.self.view_is c.self.invariant.0 in
    let laws = laws_at g.O.Object.line_count g.O.Object.lawful g.O.Object.step t running g.met.O.Object.keeps (λ o image law. (g.met.O.Object.shape o image law).0) g.met.O.Object.replies in
    learns_release t.lines (g.O.Object.lawful t.object) (instance_at t g.O.Object.step g.O.Object.only_reads) laws running.base c.held.inside.replica c.args.seat.now.known _
    (subst (λ (n : ℕ). IsClean t.callers n c.args.seat.now.known.local) (sym (ap (λ (x : Right). x.replica) c.held.view_is)) c.requires.may.guard)
    (c.lock_at-word.ensures ∙ ap (λ (r : Running _). lock_at r.callers c.held.inside.replica) c.self.view_is) c.requires.replayed
