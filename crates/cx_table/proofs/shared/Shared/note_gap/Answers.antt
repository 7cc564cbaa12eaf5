use Rattle.std.proofs.Common.{ap, subst, ◌∙◌}
use Rattle.cx_core.specs.Layout.{gap_at}
use Rattle.table_invariant.specs.Running.{IsTableWithinLimits, Running, instance_at}
use Rattle.table_invariant.proofs.GapNoting.{learns_gap}
use Rattle.cx_table.proofs.Handing.{laws_at}
use Rattle.cx_table.proofs.shared.Shared.note_gap.Goals as goal

pub stored_learned-requires-clause-learns : goal.stored_learned-requires-clause-learns
stored_learned-requires-clause-learns g c =
    let t = c.args.self.now in
    let running = subst (IsTableWithinLimits g.O.Object.line_count g.O.Object.lawful) c.self.view_is c.self.invariant.0 in
    let laws = laws_at g.O.Object.line_count g.O.Object.lawful g.O.Object.step t running g.met.O.Object.keeps (λ o image law. (g.met.O.Object.shape o image law).0) g.met.O.Object.replies in
    let guard = c.requires.may.guard in
    learns_gap t.lines (g.O.Object.lawful t.object) (instance_at t g.O.Object.step g.O.Object.only_reads) laws running.base c.args.s c.args.i c.args.v c.args.seat.now.known c.gap_at-word.result c.requires.gap.0 guard.0 guard.1 guard.2
    (c.gap_at-word.ensures ∙ ap (λ (r : Running _). gap_at r.callers c.args.s c.args.i) c.self.view_is) c.requires.gap.1
