use Rattle.table_invariant.specs.Running.{instance_at}
use Rattle.table_invariant.specs.Seats.{known_of}
use Rattle.table_invariant.proofs.Keeping.{allows_keeping}
use Rattle.cx_table.proofs.Handing.{laws_at}
use Rattle.cx_table.proofs.shared.Shared.note_kept.Goals as goal

pub run-requires-clause-allows : goal.run-requires-clause-allows
run-requires-clause-allows g c =
    let t = c.args.self.now in
    let running = c.table_is_running.ensures in
    allows_keeping t.lines (g.O.Object.lawful t.object) (instance_at t g.O.Object.step g.O.Object.only_reads)
    (laws_at g.O.Object.line_count g.O.Object.lawful g.O.Object.step t running g.met.O.Object.keeps (λ o image law. (g.met.O.Object.shape o image law).0) g.met.O.Object.replies)
    running.base (known_of c.args.seat.now.me.0) c.args.ticket c.args.set.now _ _ _ _ c.requires.one.one c.requires.of_ticket
