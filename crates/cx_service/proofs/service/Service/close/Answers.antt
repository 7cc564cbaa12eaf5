use Rattle.std.proofs.Common.{List, subst}
use Rattle.table_invariant.specs.Running.{IsTableWithinLimits, Running, instance_at}
use Rattle.table_invariant.specs.Seats.{Seated}
use Rattle.cx_service.specs.Closes.{seats_of}
use Rattle.cx_table.specs.Remains.{ClosingWitness}
use Rattle.cx_service.proofs.service.Service.close.Goals as goal

pub returns-clause-remains : goal.returns-clause-remains
returns-clause-remains g c =
    let step = g.O.Object.step in
    let reads = g.O.Object.only_reads in
    let seats = seats_of c.args.callers.items in
    let remains = c.gather_in.result in
    let running = subst (λ (t : Running _). IsTableWithinLimits g.O.Object.line_count g.O.Object.lawful t) c.self.view_is c.lines-lines.ensures.running in
    let leaves = subst (λ (t : Running _). ClosingWitness t (instance_at t step reads) seats remains) c.self.view_is
    (subst (λ (ss : List Seated). ClosingWitness c.self.inside.shared (instance_at c.self.inside.shared step reads) ss remains) c.as_seats.ensures c.gather_in.ensures) in
    record { leaves = leaves; order = c.closed_tables_are_linearizable.ensures c.args.self seats remains running leaves }
