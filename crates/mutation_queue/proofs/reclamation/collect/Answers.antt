use Rattle.cx_table.specs.Running.{instance_at}
use Rattle.mutation_queue.proofs.Opening.{collects, seen}
use Rattle.mutation_queue.proofs.reclamation.collect.Goals as goal

pub found_with-requires : goal.found_with-requires
found_with-requires g c =
    let instance = instance_at c.args.shared.now g.O.Object.step g.O.Object.only_reads in
    let ready = c.in_ok-scan_needs.ensures in
    let loaded = c.in_ok-free.ensures.made in
    seen instance c.args.target c.args.shared.now.callers c.in_ok-open_free.field-0 c.in_ok-free.free c.args.seat.now c.scan_needs.new.seat c.open_free.new.seat c.load_free.new.seat
    ready.some.0 ready.scans c.in_ok-open_free.ensures.made.made loaded.made loaded.found_word ready.some.1

pub returns-clause-collected : goal.returns-clause-collected
returns-clause-collected g c =
    let instance = instance_at c.args.shared.now g.O.Object.step g.O.Object.only_reads in
    let ready = c.in_ok-scan_needs.ensures in
    let loaded = c.in_ok-free.ensures.made in
    collects instance c.args.target c.args.shared.now.callers c.in_ok-open_free.field-0 c.in_ok-free.free c.args.seat.now c.scan_needs.new.seat c.open_free.new.seat c.load_free.new.seat
    ready.some.0 ready.scans c.in_ok-open_free.ensures.made.made loaded.made loaded.found_word c.found_with.result c.found_with.ensures.free c.found_with.ensures.seen
