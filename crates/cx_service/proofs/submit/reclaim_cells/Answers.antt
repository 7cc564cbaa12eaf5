use Rattle.std.proofs.Common.{refl, arith}
use Rattle.table_invariant.specs.Running.{instance_at}
use Rattle.cx_attempts.proofs.Answered.{if_any_err}
use Rattle.cx_service.proofs.Looking.{collect_ends, collect_halts, collect_on, may_collect, names_holder, ticket_small}
use Rattle.cx_service.proofs.submit.reclaim_cells.Goals as goal

pub overflow_add-tickets : goal.overflow_add-tickets
overflow_add-tickets g c =
    let small = ticket_small c.args.shared.now c.args.seat.now c.cell_tickets-tickets.result c.requires.caller c.cell_tickets-tickets.ensures 7 (omega arith) c.requires.lawful.to in
    omega (arith, small)

pub collect-requires : goal.collect-requires
collect-requires g c = record {
  may = record {
    of = c.requires.caller.of;
    below = may_collect c.args.shared.now c.args.seat.now c.cell_tickets-tickets.result c.requires.caller c.cell_tickets-tickets.ensures
        (instance_at c.args.shared.now g.O.Object.step g.O.Object.only_reads) c.requires.lawful 7 (omega arith);
    none = c.requires.caller.rest.scan;
  };
}

pub returns-in-None-clause-found : goal.returns-in-None-clause-found
returns-in-None-clause-found g c =
    let r = c.args.shared.now in
    let s = c.args.seat.now in
    let v = c.collect.new.seat in
    let found = c.in_ok-found.found in
    let tickets = c.cell_tickets-tickets.result in
    let collects = c.in_ok-found.ensures.collected in record {
      ends = collect_ends r.callers _ s v found (omega (arith, c.scans-scans.ensures)) collects;
      used = c.requires.used;
      scans = collects.scans;
      count = (let count = collects.count in omega (arith, count));
      allowed = c.in_ok-found.ensures.allowed;
      names = names_holder r s tickets c.requires.caller c.cell_tickets-tickets.ensures v found (instance_at r g.O.Object.step g.O.Object.only_reads) c.requires.lawful collects (c.in-None.ensures.none.0 refl);
    }

pub returns-in_err-found-clause-halted : goal.returns-in_err-found-clause-halted
returns-in_err-found-clause-halted g c =
    let halted = c.in_err-found.ensures.collected in
    if_any_err c.from_residual.result (record {
      limit = halted.limit;
      used = c.requires.used;
      looking = collect_halts c.args.shared.now.callers _ c.args.seat.now c.collect.new.seat c.requires.used halted;
      since = collect_on c.args.shared.now.callers _ c.args.seat.now c.collect.new.seat halted;
    })
