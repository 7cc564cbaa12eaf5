use Rattle.std.proofs.Common.{arith}
use Rattle.std.proofs.lemmas.List.Sorted.{IsNonDecreasingBy-from_sort}
use Rattle.cx_service.proofs.Tickets.{sorted_are}
use Rattle.cx_service.proofs.submit.cell_tickets.Goals as goal

pub returns : goal.returns
returns c =
    sorted_are c.args.seat.now.known.local c.loop-j.tickets c.sort_unstable.new.self c.loop-j.invariant.long
    (λ k within. c.loop-j.invariant.held k (omega (arith, within, c.loop-j-test.false)))
    c.sort_unstable.ensures.permutation c.sort_unstable.ensures.len
    (IsNonDecreasingBy-from_sort (λ x. x) c.sort_unstable.new.self c.sort_unstable.ensures.sorted)
