use Rattle.std.proofs.Common.{arith}
use Rattle.publish.proofs.Exchanging.{exchange_leaves, exchanged}
use Rattle.publish.proofs.publication.exchange.Goals as goal

pub returns-clause-leaves : goal.returns-clause-leaves
returns-clause-leaves g c =
    let t = c.args.shared.now in
    let step = g.O.Object.step in
    let reads = g.O.Object.only_reads in
    let found = c.in_ok-_found._found in
    let e = c.in_ok-_found.ensures in
    exchange_leaves t step reads found c.args.seat.now c.publish.new.seat e.step.made c.in_ok-_found.exchanged (omega (arith, c.requires.ready.token.few)) (omega arith) c.requires.below
    (exchanged t step reads found c.args.seat.now c.publish.new.seat e.step.made c.args.held c.in_ok-_found.exchanged c.requires.ready.none e.token)
