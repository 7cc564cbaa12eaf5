use Rattle.std.proofs.lemmas.Result.{on_ok_weaker}
use Rattle.table_tests.proofs.Protecting.{ready_protected}
use Rattle.table_tests.proofs.replayed.replay_protected.Goals as goal

-- stating a protection leaves the replica the image after its place
pub replay_to-requires-clause-ready : goal.replay_to-requires-clause-ready
replay_to-requires-clause-ready g c =
    let shared = c.args.shared.now in
    let e = c.in_ok-protect.ensures in
    ready_protected g.O.Object shared c.args.seat.now c.protect.new.seat c.args.held.now c.args.place e.leaves.of e.leaves.rest c.requires.ready

-- releasing the protection leaves the replica the image after the place `end`
pub returns-clause-ready : goal.returns-clause-ready
returns-clause-ready g c =
    let shared = c.args.shared.now in
    let e = c.unprotect.ensures in
    on_ok_weaker c.unprotect.result (λ _. ready_protected g.O.Object shared c.replay_to.new.seat c.unprotect.new.seat c.args.held.now c.args.end e.leaves.of e.leaves.rest c.in_ok-replay_to.ensures.ready) e.given_up
