use Rattle.replica.proofs.Replaying.{loaded_image}
use Rattle.std.proofs.Common.{ap}
use Rattle.table_invariant.specs.Fitting.{has_of}
use Rattle.table_invariant.specs.Seats.{Seated}
use Rattle.cx_attempts.proofs.replay.own_reply.Goals as goal

pub returns-clause-ready : goal.returns-clause-ready
returns-clause-ready g c =
    let shared = c.args.shared.now in
    let e = c.load_own.ensures.loads in
    let loaded = loaded_image (g.O.Object.line_count shared.object) (g.O.Object.lawful shared.object) shared.base (g.O.Object.step shared.object) c.args.seat.now.known c.load_own.new.seat.known
    (ap (λ (s : Seated). has_of s.known) e.rest) e.begun e.still.some c.requires.may.ready.image e.unchanged in
    record { is_held = e.still; image = loaded.0; place = loaded.1 }
