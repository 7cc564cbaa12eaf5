use Rattle.std.proofs.Common.{refl}
use Rattle.table_tests.proofs.Protecting.{held_protected, image_protected}
use Rattle.table_tests.proofs.turns.replay_protected.Goals as goal

-- stating a protection leaves the replica held exclusively, and the image after its place
pub replay_to-requires-clause-ready : goal.replay_to-requires-clause-ready
replay_to-requires-clause-ready g c =
    let shared = c.args.shared.now in
    let e = c.in_ok-protect.ensures.leaves in
    record {
      is_held = held_protected (g.O.Object.line_count shared.object) shared (g.O.Object.lawful shared.object) (g.O.Object.step shared.object) c.args.seat.now c.protect.new.seat c.args.held.now e.of e.rest c.requires.held;
      image = image_protected (g.O.Object.line_count shared.object) shared (g.O.Object.lawful shared.object) (g.O.Object.step shared.object) c.args.seat.now c.protect.new.seat e.rest c.requires.image;
      place = refl;
    }

-- releasing the protection leaves the replica held exclusively
pub returns-clause-held : goal.returns-clause-held
returns-clause-held g c =
    let shared = c.args.shared.now in
    let e = c.in_ok-unprotect.ensures in
    held_protected (g.O.Object.line_count shared.object) shared (g.O.Object.lawful shared.object) (g.O.Object.step shared.object) c.replay_to.new.seat c.unprotect.new.seat c.args.held.now e.leaves.of e.leaves.rest c.in_ok-replay_to.ensures.replayed.ready.is_held

-- releasing the protection leaves the replica the image after its place
pub returns-clause-image : goal.returns-clause-image
returns-clause-image g c =
    let shared = c.args.shared.now in
    image_protected (g.O.Object.line_count shared.object) shared (g.O.Object.lawful shared.object) (g.O.Object.step shared.object) c.replay_to.new.seat c.unprotect.new.seat c.in_ok-unprotect.ensures.leaves.rest c.in_ok-replay_to.ensures.replayed.ready.image
