use Rattle.std.proofs.Common.{refl, slice_index}
use Rattle.cx_attempts.proofs.Images.{taken_image}
use Rattle.cx_attempts.proofs.checkpoint.take_image.Goals as goal

pub returns-clause-taken : goal.returns-clause-taken
returns-clause-taken g c =
    let loads = c.in_ok-load_image.ensures.loaded in
    let e = c.in_ok-release_with_image.ensures in
    let image = c.load_image.new.into in
    taken_image g.O.Object c.args.shared.now c.args.hold c.args.seat.now c.load_image.new.seat loads.loads c.seen_cur-code.result c.raise_current.new.seat c.in_ok-raise_current.ensures.raised
    image c.in_ok-release_with_image.field-0 c.release_with_image.new.seat e.step.made c.requires.current c.requires.seen loads.tells c.seen_cur-code.ensures e.base (slice_index image 0) refl
