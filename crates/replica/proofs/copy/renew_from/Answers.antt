use Rattle.std.proofs.Common.{◌*◌, arith}
use Rattle.cx_core.specs.Region.{region_words}
use Rattle.replica.proofs.Renewing.{copied_within, release_halts, released_within, renewed}
use Rattle.replica.proofs.Runs.{on_err}
use Rattle.replica.proofs.copy.renew_from.Goals as goal

pub returns-clause-renewed : goal.returns-clause-renewed
returns-clause-renewed g c =
    let copied = c.in_ok-place.ensures.copied in
    let released = c.in_ok-release_copied.ensures in
    renewed g.O.Object c.args.shared.now c.args.held.now c.args.source c.args.seat.now c.copy_from.new.seat c.release_copied.new.seat c.copy_from.ensures.leaves c.in_ok-release_copied.field-0 c.in_ok-place.place
    released.step.made released.held released.step.fits (copied.agree 0 (omega arith)) copied.loaded copied.place

pub returns-in_err-place-clause-halted : goal.returns-in_err-place-clause-halted
returns-in_err-place-clause-halted g c = on_err c.from_residual.result _ (record { rest = c.copy_from.ensures.leaves.rest; limit = c.in_err-place.ensures.halts })

pub returns-in_err-release_copied-clause-halted : goal.returns-in_err-release_copied-clause-halted
returns-in_err-release_copied-clause-halted g c =
    on_err c.from_residual-in_err-release_copied.result _ (release_halts g.O.Object c.args.shared.now c.args.held.now c.args.source c.args.seat.now c.copy_from.new.seat c.release_copied.new.seat c.copy_from.ensures.leaves c.in_err-release_copied.ensures.step.halted)

pub returns-in_err-place-clause-within : goal.returns-in_err-place-clause-within
returns-in_err-place-clause-within g c =
    copied_within g.O.Object c.args.shared.now c.args.held.now c.args.source c.args.seat.now c.copy_from.new.seat c.copy_from.new.seat c.copy_from.ensures.leaves (3 * region_words (g.O.Object.line_count c.args.shared.now.object)) c.copy_from.ensures.bound

pub returns-in_err-release_copied-clause-within : goal.returns-in_err-release_copied-clause-within
returns-in_err-release_copied-clause-within g c =
    released_within g.O.Object c.args.shared.now c.args.held.now c.args.source c.args.seat.now c.copy_from.new.seat c.release_copied.new.seat c.copy_from.ensures.leaves (3 * region_words (g.O.Object.line_count c.args.shared.now.object)) c.copy_from.ensures.bound c.release_copied.result c.release_copied.ensures.step

pub returns-clause-within : goal.returns-clause-within
returns-clause-within g c =
    released_within g.O.Object c.args.shared.now c.args.held.now c.args.source c.args.seat.now c.copy_from.new.seat c.release_copied.new.seat c.copy_from.ensures.leaves (3 * region_words (g.O.Object.line_count c.args.shared.now.object)) c.copy_from.ensures.bound c.release_copied.result c.release_copied.ensures.step
