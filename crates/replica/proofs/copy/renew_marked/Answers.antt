use Rattle.std.proofs.Common.{◌*◌, arith, refl}
use Rattle.cx_core.specs.Region.{region_words}
use Rattle.replica.proofs.Listing.{listed_from}
use Rattle.replica.proofs.Renewing.{copied_within, release_halts, released_within, renewed}
use Rattle.replica.proofs.Runs.{on_err}
use Rattle.replica.proofs.copy.renew_marked.Goals as goal

pub release_listed-requires-clause-listed : goal.release_listed-requires-clause-listed
release_listed-requires-clause-listed g c =
    listed_from g.O.Object c.args.shared.now c.args.to c.args.marks.now c.args.held.now c.args.source c.args.seat.now c.copy_marked.new.seat c.requires.may c.requires.listed
    c.in_ok-place.ensures.copied.copied c.in_ok-place.ensures.leaves.rest c.in_ok-place.ensures.leaves.both

pub returns-clause-renewed : goal.returns-clause-renewed
returns-clause-renewed g c =
    let copied = c.in_ok-place.ensures.copied in
    let released = c.in_ok-release_listed.ensures in
    renewed g.O.Object c.args.shared.now c.args.held.now c.args.source c.args.seat.now c.copy_marked.new.seat c.release_listed.new.seat c.copy_marked.ensures.leaves c.in_ok-release_listed.field-0 c.in_ok-place.place
    released.step.made released.held released.step.fits (copied.copied.agree 0 (omega arith) refl) copied.copied.loaded copied.place

pub returns-in_err-place-clause-halted : goal.returns-in_err-place-clause-halted
returns-in_err-place-clause-halted g c = on_err c.from_residual.result _ (record { rest = c.copy_marked.ensures.leaves.rest; limit = c.in_err-place.ensures.halts })

pub returns-in_err-release_listed-clause-halted : goal.returns-in_err-release_listed-clause-halted
returns-in_err-release_listed-clause-halted g c =
    on_err c.from_residual-in_err-release_listed.result _ (release_halts g.O.Object c.args.shared.now c.args.held.now c.args.source c.args.seat.now c.copy_marked.new.seat c.release_listed.new.seat c.copy_marked.ensures.leaves c.in_err-release_listed.ensures.step.halted)

pub returns-in_err-place-clause-within : goal.returns-in_err-place-clause-within
returns-in_err-place-clause-within g c =
    copied_within g.O.Object c.args.shared.now c.args.held.now c.args.source c.args.seat.now c.copy_marked.new.seat c.copy_marked.new.seat c.copy_marked.ensures.leaves (3 * region_words (g.O.Object.line_count c.args.shared.now.object)) c.copy_marked.ensures.bound

pub returns-in_err-release_listed-clause-within : goal.returns-in_err-release_listed-clause-within
returns-in_err-release_listed-clause-within g c =
    released_within g.O.Object c.args.shared.now c.args.held.now c.args.source c.args.seat.now c.copy_marked.new.seat c.release_listed.new.seat c.copy_marked.ensures.leaves (3 * region_words (g.O.Object.line_count c.args.shared.now.object)) c.copy_marked.ensures.bound c.release_listed.result c.release_listed.ensures.step

pub returns-clause-within : goal.returns-clause-within
returns-clause-within g c =
    released_within g.O.Object c.args.shared.now c.args.held.now c.args.source c.args.seat.now c.copy_marked.new.seat c.release_listed.new.seat c.copy_marked.ensures.leaves (3 * region_words (g.O.Object.line_count c.args.shared.now.object)) c.copy_marked.ensures.bound c.release_listed.result c.release_listed.ensures.step
