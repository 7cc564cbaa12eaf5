use Rattle.std.proofs.Common.{◌+◌, ◌-◌, ◌*◌, min, arith}
use Rattle.cx_core.specs.Layout.{gap_slots}
use Rattle.cx_core.specs.Region.{region_words}
use Rattle.replica.specs.Replays.{noted_place}
use Rattle.replica.proofs.Listing.{listed_halts, listed_within, renewed_listed}
use Rattle.replica.proofs.Runs.{on_err}
use Rattle.replica.proofs.copy.renew_listed.Goals as goal

pub returns-then-mark_listed-clause-renewed : goal.returns-then-mark_listed-clause-renewed
returns-then-mark_listed-clause-renewed g c =
    renewed_listed g.O.Object c.args.shared.now c.args.held.now c.args.source c.args.seat.now c.mark_listed.new.seat c.mark_listed.ensures.leaves c.in_ok-place.place c.renew_marked.new.seat c.in_ok-place.ensures.renewed

pub returns-clause-renewed : goal.returns-clause-renewed
returns-clause-renewed g c =
    renewed_listed g.O.Object c.args.shared.now c.args.held.now c.args.source c.args.seat.now c.mark_listed.new.seat c.mark_listed.ensures.leaves c.in_ok-place-2.place c.renew_from.new.seat c.in_ok-place-2.ensures.renewed

pub returns-in_err-place-clause-halted : goal.returns-in_err-place-clause-halted
returns-in_err-place-clause-halted g c = on_err c.from_residual.result _ (listed_halts g.O.Object c.args.shared.now c.args.held.now c.args.source c.args.seat.now c.mark_listed.new.seat c.mark_listed.ensures.leaves c.renew_marked.new.seat c.in_err-place.ensures.halted)

pub returns-in_err-place-2-clause-halted : goal.returns-in_err-place-2-clause-halted
returns-in_err-place-2-clause-halted g c = on_err c.from_residual-in_err-place-2.result _ (listed_halts g.O.Object c.args.shared.now c.args.held.now c.args.source c.args.seat.now c.mark_listed.new.seat c.mark_listed.ensures.leaves c.renew_from.new.seat c.in_err-place-2.ensures.halted)

pub returns-in_err-place-clause-within : goal.returns-in_err-place-clause-within
returns-in_err-place-clause-within g c =
    listed_within g.O.Object c.args.shared.now c.args.held.now c.args.source c.args.seat.now c.mark_listed.new.seat c.mark_listed.ensures.leaves (16 * min (c.args.to - noted_place c.args.seat.now) (gap_slots c.args.shared.now.callers)) (3 * region_words (g.O.Object.line_count c.args.shared.now.object) + 1) _ c.renew_marked.new.seat (omega arith) c.mark_listed.ensures.steps c.renew_marked.ensures.within

pub returns-then-mark_listed-clause-within : goal.returns-then-mark_listed-clause-within
returns-then-mark_listed-clause-within g c =
    listed_within g.O.Object c.args.shared.now c.args.held.now c.args.source c.args.seat.now c.mark_listed.new.seat c.mark_listed.ensures.leaves (16 * min (c.args.to - noted_place c.args.seat.now) (gap_slots c.args.shared.now.callers)) (3 * region_words (g.O.Object.line_count c.args.shared.now.object) + 1) _ c.renew_marked.new.seat (omega arith) c.mark_listed.ensures.steps c.renew_marked.ensures.within

pub returns-in_err-place-2-clause-within : goal.returns-in_err-place-2-clause-within
returns-in_err-place-2-clause-within g c =
    listed_within g.O.Object c.args.shared.now c.args.held.now c.args.source c.args.seat.now c.mark_listed.new.seat c.mark_listed.ensures.leaves (16 * min (c.args.to - noted_place c.args.seat.now) (gap_slots c.args.shared.now.callers)) (3 * region_words (g.O.Object.line_count c.args.shared.now.object) + 1) _ c.renew_from.new.seat (omega arith) c.mark_listed.ensures.steps c.renew_from.ensures.within

pub returns-clause-within : goal.returns-clause-within
returns-clause-within g c =
    listed_within g.O.Object c.args.shared.now c.args.held.now c.args.source c.args.seat.now c.mark_listed.new.seat c.mark_listed.ensures.leaves (16 * min (c.args.to - noted_place c.args.seat.now) (gap_slots c.args.shared.now.callers)) (3 * region_words (g.O.Object.line_count c.args.shared.now.object) + 1) _ c.renew_from.new.seat (omega arith) c.mark_listed.ensures.steps c.renew_from.ensures.within
