use Rattle.std.proofs.Common.{◌≡◌, refl, sym, subst, ap, ◌∙◌, arith, length, slice_index}
use Rattle.std.proofs.lemmas.Result.{err_from_is_err_and}
use Rattle.cx_core.specs.Gaps.{gap_of}
use Rattle.cx_core.specs.State.{one_more}
use Rattle.table_invariant.specs.Seats.{Seated}
use Rattle.redo_set.specs.Gaps.{LeavesGap, NotesGaps, steps_on}
use Rattle.redo_set.proofs.GapCounts.{steps_next}
use Rattle.redo_set.proofs.GapEnds.{begins_at, noting_more, noting_none, tells_gap}
use Rattle.redo_set.proofs.gaps.note_each.Goals as goal

pub loop-k-init : goal.loop-k-init
loop-k-init g c = record { leaves = noting_none g.O.Object c.args.shared.now c.args.seat.now c.args.seat.now c.requires.may.of refl; at = refl; steps = refl }

pub note_gap-requires-clause-gap : goal.note_gap-requires-clause-gap
note_gap-requires-clause-gap g c =
    let t = c.args.shared.now in
    let was = c.loop-k.invariant in
    let k = c.loop-k.k in
    let from = c.loop-k.from in
    let to = slice_index c.args.ends.now k in
    let callers = c.callers-callers.ensures.value in
    let slot = c.gap_slot-slot.result in
    let word = c.gap_word-word.result in
    let names : gap_of t.callers slot word ≡ record { ticket = c.args.ticket; from = from; to = to } =
    ap (λ n. gap_of n slot word) (sym callers) ∙ ap (λ s. gap_of c.callers-callers.result s word) c.gap_slot-slot.ensures.value ∙ c.gap_word-word.ensures in
    tells_gap g.O.Object t c.args.set.now c.args.ticket from to slot word c.args.seat.now c.loop-k.seat was.leaves c.requires.may
    (subst (λ f. LeavesGap c.args.set.now f to) (sym was.at) (c.requires.ends.each k c.loop-k-test.true)) names

pub loop-k-preserved : goal.loop-k-preserved
loop-k-preserved g c =
    let was = c.loop-k.invariant in
    let k = c.loop-k.k in
    let made = c.in_ok-note_gap.ensures.made in
    record {
      leaves = noting_more g.O.Object c.args.shared.now c.gap_slot-slot.result k c.gap_word-word.result c.args.seat.now c.loop-k.seat c.note_gap.new.seat was.leaves made.made made.seat c.in_ok-note_gap.ensures.fits;
      at = begins_at c.args.ends.now k;
      steps = ap (λ (s : Seated). s.known.local.steps) made.made ∙ ap one_more was.steps ∙ sym (steps_next k c.args.seat.now.known.local.steps);
    }

pub returns-in_err-note_gap-clause-noted : goal.returns-in_err-note_gap-clause-noted
returns-in_err-note_gap-clause-noted g c =
    let err = err_from_is_err_and c.from_residual.result c.from_residual.ensures.1 in
    subst (NotesGaps (length c.args.ends.now) c.args.seat.now c.note_gap.new.seat) (sym err.1)
    (c.loop-k.k, c.loop-k-test.true, ap (λ (s : Seated). s.known.local.steps) c.in_err-note_gap.ensures.halted.same ∙ c.loop-k.invariant.steps)

pub returns-clause-noted : goal.returns-clause-noted
returns-clause-noted g c =
    let all : c.loop-k.k ≡ length c.args.ends.now = omega (arith, c.loop-k-test.false, c.loop-k.auto.k-end) in
    c.loop-k.invariant.steps ∙ ap (λ n. steps_on n c.args.seat.now.known.local.steps) all
