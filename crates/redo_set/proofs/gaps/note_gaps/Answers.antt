use Rattle.std.proofs.Common.{◌≡◌, ◌+◌, ap, subst, refl, ◌∙◌, arith, length, take}
use Rattle.std.proofs.lemmas.Bool.{false≢true}
use Rattle.std.proofs.lemmas.List.{length-take-le}
use Rattle.redo_set.specs.Gaps.{NotesGaps, gaps_of}
use Rattle.redo_set.proofs.GapCounts.{notes_most}
use Rattle.redo_set.proofs.GapEnds.{ends_taken}
use Rattle.redo_set.proofs.gaps.note_gaps.Goals as goal

pub note_each-requires-clause-ends : goal.note_each-requires-clause-ends
note_each-requires-clause-ends g c =
    let few = c.in-Some.ensures.ends.are.few in
    ends_taken c.args.set.now _ (146 + c.args.shared.now.lines) c.gap_ends.new.ends c.in-Some.count (ap (λ n. 146 + n) c.lines.ensures.value) (omega (arith, few, c.gap_ends.auto.ends)) c.in-Some.ensures.ends.are

pub returns-then-not-keeps_gaps-clause-noted : goal.returns-then-not-keeps_gaps-clause-noted
returns-then-not-keeps_gaps-clause-noted g c = λ is. absurd (false≢true (c.if-not-keeps_gaps.ensures.1 is.kept))

pub returns-in-None-clause-noted : goal.returns-in-None-clause-noted
returns-in-None-clause-noted g c = λ is.
    let same : gaps_of c.args.set.now (146 + c.lines.result) ≡ gaps_of c.args.set.now (146 + c.args.shared.now.lines) = ap (λ n. gaps_of c.args.set.now (146 + n)) c.lines.ensures.value in
    let few = is.few in
    absurd (omega (arith, same, few, c.in-None.ensures.many))

pub returns-in-Some-clause-noted : goal.returns-in-Some-clause-noted
returns-in-Some-clause-noted g c = λ is.
    let all = c.in-Some.ensures.ends in
    let few = all.are.few in
    let long : length (take c.in-Some.count c.gap_ends.new.ends) ≡ c.in-Some.count = length-take-le c.in-Some.count c.gap_ends.new.ends (omega (arith, few)) in
    let same = ap (λ n. gaps_of c.args.set.now (146 + n)) c.lines.ensures.value in
    subst (λ n. NotesGaps n c.args.seat.now c.note_each.new.seat c.note_each.result) (long ∙ all.count ∙ same) c.note_each.ensures.noted

pub returns-in-Some-clause-none : goal.returns-in-Some-clause-none
returns-in-Some-clause-none g c = λ none.
    let all = c.in-Some.ensures.ends in
    let few = all.are.few in
    let count = all.count in
    let same : gaps_of c.args.set.now (146 + c.lines.result) ≡ gaps_of c.args.set.now (146 + c.args.shared.now.lines) = ap (λ n. gaps_of c.args.set.now (146 + n)) c.lines.ensures.value in
    absurd (none (record { kept = c.if-not-keeps_gaps.ensures.0 refl; few = omega (arith, same, count, few) }))

pub returns-in-Some-clause-few : goal.returns-in-Some-clause-few
returns-in-Some-clause-few g c =
    let few = c.in-Some.ensures.ends.are.few in
    let long = length-take-le c.in-Some.count c.gap_ends.new.ends (omega (arith, few)) in
    notes_most (length (take c.in-Some.count c.gap_ends.new.ends)) 16 c.args.seat.now c.note_each.new.seat c.note_each.result (omega (arith, long, few)) c.note_each.ensures.noted
