use Rattle.std.proofs.Common.{◌≡◌, ◌+◌, ◌%◌, ◌/◌, ◌^◌, ◌<◌, length, slice_index, slice_set, true, inl, inr, subst, ◌∙◌, arith}
use Rattle.std.proofs.lemmas.Bool.{cases_lt}
use Rattle.std.proofs.lemmas.List.{length-set}
use Rattle.cx_table.specs.GapMarks.{IsMarked}
use Rattle.cx_table.proofs.GapWalks.{mark_set, marks_stay}
use Rattle.cx_table.proofs.gaps.mark_all.Goals as goal

pub loop-word-preserved : goal.loop-word-preserved
loop-word-preserved c =
    let was = c.loop-word.invariant in
    let marks = c.loop-word.marks in
    let i = c.loop-word.word-index in
    let words = c.args.words.now in
    let piece = c.piece_of-piece.result in
    let at : piece ≡ (slice_index words i % 2 ^ 17 + 7) / 8 = c.piece_of-piece.ensures in
    let below : piece < length marks = omega arith in
    record {
      marks = λ k under. elim (cases_lt k i) [
        | inl less ↦ marks_stay marks piece ((slice_index words k % 2 ^ 17 + 7) / 8) (was.marks k less)
        | inr more ↦ (let same : i ≡ k = omega (arith, under, more) in
            subst (λ j. IsMarked (slice_set marks piece true) ((slice_index words j % 2 ^ 17 + 7) / 8)) same (subst (IsMarked (slice_set marks piece true)) at (mark_set marks piece below)))
      ];
      kept = λ q is. marks_stay marks piece q (was.kept q is);
      long = length-set marks piece true ∙ was.long;
    }
