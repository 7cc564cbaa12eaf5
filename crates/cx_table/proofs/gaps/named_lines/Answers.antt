use Rattle.std.proofs.Common.{◌≡◌, ◌+◌, ◌%◌, ◌^◌, suc, inl, inr, refl, ap, sym, subst, ◌∙◌, slice_index, arith}
use Rattle.std.proofs.lemmas.Bool.{cases_lt}
use Rattle.cx_core.specs.Gaps.{Gap, gap_of}
use Rattle.cx_table.specs.GapWords.{start_at}
use Rattle.cx_table.proofs.gaps.named_lines.Goals as goal

pub loop-m-init : goal.loop-m-init
loop-m-init c = record { each = λ k below. absurd (omega (arith, below)); line = refl }

pub returns-then-to-lines : goal.returns-then-to-lines
returns-then-to-lines c = record {
  within = c.loop-m-test.true;
  each = c.loop-m.invariant.each;
  last = c.in-Some.ensures
      ∙ ap (λ f. (let g : Gap = record { ticket = c.args.ticket; from = f; to = c.in-Some.to } in g)) c.loop-m.invariant.line
      ∙ ap (λ t. (let g : Gap = record { ticket = c.args.ticket; from = start_at c.args.words.now c.loop-m.m; to = t } in g)) c.if-to-lines.true;
}

pub loop-m-preserved : goal.loop-m-preserved
loop-m-preserved c =
    let m = c.loop-m.m in
    let words = c.args.words.now in
    let next : m + 1 ≡ suc m = omega arith in
    let is_gap : gap_of c.args.callers c.args.slot (slice_index words m) ≡ record { ticket = c.args.ticket; from = c.loop-m.at; to = c.in-Some.to } = c.in-Some.ensures in
    let to : slice_index words m % 2 ^ 17 ≡ c.in-Some.to = ap (λ (g : Gap). g.to) is_gap in
    let here : gap_of c.args.callers c.args.slot (slice_index words m) ≡ record { ticket = c.args.ticket; from = start_at words m; to = slice_index words m % 2 ^ 17 } =
    is_gap
    ∙ ap (λ f. (let g : Gap = record { ticket = c.args.ticket; from = f; to = c.in-Some.to } in g)) c.loop-m.invariant.line
    ∙ ap (λ t. (let g : Gap = record { ticket = c.args.ticket; from = start_at words m; to = t } in g)) (sym to) in
    record {
      each = λ k below. elim (cases_lt k m) [
        | inl less ↦ c.loop-m.invariant.each k less
        | inr more ↦ (
            let same : m ≡ k = omega (arith, below, more) in
            subst (λ j. gap_of c.args.callers c.args.slot (slice_index words j) ≡ record { ticket = c.args.ticket; from = start_at words j; to = slice_index words j % 2 ^ 17 }) same here)
      ];
      line = sym to ∙ ap (start_at words) (sym next);
    }
