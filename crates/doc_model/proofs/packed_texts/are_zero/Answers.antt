use Rattle.std.proofs.Common.{◌≡◌, get_or, ap₂, ◌∙◌, arith}
use Rattle.std.specs.Int.RustNames.{bit_or}
use Rattle.std.proofs.lemmas.Bool.{eqb-true, eq-eqb}
use Rattle.std.proofs.lemmas.List.{get_or_default}
use borrow.Author.Count.{below_more}
use Rattle.doc_model.proofs.PackedTexts.{or_zero}
use Rattle.doc_model.proofs.packed_texts.are_zero.Goals as goal

pub loop-word-preserved : goal.loop-word-preserved
loop-word-preserved c =
    let l = c.loop-word in
    let i = l.invariant in
    record {
      none = λ e. (let both = or_zero l.all (get_or c.args.words.now l.word-index 0) e in below_more (λ k. get_or c.args.words.now k 0 ≡ 0) l.word-index (i.none both.0) both.1);
      only = λ h. ap₂ bit_or (i.only (λ k below. h k (omega arith))) (h l.word-index (omega arith));
    }

pub returns : goal.returns
returns c =
    let l = c.loop-word in
    let words = c.args.words.now in (
      λ yes k d within. get_or_default words k d 0 within ∙ l.invariant.none (eqb-true l.all 0 yes) k (omega arith),
      λ all. eq-eqb l.all 0 (l.invariant.only (λ k below. all k 0 (omega arith))),
    )
