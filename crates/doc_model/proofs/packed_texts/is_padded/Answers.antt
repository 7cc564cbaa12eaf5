use Rattle.std.proofs.Common.{◌≡◌, ◌+◌, ◌-◌, ◌/◌, ◌<◌, ◌^◌, ℕ, All, length, drop, get_or, sym, subst, arith}
use Rattle.std.proofs.lemmas.Bool.{false≢true}
use Rattle.std.proofs.lemmas.List.{take_all, length-drop}
use Rattle.doc_model.proofs.PackedTexts.{padded_here, padded_by, rest_zero}
use Rattle.doc_model.proofs.packed_texts.is_padded.Goals as goal

pub returns-then-words-whole-ne0 : goal.returns-then-words-whole-ne0
returns-then-words-whole-ne0 c =
    let words = c.args.words.now in
    let small : (k : ℕ) → get_or words k 0 < 2 ^ 64 = λ k. (let fits = c.type_inv.words k in omega arith) in (
      λ no. absurd (false≢true no),
      λ padded. absurd (c.if-words-whole-ne0.true (padded_here words c.args.len small padded)),
    )

pub returns : goal.returns
returns c =
    let words = c.args.words.now in
    let small : (k : ℕ) → get_or words k 0 < 2 ^ 64 = λ k. (let fits = c.type_inv.words k in omega arith) in
    let from = c.args.len / 8 + 1 in
    let whole = take_all (length words - (c.args.len / 8 + 1)) (drop (c.args.len / 8 + 1) words) (omega (arith, length-drop (c.args.len / 8 + 1) words)) in (
      λ yes. padded_by words c.args.len c.if-words-whole-ne0.false (subst (All (λ w. w ≡ 0)) whole (c.are_zero.ensures.0 yes)),
      λ padded. c.are_zero.ensures.1 (subst (All (λ w. w ≡ 0)) (sym whole) (rest_zero words c.args.len small padded)),
    )
