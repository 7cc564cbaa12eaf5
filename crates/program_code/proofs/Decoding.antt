-- One instruction more is decoded.
use Rattle.std.proofs.Common.{◌≡◌, ◌+◌, ℕ, List, [], ◌∷◌, ◌++◌, slice_index_or, Ok, ap, sym, subst, ◌∙◌, arith, below_more, length-append}
use Rattle.std.proofs.Math.ListN.{get_or-append}
use Rattle.std.proofs.Math.Seq.{get_or-append_seam}
use Rattle.program_code.specs.Program.{DecodesTo, decoded}
use Rattle.program_code.specs.declared.instruction.Instruction.{Instruction}
use Rattle.program_code.specs.declared.instruction.Instruction.TheVariants.{Exit}

-- where `code` is what the first `n` words decode to, and the next word decodes to `i`, `code` and then `i` is what the first `n + 1` decode to
pub one_more : (words : List ℕ) (n : ℕ) (code next : List Instruction) (i : Instruction) →
    DecodesTo words n code → decoded words n ≡ Ok i → next ≡ code ++ (i ∷ []) → DecodesTo words (n + 1) next
one_more words n code next i d is e =
    let P : List Instruction → Type 0 = λ xs. DecodesTo words (n + 1) xs in
    subst P (sym e) (record {
      long = omega (arith, length-append code (i ∷ []), d.long);
      each = below_more (λ k. decoded words k ≡ Ok (slice_index_or (code ++ (i ∷ [])) k Exit)) n
          (λ k l. d.each k l ∙ sym (ap (λ x. Ok x) (get_or-append code (i ∷ []) Exit k (omega (arith, l, d.long)))))
          (is ∙ sym (ap (λ x. Ok x) (ap (λ m. slice_index_or (code ++ (i ∷ [])) m Exit) (sym d.long) ∙ get_or-append_seam code i [] Exit)));
    })
