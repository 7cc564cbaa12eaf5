-- Lists of words of 64 bits.
use Rattle.std.specs.Prelude.{◌^◌, ◌<◌, ℕ, suc, List, ◌∷◌, length, replicate, slice_index, slice_set}
use Rattle.std.proofs.Common.{sym, ap, subst, ◌∙◌, inl, inr, lit<}
use Rattle.std.proofs.lemmas.Bool.{cases_lt}
use Rattle.std.proofs.lemmas.List.{get_or_past, length-set, length-replicate}
use Rattle.std.proofs.lemmas.List.Elements.{All-set, All-cons, All-replicate}
use Rattle.cx_base.specs.Memory.{Words}

-- a word put among words
pub Words-set : (n : ℕ) (ws : List ℕ) (at v : ℕ) → v < 2 ^ 64 → Words n ws → Words n (slice_set ws at v)
Words-set n ws at v small w = record { long = length-set ws at v ∙ w.long; fit = All-set (λ x. x < 2 ^ 64) ws at v small w.fit }

-- one of some words, and 0 past their end
pub Words-at : (n : ℕ) (ws : List ℕ) (at : ℕ) → Words n ws → slice_index ws at < 2 ^ 64
Words-at n ws at w = elim (cases_lt at (length ws)) [
  | inl lt ↦ w.fit at 0 lt
  | inr ge ↦ subst (λ v. v < 2 ^ 64) (sym (get_or_past ws at 0 ge)) (lit< tt)
]

-- one word and as many zeros
pub Words-then_zeros : (v n : ℕ) → v < 2 ^ 64 → Words (suc n) (v ∷ replicate n 0)
Words-then_zeros v n small = record {
  long = ap suc (length-replicate n 0);
  fit = All-cons (λ x. x < 2 ^ 64) v (replicate n 0) small (All-replicate (λ x. x < 2 ^ 64) n 0 (lit< tt));
}
