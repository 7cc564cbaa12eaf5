-- The first region: its zeros, and that it is a lawful base.
use Rattle.std.proofs.Common.{◌≡◌, ◌+◌, ◌-◌, ◌*◌, ◌^◌, ◌<◌, ◌≤◌, ℕ, List, [], ◌++◌, length, take, drop, replicate, slice_index, sym, ap, ◌∙◌, subst, arith}
use Rattle.std.specs.List.{All}
use Rattle.std.proofs.lemmas.List.{append-nil, length-append, length-replicate, replicate-append-replicate, get_or_append_left, get_or-replicate, drop-append-le, drop-replicate, take-append-le, take-replicate, drop_at}
use Rattle.cx_base.specs.Memory.{Words, overwritten}
use Rattle.cx_core.specs.Region.{region_words, slot_start, slot_reply, object_part, LawfulResults}
use Rattle.cx_core.specs.Base.{LawfulBase, no_results, fresh_region}
use Rattle.cx_core.specs.Step.{OnPart}
use Rattle.cx_core.proofs.StepLemmas.{overwritten_middle}

no_results_long : length no_results ≡ 1168
unfolding no_results
no_results_long = length-replicate {A = ℕ} 1168 0

-- a region of zeros is no results and zeros behind them
zeros_split : (lines n : ℕ) → n ≡ region_words lines → replicate n 0 ≡ no_results ++ replicate (8 * lines) 0 ++ []
unfolding no_results
zeros_split lines n e =
    let sum : n ≡ 1168 + 8 * lines = omega (arith, e) in
    ap (λ m. replicate {A = ℕ} m 0) sum ∙ sym (replicate-append-replicate {A = ℕ} 1168 (8 * lines) 0) ∙ sym (append-nil (replicate {A = ℕ} 1168 0 ++ replicate (8 * lines) 0))

-- the opening image made in the object part of zeros
pub fresh_made : (lines n : ℕ) (opening ws vs : List ℕ) → n ≡ region_words lines → ws ≡ replicate n 0 → length opening ≡ 8 * lines →
    OnPart 1168 (λ _ now. now ≡ opening) ws vs → vs ≡ fresh_region opening
fresh_made lines n opening ws vs count zeros long done =
    done.rest
    ∙ ap (λ xs. overwritten 1168 xs ws) done.part
    ∙ ap (overwritten 1168 opening) (zeros ∙ zeros_split lines n count)
    ∙ overwritten_middle opening no_results (replicate {A = ℕ} (8 * lines) 0) [] 1168 no_results_long (long ∙ sym (length-replicate {A = ℕ} (8 * lines) 0))
    ∙ append-nil (no_results ++ opening)

module _ (opening : List ℕ) where
  zero_in_front : (at : ℕ) → at < 1168 → slice_index (fresh_region opening) at ≡ 0
  unfolding no_results
  zero_in_front at below =
      get_or_append_left (replicate {A = ℕ} 1168 0) opening 0 at (subst (λ n. at < n) (sym (length-replicate {A = ℕ} 1168 0)) below)
      ∙ get_or-replicate {A = ℕ} 1168 at 0 0 below

  zeros_in_front : (at n : ℕ) → at + n ≤ 1168 → take n (drop at (fresh_region opening)) ≡ replicate n 0
  unfolding no_results
  zeros_in_front at n within =
      let long = length-replicate {A = ℕ} 1168 0 in
      let rest = 1168 - at in
      let dropped = drop-append-le at (replicate {A = ℕ} 1168 0) opening (omega (arith, long)) ∙ ap (λ xs. xs ++ opening) (drop-replicate {X = ℕ} at 1168 0) in
      ap (take n) dropped
      ∙ take-append-le n (replicate {A = ℕ} (1168 - at) 0) opening (omega (arith, length-replicate {A = ℕ} (1168 - at) 0))
      ∙ take-replicate {X = ℕ} n (1168 - at) 0 (omega arith)

  fresh_results : LawfulResults (fresh_region opening)
  unfolding slot_reply
  fresh_results = record {
    zeros = λ at some few. zero_in_front at (omega arith);
    empty = λ caller few none. zeros_in_front (8 + 145 * caller + 1) 144 (omega arith);
  }

  fresh_object : object_part (fresh_region opening) ≡ opening
  unfolding object_part
  fresh_object = drop_at no_results opening 1168 no_results_long

-- the first region is a lawful base
pub fresh_lawful : (lines : ℕ) (lawful : List ℕ → Type 0) (opening vs : List ℕ) → vs ≡ fresh_region opening → Words (8 * lines) opening → All (λ x. x < 2 ^ 64) vs → lawful opening →
    LawfulBase lines lawful (record { place = 0; words = vs })
fresh_lawful lines lawful opening vs made words fit opens = record {
  size = record {
    long = ap length made ∙ length-append no_results opening ∙ omega (arith, no_results_long, words.long);
    fit = fit;
  };
  at_place = ap (λ xs. slice_index xs 0) made ∙ zero_in_front opening 0 (omega arith);
  place_within = omega arith;
  results = subst LawfulResults (sym made) (fresh_results opening);
  object = subst lawful (sym (ap object_part made ∙ fresh_object opening)) opens;
  numbers = λ caller few. subst (λ n. n ≤ 0) (sym (ap (λ xs. slice_index xs (slot_start caller)) made ∙ zero_in_front opening (slot_start caller) (omega arith))) (omega arith);
}
