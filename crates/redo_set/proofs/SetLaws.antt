-- What storing a set with one pair more does.
use Rattle.std.proofs.Common.{◌≡◌, ◌+◌, ◌*◌, ◌<◌, ℕ, zero, suc, List, length, slice_index, slice_set, refl, ap, ◌∙◌, arith}
use Rattle.std.proofs.lemmas.List.{get_or-set_other, get_or-set_same, length-set}
use Rattle.cx_core.specs.WriteSet.{stored}
use Rattle.redo_set.specs.Sets.{put_over, set_with_pair}

-- what is stored depends on the words of the pairs alone
pub stored_same : (n : ℕ) (set set' words : List ℕ) → ((i : ℕ) → 0 < i → i < 2 * n + 1 → slice_index set' i ≡ slice_index set i) → stored n set' words ≡ stored n set words
stored_same zero set set' words same = refl
stored_same (suc n) set set' words same =
    let rest = stored_same n set set' words (λ i some below. same i some (omega (arith, below))) in
    ap (λ ws. slice_set ws (slice_index set' (2 * n + 1)) (slice_index set' (2 * n + 2))) rest
    ∙ ap (λ at. slice_set (stored n set words) at (slice_index set' (2 * n + 2))) (same (2 * n + 1) (omega arith) (omega arith))
    ∙ ap (λ v. slice_set (stored n set words) (slice_index set (2 * n + 1)) v) (same (2 * n + 2) (omega arith) (omega arith))

one_more : (n : ℕ) → n + 1 ≡ suc n
one_more n = omega arith

module _ (set : List ℕ) (at v : ℕ) (long : length set ≡ 513) (room : slice_index set 0 < 256) where
  abbrev one : List ℕ
  one = slice_set set (2 * slice_index set 0 + 1) at

  abbrev two : List ℕ
  two = slice_set one (2 * slice_index set 0 + 2) v

  two_long : length two ≡ 513
  two_long = length-set one (2 * slice_index set 0 + 2) v ∙ length-set set (2 * slice_index set 0 + 1) at ∙ long

  pair_count : slice_index (set_with_pair at v set) 0 ≡ slice_index set 0 + 1
  pair_count = get_or-set_same two 0 (slice_index set 0 + 1) 0 (omega (arith, two_long))

  pair_value : slice_index (set_with_pair at v set) (2 * slice_index set 0 + 2) ≡ v
  pair_value =
      get_or-set_other two 0 (2 * slice_index set 0 + 2) (slice_index set 0 + 1) 0 (λ e. omega (arith, e))
      ∙ get_or-set_same one (2 * slice_index set 0 + 2) v 0 (omega (arith, long, room, length-set set (2 * slice_index set 0 + 1) at))

  pair_at : slice_index (set_with_pair at v set) (2 * slice_index set 0 + 1) ≡ at
  pair_at =
      get_or-set_other two 0 (2 * slice_index set 0 + 1) (slice_index set 0 + 1) 0 (λ e. omega (arith, e))
      ∙ get_or-set_other one (2 * slice_index set 0 + 2) (2 * slice_index set 0 + 1) v 0 (λ e. omega (arith, e))
      ∙ get_or-set_same set (2 * slice_index set 0 + 1) at 0 (omega (arith, long, room))

  -- the pairs of a set stay where one more is put behind them
  pair_rest : (i : ℕ) → 0 < i → i < 2 * slice_index set 0 + 1 → slice_index (set_with_pair at v set) i ≡ slice_index set i
  pair_rest i some below =
      get_or-set_other two 0 i (slice_index set 0 + 1) 0 (λ e. omega (arith, e, some))
      ∙ get_or-set_other one (2 * slice_index set 0 + 2) i v 0 (λ e. omega (arith, e, below))
      ∙ get_or-set_other set (2 * slice_index set 0 + 1) i at 0 (λ e. omega (arith, e, below))

  -- the pair that is put behind the others is stored last
  pub pair_put : (words : List ℕ) → put_over (set_with_pair at v set) words ≡ slice_set (put_over set words) at v
  unfolding put_over
  pair_put words =
      let n = slice_index set 0 in
      ap (λ k. stored k (set_with_pair at v set) words) (pair_count ∙ one_more n)
      ∙ ap (λ ws. slice_set ws (slice_index (set_with_pair at v set) (2 * n + 1)) (slice_index (set_with_pair at v set) (2 * n + 2))) (stored_same n set (set_with_pair at v set) words pair_rest)
      ∙ ap (λ a. slice_set (stored n set words) a (slice_index (set_with_pair at v set) (2 * n + 2))) pair_at
      ∙ ap (λ w. slice_set (stored n set words) at w) pair_value
