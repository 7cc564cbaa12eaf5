-- Words put over a list of words. What is known of words of 64 bits stands in the specs, since laws of objects cite it.
use Rattle.std.proofs.Common.{◌≡◌, ◌≢◌, ◌+◌, ◌^◌, ◌<◌, ◌≤◌, ℕ, zero, suc, List, [], ◌∷◌, ◌++◌, ◌-◌, ◌⊎◌, inl, inr, length, take, drop, slice_index, slice_set, refl, sym, ap, ◌∙◌, arith}
use Rattle.std.specs.List.{All}
use Rattle.std.proofs.lemmas.List.{length-set, take_all, take-append-drop, take_more, length-take-le, get_or-set_same, get_or-set_other, set-get_or}
use Rattle.std.proofs.Math.Seq.{take-append-add}
use Rattle.std.proofs.lemmas.List.Elements.{All-head, All-tail}
use Rattle.cx_base.specs.Memory.{Words, overwritten}
pub use Rattle.cx_base.specs.WordLaws.{Words-set, Words-at, Words-then_zeros}

-- no word put
pub overwritten_none : (at : ℕ) (ws : List ℕ) → overwritten at [] ws ≡ ws
unfolding overwritten
overwritten_none at ws = refl

-- one word more put at the end
pub overwritten_more : (vs ws : List ℕ) (at i v : ℕ) → length vs ≡ i → overwritten at (vs ++ v ∷ []) ws ≡ slice_set (overwritten at vs ws) (at + i) v
unfolding overwritten
overwritten_more [] ws at i v e = ap (λ n. slice_set ws n v) (omega (arith, e))
overwritten_more (x ∷ vs) ws at i v e =
    let here : at + 1 + length vs ≡ at + i = omega (arith, e) in
    overwritten_more vs (slice_set ws at x) (at + 1) (length vs) v refl ∙ ap (λ n. slice_set (overwritten (at + 1) vs (slice_set ws at x)) n v) here

-- as many words as before
pub length-overwritten : (vs ws : List ℕ) (at : ℕ) → length (overwritten at vs ws) ≡ length ws
unfolding overwritten
length-overwritten [] ws at = refl
length-overwritten (v ∷ vs) ws at = length-overwritten vs (slice_set ws at v) (at + 1) ∙ length-set ws at v

-- the next word put of those to put
pub overwritten_next : (vs before ws : List ℕ) (at i : ℕ) → i < length vs → ws ≡ overwritten at (take i vs) before → slice_set ws (at + i) (slice_index vs i) ≡ overwritten at (take (i + 1) vs) before
overwritten_next vs before ws at i below e =
    ap (λ xs. slice_set xs (at + i) (slice_index vs i)) e
    ∙ sym (overwritten_more (take i vs) before at i (slice_index vs i) (length-take-le i vs (omega arith)))
    ∙ ap (λ xs. overwritten at xs before) (sym (take_more vs i 0 below))

-- a word need not be put where it stands already
agreed_next : (vs before ws : List ℕ) (at i : ℕ) → i < length vs → ws ≡ overwritten at (take i vs) before → slice_index vs i ≡ slice_index ws (at + i) → ws ≡ overwritten at (take (i + 1) vs) before
agreed_next vs before ws at i below e same =
    sym (set-get_or ws (at + i) 0)
    ∙ ap (λ v. slice_set ws (at + i) v) (sym same)
    ∙ overwritten_next vs before ws at i below e

agreed_by : (vs before ws : List ℕ) (at i to k : ℕ) → i + k ≡ to → to ≤ length vs → ws ≡ overwritten at (take i vs) before → ((j : ℕ) → i ≤ j → j < to → slice_index vs j ≡ slice_index ws (at + j)) → ws ≡ overwritten at (take to vs) before
agreed_by vs before ws at i to zero sum within e same =
    let here : i ≡ to = omega (arith, sum) in
    e ∙ ap (λ n. overwritten at (take n vs) before) here
agreed_by vs before ws at i to (suc k) sum within e same =
    let less : i < to = omega (arith, sum) in
    let next = agreed_next vs before ws at i (omega (arith, less, within)) e (same i (omega arith) less) in
    agreed_by vs before ws at (i + 1) to k (omega (arith, sum)) within next (λ j from below. same j (omega (arith, from)) below)

-- nor the next words
pub overwritten_agreed : (vs before ws : List ℕ) (at i to : ℕ) → i ≤ to → to ≤ length vs → ws ≡ overwritten at (take i vs) before → ((j : ℕ) → i ≤ j → j < to → slice_index vs j ≡ slice_index ws (at + j)) → ws ≡ overwritten at (take to vs) before
overwritten_agreed vs before ws at i to less within e same = agreed_by vs before ws at i to (to - i) (omega arith) within e same

-- words put behind others
pub overwritten_then : (xs ys ws : List ℕ) (at : ℕ) → overwritten at (xs ++ ys) ws ≡ overwritten (at + length xs) ys (overwritten at xs ws)
unfolding overwritten
overwritten_then [] ys ws at = ap (λ n. overwritten n ys ws) (omega arith)
overwritten_then (x ∷ xs) ys ws at = overwritten_then xs ys (slice_set ws at x) (at + 1) ∙ ap (λ n. overwritten n ys (overwritten (at + 1) xs (slice_set ws at x))) (omega arith)

-- the first words, and those behind them up to an end that is that of all words or comes before it
take_slice : (ws : List ℕ) (from to n : ℕ) → from ≤ to → from ≤ length ws → (to ≡ n) ⊎ ((to ≡ length ws) × (length ws ≤ n)) → take n ws ≡ take from ws ++ take (to - from) (drop from ws)
take_slice ws from to n less within ends =
    let xs = take from ws in
    let ys = drop from ws in
    let long : length xs ≡ from = length-take-le from ws within in
    let sum : to ≡ length xs + (to - from) = omega (arith, long) in
    let cut : take n ws ≡ take to ws = elim ends [
      | inl same ↦ ap (λ k. take k ws) (sym same)
      | inr past ↦ take_all n ws past.1 ∙ sym (take_all to ws (omega (arith, past.0)))
    ] in
    cut ∙ ap (λ k. take k ws) sum ∙ ap (λ zs. take (length xs + (to - from)) zs) (sym (take-append-drop from ws)) ∙ take-append-add xs ys (to - from)

-- the next words put of those to put
pub overwritten_slice : (vs before ws after : List ℕ) (at from to n : ℕ) → from ≤ to → from ≤ length vs → (to ≡ n) ⊎ ((to ≡ length vs) × (length vs ≤ n)) → ws ≡ overwritten at (take from vs) before → after ≡ overwritten (at + from) (take (to - from) (drop from vs)) ws →
    after ≡ overwritten at (take n vs) before
overwritten_slice vs before ws after at from to n less within ends was is =
    let xs = take from vs in
    let ys = take (to - from) (drop from vs) in
    is
    ∙ ap (λ ws. overwritten (at + from) ys ws) was
    ∙ ap (λ k. overwritten (at + k) ys (overwritten at xs before)) (sym (length-take-le from vs within))
    ∙ sym (overwritten_then xs ys before at)
    ∙ ap (λ zs. overwritten at zs before) (sym (take_slice vs from to n less within ends))

-- words put among words
pub Words-overwritten : (n : ℕ) (vs ws : List ℕ) (at : ℕ) → All (λ x. x < 2 ^ 64) vs → Words n ws → Words n (overwritten at vs ws)
unfolding overwritten
Words-overwritten n [] ws at small w = w
Words-overwritten n (v ∷ vs) ws at small w =
    Words-overwritten n vs (slice_set ws at v) (at + 1) (All-tail (λ x. x < 2 ^ 64) v vs small) (Words-set n ws at v (All-head (λ x. x < 2 ^ 64) v vs small) w)

-- where words `vs` were put into `ws` from a place on, a word before that place stays
pub overwritten_before : (vs ws : List ℕ) (at i : ℕ) → i < at → slice_index (overwritten at vs ws) i ≡ slice_index ws i
unfolding overwritten
overwritten_before [] ws at i below = refl
overwritten_before (v ∷ vs) ws at i below =
    let apart : i ≢ at = λ e. omega (arith, e) in
    overwritten_before vs (slice_set ws at v) (at + 1) i (omega arith) ∙ get_or-set_other ws at i v 0 apart

-- where words `vs` were put into `ws` from a place on, a word behind them stays
pub overwritten_behind : (vs ws : List ℕ) (at i : ℕ) → at + length vs ≤ i → slice_index (overwritten at vs ws) i ≡ slice_index ws i
unfolding overwritten
overwritten_behind [] ws at i past = refl
overwritten_behind (v ∷ vs) ws at i past =
    let apart : i ≢ at = λ e. omega (arith, e) in
    overwritten_behind vs (slice_set ws at v) (at + 1) i (omega arith) ∙ get_or-set_other ws at i v 0 apart

-- where words `vs` were put into `ws` from a place on, word k of them stands k places behind that place, if `ws` is long enough
pub overwritten_within : (vs ws : List ℕ) (at k : ℕ) → k < length vs → at + k < length ws → slice_index (overwritten at vs ws) (at + k) ≡ slice_index vs k
unfolding overwritten
overwritten_within [] ws at k below inside = absurd (omega arith)
overwritten_within (v ∷ vs) ws at zero below inside =
    let here : at + 0 ≡ at = omega arith in
    ap (λ n. slice_index (overwritten (at + 1) vs (slice_set ws at v)) n) here ∙ overwritten_before vs (slice_set ws at v) (at + 1) at (omega arith) ∙ get_or-set_same ws at v 0 (omega arith)
overwritten_within (v ∷ vs) ws at (suc k) below inside =
    let on : at + suc k ≡ at + 1 + k = omega arith in
    ap (λ n. slice_index (overwritten (at + 1) vs (slice_set ws at v)) n) on ∙ overwritten_within vs (slice_set ws at v) (at + 1) k (omega arith) (omega (arith, length-set ws at v))
