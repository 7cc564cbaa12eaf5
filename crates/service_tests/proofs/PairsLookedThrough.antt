-- Pairs that were looked through one after another.
use Rattle.std.proofs.Common.{◌≡◌, ◌+◌, ◌<◌, ◌≤◌, ℕ, List, [], ◌∷◌, ◌++◌, length, take, get_or, sym, subst, arith}
use Rattle.std.proofs.lemmas.List.{take_all, take_more}
use Rattle.std.proofs.lemmas.List.Elements.{All-nil, All-push, All-weaker}
use Rattle.recovery.specs.Images.{RiseFrom}
use Rattle.recovery.proofs.Pairs.{Below, pushed_rises}

-- the first i pairs rise below an address and below an end
pub record RiseTo (pairs : List (ℕ × ℕ)) (end_ from i : ℕ) : Type 0 where
  pub rising : RiseFrom 0 (take i pairs)
  pub below : Below from (take i pairs)
  pub inside : Below end_ (take i pairs)

pub rise_none : (pairs : List (ℕ × ℕ)) (end_ : ℕ) → RiseTo pairs end_ 0 0
rise_none pairs end_ = record { rising = tt; below = All-nil (λ (p : ℕ × ℕ). p.0 < 0); inside = All-nil (λ (p : ℕ × ℕ). p.0 < end_) }

pub rise_more : (pairs : List (ℕ × ℕ)) (end_ from i : ℕ) → i < length pairs → RiseTo pairs end_ from i → from ≤ (get_or pairs i (0, 0)).0 → (get_or pairs i (0, 0)).0 < end_ →
    RiseTo pairs end_ ((get_or pairs i (0, 0)).0 + 1) (i + 1)
rise_more pairs end_ from i within so_far above inside =
    let p = get_or pairs i (0, 0) in
    let front = take i pairs in
    let lower : (n : ℕ) → from ≤ n → Below n front = λ n more. All-weaker (λ (q : ℕ × ℕ). q.0 < from) (λ (q : ℕ × ℕ). q.0 < n) (λ q small. omega (arith, small, more)) front so_far.below in
    let more : take (i + 1) pairs ≡ front ++ p ∷ [] = take_more pairs i (0, 0) within in
    record {
      rising = subst (RiseFrom 0) (sym more) (pushed_rises 0 front p so_far.rising (lower p.0 above) (omega arith));
      below = subst (Below (p.0 + 1)) (sym more) (All-push (λ (q : ℕ × ℕ). q.0 < p.0 + 1) front p (lower (p.0 + 1) (omega (arith, above))) (omega arith));
      inside = subst (Below end_) (sym more) (All-push (λ (q : ℕ × ℕ). q.0 < end_) front p so_far.inside inside);
    }

pub rise_all : (pairs : List (ℕ × ℕ)) (end_ from i : ℕ) → length pairs ≤ i → RiseTo pairs end_ from i → RiseFrom 0 pairs × Below end_ pairs
rise_all pairs end_ from i whole so_far =
    let same = take_all i pairs whole in
    (subst (RiseFrom 0) same so_far.rising, subst (Below end_) same so_far.inside)
