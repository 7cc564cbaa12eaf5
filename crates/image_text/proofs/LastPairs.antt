-- The last pair, and addresses that rise up to it.
use Rattle.std.proofs.Common.{◌≡◌, ℕ, suc, ◌+◌, ◌-◌, ◌<◌, true, List, [], ◌∷◌, ◌++◌, length, slice_get, Some, refl, ap, ◌∙◌, arith}
use Rattle.std.proofs.lemmas.Bool.{ltb-true, lt-ltb}
use Rattle.std.proofs.lemmas.List.Elements.{All-nil, All-push}
use Rattle.cx_core.specs.declared.entry.Image.{Image}
use Rattle.recovery.specs.Images.{IsReadable, RiseFrom}
use Rattle.image_text.specs.Judging.{image_head_is, pair_is}
use Rattle.image_text.specs.Reading.{image_head_of, is_above, last_pair, pair_of, image_with_pair, with_root}
use Rattle.image_text.specs.declared.lines.ImageHead.{ImageHead}

-- the last pair is at the last place
pub slice_get_last : (pairs : List (ℕ × ℕ)) → slice_get pairs (length pairs - 1) ≡ last_pair pairs
slice_get_last [] = refl
slice_get_last (p ∷ []) = refl
slice_get_last (p ∷ q ∷ pairs) =
    let later : length (p ∷ q ∷ pairs) - 1 ≡ suc (length (q ∷ pairs) - 1) = omega arith in
    ap (slice_get (p ∷ q ∷ pairs)) later ∙ slice_get_last (q ∷ pairs)

-- an address above the last of some pairs that rise comes behind them
rise_behind : (from : ℕ) (p : ℕ × ℕ) (pairs : List (ℕ × ℕ)) (q : ℕ × ℕ) → RiseFrom from (p ∷ pairs) → is_above (p ∷ pairs) q.0 ≡ true
    → RiseFrom from (p ∷ pairs ++ q ∷ [])
rise_behind from p [] q (low, rest) above = let apart : p.0 < q.0 = ltb-true p.0 q.0 above in (low, (omega arith, tt))
rise_behind from p (r ∷ pairs) q (low, rest) above = (low, rise_behind (p.0 + 1) r pairs q rest above)

rise_more : (pairs : List (ℕ × ℕ)) (q : ℕ × ℕ) → RiseFrom 0 pairs → is_above pairs q.0 ≡ true → RiseFrom 0 (pairs ++ q ∷ [])
rise_more [] q rising above = (omega arith, tt)
rise_more (p ∷ pairs) q rising above = rise_behind 0 p pairs q rising above

-- the last pair is the one added last
pub above_added : (pairs : List (ℕ × ℕ)) (p : ℕ × ℕ) (at : ℕ) → p.0 < at → is_above (pairs ++ p ∷ []) at ≡ true
above_added [] p at apart = lt-ltb p.0 at apart
above_added (q ∷ []) p at apart = lt-ltb p.0 at apart
above_added (q ∷ r ∷ pairs) p at apart = above_added (r ∷ pairs) p at apart

-- ---- what the lines so far keep to

pub head_keeps : (line : List ℕ) (head : ImageHead) → image_head_of line ≡ Some head → (root : ℕ) → IsReadable head.lines (with_root head root)
head_keeps line head e root =
    let is = image_head_is line head e in
    record { some = is.some; few = is.few; of = refl; enough = is.enough; small = is.small; rising = tt; below = All-nil (λ (p : ℕ × ℕ). p.0 < head.count) }

pub pair_keeps : (image : Image) (line : List ℕ) (pair : ℕ × ℕ) → pair_of image.pairs image.count line ≡ Some pair → IsReadable image.lines image
    → IsReadable image.lines (image_with_pair image pair)
pair_keeps image line pair e r =
    let is = pair_is image line pair e in
    record {
      some = r.some;
      few = r.few;
      of = refl;
      enough = r.enough;
      small = r.small;
      rising = rise_more image.pairs pair r.rising is.rises;
      below = All-push (λ (p : ℕ × ℕ). p.0 < image.count) image.pairs pair r.below is.below;
    }
