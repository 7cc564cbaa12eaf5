-- What gaps tell of two full images, and of a region over which listed lines were copied.
use Rattle.std.proofs.Common.{◌≡◌, ◌≢◌, ◌+◌, ◌*◌, ◌-◌, ◌<◌, ◌≤◌, ◌⊎◌, inl, inr, ℕ, zero, suc, List, [], ◌∷◌, ◌/◌, ◌%◌, length, slice_index, refl, ap, sym, subst, ◌∙◌, arith}
use Rattle.std.proofs.lemmas.Bool.{cases_order}
use Rattle.std.proofs.lemmas.List.{ext_get_or, get_or-set_other}
use Rattle.std.specs.List.{Contains}
use Rattle.cx_core.specs.declared.entry.Entry.{Entry}
use Rattle.cx_core.specs.Gaps.{AreWalked, Gap, IsGap, IsListedCopy, IsOfPlace, IsQuiet, IsSameLine, IsUnlisted, Walk, images}
use Rattle.cx_core.specs.State.{Instance}
use Rattle.cx_core.specs.WriteSet.{IsWriteSetOf, stored}

-- the first item of a list is in it
contains_here : (x : ℕ) (xs : List ℕ) → Contains (x ∷ xs) x
contains_here x xs = (0, omega arith, refl)

-- an item of the rest of a list is in it
contains_later : (y x : ℕ) (xs : List ℕ) → Contains xs x → Contains (y ∷ xs) x
contains_later y x xs there = (suc there.0, omega (arith, there.1), there.2)

-- a line that the gaps of a ticket step over is the same before and after
walk_quiet : (full : ℕ → List ℕ) (G : Gap → Type 0) (ticket from : ℕ) (lines : List ℕ) (last n : ℕ) → ((g : Gap) → G g → IsQuiet full g) →
    Walk G ticket from lines last → from < n → n < last → (Contains lines n → ⊥) → IsSameLine n (full ticket) (full (ticket + 1))
walk_quiet full G ticket from [] last n quiet walk over under missed = quiet (record { ticket = ticket; from = from; to = last }) walk n over under
walk_quiet full G ticket from (line ∷ lines) last n quiet walk over under missed =
    elim (cases_order n line) [
      | inl e ↦ absurd (missed (subst (λ x. Contains (line ∷ lines) x) (sym e) (contains_here line lines)))
      | inr order ↦ elim order [
        | inl less ↦ quiet (record { ticket = ticket; from = from; to = line }) walk.0 n over less
        | inr more ↦ walk_quiet full G ticket line lines last n quiet walk.1 more under (λ there. missed (contains_later line n lines there))
      ]
    ]

-- a line that the gaps of each of `count` tickets step over is the same before and after them
stays_for : (count : ℕ) (full : ℕ → List ℕ) (G : Gap → Type 0) (lines from to : ℕ) (lists : ℕ → List ℕ) (n : ℕ) → from + count ≡ to →
    ((g : Gap) → G g → IsQuiet full g) → AreWalked G lines from to lists → n < lines → IsUnlisted from to lists n → IsSameLine n (full from) (full to)
stays_for zero full G lines from to lists n is quiet walked below unlisted k small =
    ap (λ p. slice_index (full p) (8 * n + k)) (let e : to ≡ from = omega (arith, is) in e)
stays_for (suc count) full G lines from to lists n is quiet walked below unlisted k small =
    let later : AreWalked G lines (from + 1) to lists = λ t above under. walked t (omega (arith, above)) under in
    let still : IsUnlisted (from + 1) to lists n = (unlisted.0, λ t above under. unlisted.1 t (omega (arith, above)) under) in
    stays_for count full G lines (from + 1) to lists n (omega (arith, is)) quiet later below still k small
    ∙ walk_quiet full G from 0 (lists from) lines n quiet (walked from (omega arith) (omega (arith, is))) unlisted.0 below (unlisted.1 from (omega arith) (omega (arith, is))) k small

-- a line that no list of the tickets between two places names is equal in the images at both places
pub unlisted_lines_stay : (full : ℕ → List ℕ) (G : Gap → Type 0) (lines from to : ℕ) (lists : ℕ → List ℕ) (n : ℕ) →
    ((g : Gap) → G g → IsQuiet full g) → AreWalked G lines from to lists → from ≤ to → n < lines → IsUnlisted from to lists n →
    IsSameLine n (full from) (full to)
unlisted_lines_stay full G lines from to lists n quiet walked order below unlisted =
    stays_for (to - from) full G lines from to lists n (omega (arith, order)) quiet walked below unlisted

-- a copy of the listed lines alone, over a region at an earlier place, makes it the source
pub listed_copies_are_the_source : (full : ℕ → List ℕ) (G : Gap → Type 0) (lines from to : ℕ) (lists : ℕ → List ℕ) (first now source : List ℕ) →
    ((g : Gap) → G g → IsQuiet full g) → AreWalked G lines from to lists → from ≤ to →
    IsOfPlace lines full from first → IsOfPlace lines full to source → length now ≡ 8 * lines →
    IsListedCopy lines from to lists first now source → now ≡ source
listed_copies_are_the_source full G lines from to lists first now source quiet walked order begins ends long copy =
    ext_get_or 0 now source (long ∙ sym ends.long) (λ i below. (
    let n = i / 8 in
    let k = i % 8 in
    let at : 8 * n + k ≡ i = omega arith in
    let small : k < 8 = omega arith in
    let inside : n < lines = omega (arith, below, long) in
    let there : i < 8 * lines = omega (arith, below, long) in
    let word : slice_index now (8 * n + k) ≡ slice_index source (8 * n + k) = elim (copy.each n inside) [
      | inl copied ↦ copied k small
      | inr kept ↦ kept.1 k small
          ∙ begins.words (8 * n + k) (omega (arith, at, there))
          ∙ sym (unlisted_lines_stay full G lines from to lists n quiet walked order inside kept.0 k small)
          ∙ sym (ends.words (8 * n + k) (omega (arith, at, there)))
    ] in
    subst (λ j. slice_index now j ≡ slice_index source j) at word))

-- a word that is at no address of a set is as it was
unstored : (count : ℕ) (set_ region : List ℕ) (i : ℕ) → ((m : ℕ) → m < count → i ≢ slice_index set_ (2 * m + 1)) → slice_index (stored count set_ region) i ≡ slice_index region i
unstored zero set_ region i off = refl
unstored (suc m) set_ region i off =
    get_or-set_other (stored m set_ region) (slice_index set_ (2 * m + 1)) i (slice_index set_ (2 * m + 2)) 0 (off m (omega arith))
    ∙ unstored m set_ region i (λ q below. off q (omega (arith, below)))

-- lines between which a write set of a ticket has no address are a gap of the ticket
pub sets_tell_gaps : (instance : Instance) (history : List Entry) (g : Gap) (set_ : List ℕ) → IsWriteSetOf instance history g.ticket set_ →
    g.ticket + 1 ≤ instance.base.place + length history →
    ((m : ℕ) → m < slice_index set_ 0 → (slice_index set_ (2 * m + 1) < 8 * (g.from + 1)) ⊎ (8 * g.to ≤ slice_index set_ (2 * m + 1))) →
    IsGap instance history g
sets_tell_gaps instance history g set_ is within off = record {
  below = λ _. within;
  quiet = λ n over under k small. (
      let i = 8 * n + k in
      ap (λ ws. slice_index ws i) (sym is.gives)
      ∙ unstored (slice_index set_ 0) set_ (images instance history g.ticket) i
      (λ m few same. elim (off m few) [
        | inl less ↦ (let e : 8 * n + k ≡ slice_index set_ (2 * m + 1) = same in omega (arith, e, less, over, small))
        | inr more ↦ (let e : 8 * n + k ≡ slice_index set_ (2 * m + 1) = same in omega (arith, e, more, under, small))
      ]));
}
