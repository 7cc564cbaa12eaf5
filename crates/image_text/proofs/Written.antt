-- What is written of an image is read again.
use Rattle.std.specs.Prelude.{All, codes, filter}
use Rattle.std.specs.Fmt.{decimal}
use Rattle.std.proofs.Common.{◌≡◌, ℕ, ◌+◌, ◌^◌, ◌<◌, ◌≤◌, true, eqb, eqb-true, ltb, List, [], ◌∷◌, ◌++◌, refl, sym, ap, subst, ◌∙◌, append_assoc, arith, inl, inr}
use Rattle.std.proofs.lemmas.Bool.{cases_Bool, ltb-true, ltb-false, ne_eqb}
use Rattle.std.proofs.lemmas.List.{append-nil}
use Rattle.std.proofs.lemmas.List.Elements.{All-head, All-tail}
use Rattle.plain_text.specs.LineGrammar.{AddsAll}
use Rattle.plain_text.specs.Lines.{text_lines}
use Rattle.cx_core.specs.declared.entry.Image.{Image}
use Rattle.recovery.specs.Images.{IsReadable, RiseFrom, image_word}
use Rattle.image_text.specs.ImageTexts.{IsImageText, image_grammar, spaced}
use Rattle.image_text.specs.Printing.{FitsImage, head_line, is_written, pairs_text, root_line_text, text_of, without_zeros}
use Rattle.image_text.specs.Reading.{is_above, image_with_pair, with_root}
use Rattle.image_text.specs.declared.lines.ImageHead.{ImageHead}
use Rattle.image_text.specs.declared.lines.ImageLines.TheVariants.{Nothing, Begun, Whole}
use Rattle.image_text.proofs.LastPairs.{above_added}
use Rattle.image_text.proofs.LineParts.{is_one_line, joined, line_first, number_inside}

-- ---- the words

-- no word is given below the first address
none_below : (from : ℕ) (pairs : List (ℕ × ℕ)) (at : ℕ) → RiseFrom from pairs → at < from → image_word pairs at ≡ 0
none_below from [] at rising low = refl
none_below from (p ∷ pairs) at (first, rest) low =
    rw (ne_eqb p.0 at (λ e. omega (arith, first, low, e))) (none_below (p.0 + 1) pairs at rest (omega (arith, first, low)))

pub same_word : (from : ℕ) (pairs : List (ℕ × ℕ)) (at : ℕ) → RiseFrom from pairs → image_word (filter is_written pairs) at ≡ image_word pairs at
same_word from [] at rising = refl
same_word from (p ∷ pairs) at (first, rest) =
    let more = same_word (p.0 + 1) pairs at rest in
    elim (cases_Bool (ltb 0 p.1)) [
      | inl some ↦ rw some (elim (cases_Bool (eqb p.0 at)) [
        | inl hit ↦ rw hit refl
        | inr miss ↦ rw miss more
      ])
      | inr none ↦ rw none (elim (cases_Bool (eqb p.0 at)) [
        | inl hit ↦
            let here : p.0 ≡ at = eqb-true p.0 at hit in
            let zero_word : p.1 ≡ 0 = omega (arith, ltb-false 0 p.1 none) in
            rw hit (more ∙ none_below (p.0 + 1) pairs at rest (omega (arith, here)) ∙ sym zero_word)
        | inr miss ↦ rw miss more
      ])
    ]

-- ---- the lines

spaced_inside : (p : ℕ × ℕ) → p.0 < 2 ^ 64 → p.1 < 2 ^ 64 → is_one_line (spaced p) ≡ true
spaced_inside p address value = joined (decimal p.0) (codes " " ++ decimal p.1) (number_inside p.0 address) (number_inside p.1 value)

-- the lines of words, behind those that an image has so far
words_read : (image : Image) (from : ℕ) (pairs : List (ℕ × ℕ)) → image.count < 2 ^ 64 → ((at : ℕ) → from ≤ at → is_above image.pairs at ≡ true)
    → RiseFrom from pairs → All (λ (p : ℕ × ℕ). p.0 < image.count) pairs → All (λ (p : ℕ × ℕ). p.1 < 2 ^ 64) pairs
    → AddsAll image_grammar (Whole image) (text_lines (pairs_text pairs)) (Whole (record image { pairs = image.pairs ++ filter is_written pairs }))
words_read image from [] fits above rising below values =
    ap (λ (ps : List (ℕ × ℕ)). Whole (record image { pairs = ps })) (append-nil image.pairs)
words_read image from (p ∷ pairs) fits above (first, rest) below values =
    let here : p.0 < image.count = All-head (λ (q : ℕ × ℕ). q.0 < image.count) p pairs below in
    let value : p.1 < 2 ^ 64 = All-head (λ (q : ℕ × ℕ). q.1 < 2 ^ 64) p pairs values in
    let later_below = All-tail (λ (q : ℕ × ℕ). q.0 < image.count) p pairs below in
    let later_values = All-tail (λ (q : ℕ × ℕ). q.1 < 2 ^ 64) p pairs values in
    let address : p.0 < 2 ^ 64 = omega (arith, here, fits) in
    elim (cases_Bool (ltb 0 p.1)) [
      | inl some ↦
          let more = words_read (image_with_pair image p) (p.0 + 1) pairs fits (λ at low. above_added image.pairs p at (omega (arith, low))) rest later_below later_values in
          let joined_up : (image.pairs ++ p ∷ []) ++ filter is_written pairs ≡ image.pairs ++ p ∷ filter is_written pairs =
          append_assoc image.pairs (p ∷ []) (filter is_written pairs) in
          rw (some, line_first (spaced p) (pairs_text pairs) (spaced_inside p address value)) (
            Whole (image_with_pair image p),
            (p, record { spelled = refl; address = address; rises = above p.0 first; below = here; some = ltb-true 0 p.1 some; value = value }, refl),
            subst (λ (ps : List (ℕ × ℕ)). AddsAll image_grammar (Whole (image_with_pair image p)) (text_lines (pairs_text pairs)) (Whole (record image { pairs = ps }))) joined_up more,
          )
      | inr none ↦
          rw none (words_read image (p.0 + 1) pairs fits (λ at low. above at (omega (arith, low, first))) rest later_below later_values)
    ]

pub text_read : (image : Image) → IsReadable image.lines image → FitsImage image → IsImageText (text_of image) (without_zeros image)
text_read image r f =
    let head : ImageHead = record { callers = image.callers; lines = image.lines; count = image.count } in
    let head_text = codes "image " ++ (decimal image.callers ++ (codes " " ++ spaced (image.lines, image.count))) in
    let root_text = codes "root " ++ decimal image.root in
    let callers_fit : image.callers < 2 ^ 64 = omega (arith, r.few) in
    let lines_fit : image.lines < 2 ^ 64 = omega (arith, r.small) in
    let first = joined (codes "image ") (decimal image.callers ++ (codes " " ++ spaced (image.lines, image.count))) refl
    (joined (decimal image.callers) (codes " " ++ spaced (image.lines, image.count)) (number_inside image.callers callers_fit)
    (spaced_inside (image.lines, image.count) lines_fit f.count)) in
    let second = joined (codes "root ") (decimal image.root) refl (number_inside image.root f.root) in
    let lines_are : text_lines (text_of image) ≡ head_text ∷ root_text ∷ text_lines (pairs_text image.pairs) =
    ap text_lines (append_assoc (head_line image) (root_line_text image) (pairs_text image.pairs))
    ∙ line_first head_text (root_line_text image ++ pairs_text image.pairs) first
    ∙ ap (λ (lines : List (List ℕ)). head_text ∷ lines) (line_first root_text (pairs_text image.pairs) second) in
    subst (λ (lines : List (List ℕ)). AddsAll image_grammar Nothing lines (Whole (without_zeros image))) (sym lines_are) (
      Begun head,
      (head, record { spelled = refl; some = r.some; few = r.few; enough = r.enough; small = r.small; count = f.count }, refl),
      (
        Whole (with_root head image.root),
        (image.root, record { spelled = refl; fits = f.root }, refl),
        words_read (with_root head image.root) 0 image.pairs f.count (λ at low. refl) r.rising r.below f.words,
      ),
    )
