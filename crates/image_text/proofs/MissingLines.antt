-- How many lines there are before the second.
use Rattle.std.proofs.Common.{◌≡◌, ◌⊎◌, ℕ, List, [], ◌∷◌, length, refl, ap, subst, arith, inl, inr}
use Rattle.plain_text.specs.LineGrammar.{AddsAll, AreLinesOf, IsTextOf}
use Rattle.plain_text.specs.Lines.{text_lines}
use Rattle.cx_core.specs.declared.entry.Image.{Image}
use Rattle.image_text.specs.ImageTexts.{IsMissing, image_grammar}
use Rattle.image_text.specs.Reading.{image_with_pair, with_root}
use Rattle.image_text.specs.declared.lines.ImageHead.{ImageHead}
use Rattle.image_text.specs.declared.lines.ImageLines.{ImageLines}
use Rattle.image_text.specs.declared.lines.ImageLines.TheVariants.{Nothing, Begun, Whole}
use Rattle.image_text.specs.declared.lines.ImageReason.TheVariants as reasons

whole_stays : (image : Image) (lines : List (List ℕ)) (after : ImageLines) → AddsAll image_grammar (Whole image) lines after
    → (found : Image) × (after ≡ Whole found)
whole_stays image [] after same = (image, same)
whole_stays image (line ∷ lines) after (between, (pair, is, same), more) =
    whole_stays (image_with_pair image pair) lines after (subst (λ (s : ImageLines). AddsAll image_grammar s lines after) same more)

begun_says : (head : ImageHead) (lines : List (List ℕ)) (after : ImageLines) → AddsAll image_grammar (Begun head) lines after
    → ((lines ≡ []) × (after ≡ Begun head)) ⊎ ((found : Image) × (after ≡ Whole found))
begun_says head [] after same = inl (refl, same)
begun_says head (line ∷ lines) after (between, (root, is, same), more) =
    inr (whole_stays (with_root head root) lines after (subst (λ (s : ImageLines). AddsAll image_grammar s lines after) same more))

no_line : (lines : List (List ℕ)) → AreLinesOf image_grammar lines Nothing → length lines ≡ 0
no_line [] same = refl
no_line (line ∷ lines) (between, (head, is, same), more) =
    elim (begun_says head lines Nothing (subst (λ (s : ImageLines). AddsAll image_grammar s lines Nothing) same more)) [
      | inl (_, e) ↦ absurd cc
      | inr (found, e) ↦ absurd cc
    ]

one_line : (lines : List (List ℕ)) (first : ImageHead) → AreLinesOf image_grammar lines (Begun first) → length lines ≡ 1
one_line [] first same = absurd cc
one_line (line ∷ lines) first (between, (head, is, same), more) =
    elim (begun_says head lines (Begun first) (subst (λ (s : ImageLines). AddsAll image_grammar s lines (Begun first)) same more)) [
      | inl (none, e) ↦ ap (λ (ls : List (List ℕ)). length (line ∷ ls)) none
      | inr (found, e) ↦ absurd cc
    ]

pub misses_first : (text : List ℕ) → IsTextOf image_grammar text Nothing → IsMissing text 1 reasons.Image
misses_first text are =
    record { said = Nothing; are = are; next = omega (arith, no_line (text_lines text) are); early = omega arith; because = refl }

pub misses_second : (text : List ℕ) (head : ImageHead) → IsTextOf image_grammar text (Begun head) → IsMissing text 2 reasons.Root
misses_second text head are =
    record { said = Begun head; are = are; next = omega (arith, one_line (text_lines text) head are); early = omega arith; because = refl }
