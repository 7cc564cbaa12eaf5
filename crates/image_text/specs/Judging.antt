-- Image texts are read by their grammar, line by line.
use Rattle.std.specs.Prelude.{codes, option_and_then}
use Rattle.std.specs.Option.{option_map, ok_or}
use Rattle.std.specs.Fmt.{decimal}
use Rattle.std.proofs.Common.{◌≡◌, ℕ, ◌^◌, ◌<◌, Bool, true, false, cond, leb, ltb, ◌&&◌, List, ◌∷◌, ◌++◌, Option, None, Some, Ok, Err, refl, sym, ap, subst, ◌∙◌, arith}
use Rattle.std.proofs.lemmas.Bool.{and_parts, leb-true, ltb-true, le-leb, lt-ltb}
use Rattle.std.proofs.lemmas.Option.{cond_some, option_and_then_some, same_Some}
use Rattle.plain_text.specs.LineGrammar.{ReadsLines}
use Rattle.plain_text.specs.Number.{number_of}
use Rattle.plain_text.specs.Words.{first_word, rest_of, is_word}
use Rattle.plain_text.proofs.LineByLine.{no_value}
use Rattle.plain_text.proofs.Numerals.{number_of-decimal, decimal-number_of}
use Rattle.plain_text.proofs.WordCuts as cuts
use Rattle.plain_text.proofs.WordCuts.{named, word_cut, decimal_unspaced}
use Rattle.cx_core.specs.declared.entry.Image.{Image}
use Rattle.image_text.specs.ImageTexts.{AddsImageLine, IsImageHeadLine, IsRootLine, IsWordLine, image_grammar, spaced}
use Rattle.image_text.specs.Reading.{after_line, fitting, image_head_behind, image_head_of, image_head_within, is_above, judged_image, two_numbers_of, pair_of, root_of, image_with_pair, with_root}
use Rattle.image_text.specs.Reasons.{image_reason_for}
use Rattle.image_text.specs.declared.lines.ImageHead.{ImageHead}
use Rattle.image_text.specs.declared.lines.ImageLines.{ImageLines}
use Rattle.image_text.specs.declared.lines.ImageLines.TheVariants.{Nothing, Begun, Whole}

-- ---- what is read of a line is what it says

named_first : {A : Type 0} (b : Bool) (o : Option A) (y : A) → cond b o None ≡ Some y → (b ≡ true) × (o ≡ Some y)
named_first true o y e = (refl, e)
named_first false o y e = absurd cc

numbers_are : (text : List ℕ) (pair : ℕ × ℕ) → two_numbers_of text ≡ Some pair → (text ≡ spaced pair) × (pair.0 < 2 ^ 64) × (pair.1 < 2 ^ 64)
unfolding two_numbers_of
numbers_are text pair e =
    option_and_then_some (λ first. option_and_then (λ second. Some (first, second)) (option_and_then number_of (rest_of text))) (number_of (first_word text)) pair e
    (λ first found others. option_and_then_some (λ second. Some (first, second)) (option_and_then number_of (rest_of text)) pair others
    (λ second found_second both. option_and_then_some number_of (rest_of text) second found_second (λ rest behind number.
    let one = decimal-number_of (first_word text) first found in
    let two = decimal-number_of rest second number in
    let spelled : text ≡ decimal first ++ 32 ∷ decimal second =
    cuts.spaced text rest behind ∙ ap (λ (word : List ℕ). word ++ 32 ∷ rest) one.0 ∙ ap (λ (t : List ℕ). decimal first ++ 32 ∷ t) two.0 in
    subst (λ (p : ℕ × ℕ). (text ≡ spaced p) × (p.0 < 2 ^ 64) × (p.1 < 2 ^ 64)) (same_Some (first, second) pair both) (spelled, one.1, two.1))))

within_is : (callers lines count : ℕ) (head : ImageHead) → count < 2 ^ 64 → image_head_within callers lines count ≡ Some head
    → IsImageHeadLine head (codes "image " ++ (decimal callers ++ (codes " " ++ spaced (lines, count))))
within_is callers lines count head fits e =
    let made : ImageHead = record { callers = callers; lines = lines; count = count } in
    let kept = cond_some (leb 1 callers && (leb callers 8 && (leb 64 lines && leb lines 16384))) made head e in
    let some = and_parts (leb 1 callers) (leb callers 8 && (leb 64 lines && leb lines 16384)) kept.0 in
    let few = and_parts (leb callers 8) (leb 64 lines && leb lines 16384) some.1 in
    let both = and_parts (leb 64 lines) (leb lines 16384) few.1 in
    subst (λ (h : ImageHead). IsImageHeadLine h (codes "image " ++ (decimal callers ++ (codes " " ++ spaced (lines, count))))) kept.1 (record {
      spelled = refl;
      some = leb-true 1 callers some.0;
      few = leb-true callers 8 few.0;
      enough = leb-true 64 lines both.0;
      small = leb-true lines 16384 both.1;
      count = fits;
    })

behind_is : (text : List ℕ) (head : ImageHead) → image_head_behind text ≡ Some head → IsImageHeadLine head (codes "image " ++ text)
unfolding image_head_behind
behind_is text head e =
    option_and_then_some (λ callers. option_and_then (λ sizes. image_head_within callers sizes.0 sizes.1) (option_and_then two_numbers_of (rest_of text))) (number_of (first_word text)) head e
    (λ callers found others. option_and_then_some (λ sizes. image_head_within callers sizes.0 sizes.1) (option_and_then two_numbers_of (rest_of text)) head others
    (λ sizes found_sizes kept. option_and_then_some two_numbers_of (rest_of text) sizes found_sizes (λ rest behind numbers.
    let are = numbers_are rest sizes numbers in
    let spelled : text ≡ decimal callers ++ 32 ∷ spaced sizes =
    cuts.spaced text rest behind ∙ ap (λ (word : List ℕ). word ++ 32 ∷ rest) (decimal-number_of (first_word text) callers found).0 ∙ ap (λ (t : List ℕ). decimal callers ++ 32 ∷ t) are.0 in
    subst (λ (t : List ℕ). IsImageHeadLine head (codes "image " ++ t)) (sym spelled) (within_is callers sizes.0 sizes.1 head are.2 kept))))

pub image_head_is : (line : List ℕ) (head : ImageHead) → image_head_of line ≡ Some head → IsImageHeadLine head line
unfolding image_head_of
image_head_is line head e =
    let kept = named_first (is_word (codes "image") (first_word line)) (option_and_then image_head_behind (rest_of line)) head e in
    option_and_then_some image_head_behind (rest_of line) head kept.1
    (λ rest behind is. subst (IsImageHeadLine head) (sym (named (codes "image") line rest kept.0 behind)) (behind_is rest head is))

root_is : (line : List ℕ) (root : ℕ) → root_of line ≡ Some root → IsRootLine root line
unfolding root_of
root_is line root e =
    let kept = named_first (is_word (codes "root") (first_word line)) (option_and_then number_of (rest_of line)) root e in
    option_and_then_some number_of (rest_of line) root kept.1 (λ rest behind is.
    let number = decimal-number_of rest root is in
    record { spelled = named (codes "root") line rest kept.0 behind ∙ ap (λ (t : List ℕ). codes "root " ++ t) number.0; fits = number.1 })

pub pair_is : (image : Image) (line : List ℕ) (pair : ℕ × ℕ) → pair_of image.pairs image.count line ≡ Some pair → IsWordLine image pair line
unfolding pair_of
pair_is image line pair e =
    option_and_then_some (fitting image.pairs image.count) (two_numbers_of line) pair e (λ found numbers kept.
    let are = numbers_are line found numbers in
    let fits = cond_some (is_above image.pairs found.0 && (ltb found.0 image.count && ltb 0 found.1)) found pair kept in
    let above = and_parts (is_above image.pairs found.0) (ltb found.0 image.count && ltb 0 found.1) fits.0 in
    let others = and_parts (ltb found.0 image.count) (ltb 0 found.1) above.1 in
    subst (λ (p : ℕ × ℕ). IsWordLine image p line) fits.1 (record {
      spelled = are.0;
      address = are.1;
      rises = above.0;
      below = ltb-true found.0 image.count others.0;
      some = ltb-true 0 found.1 others.1;
      value = are.2;
    }))

-- ---- what a line says is read of it

numbers_again : (pair : ℕ × ℕ) → pair.0 < 2 ^ 64 → pair.1 < 2 ^ 64 → two_numbers_of (spaced pair) ≡ Some pair
unfolding two_numbers_of
numbers_again pair fits fits_too =
    let cut = word_cut (decimal pair.0) (decimal pair.1) (decimal_unspaced pair.0 fits) in
    rw (cut.0, cut.1, number_of-decimal pair.0 fits, number_of-decimal pair.1 fits_too) refl

head_again : (line : List ℕ) (head : ImageHead) → IsImageHeadLine head line → image_head_of line ≡ Some head
unfolding image_head_of image_head_behind
head_again line head is =
    let fits : head.callers < 2 ^ 64 = omega (arith, is.few) in
    let fits_too : head.lines < 2 ^ 64 = omega (arith, is.small) in
    let cut = word_cut (decimal head.callers) (spaced (head.lines, head.count)) (decimal_unspaced head.callers fits) in
    rw (
      is.spelled,
      cut.0,
      cut.1,
      number_of-decimal head.callers fits,
      numbers_again (head.lines, head.count) fits_too is.count,
      le-leb 1 head.callers is.some,
      le-leb head.callers 8 is.few,
      le-leb 64 head.lines is.enough,
      le-leb head.lines 16384 is.small,
    ) refl

root_again : (line : List ℕ) (root : ℕ) → IsRootLine root line → root_of line ≡ Some root
unfolding root_of
root_again line root is = rw (is.spelled, number_of-decimal root is.fits) refl

pair_again : (image : Image) (line : List ℕ) (pair : ℕ × ℕ) → IsWordLine image pair line → pair_of image.pairs image.count line ≡ Some pair
unfolding pair_of
pair_again image line pair is =
    rw (is.spelled, numbers_again pair is.address is.value, is.rises, lt-ltb pair.0 image.count is.below, lt-ltb 0 pair.1 is.some) refl

-- ---- lines are read by the grammar

mapped : {A B E : Type 0} (f : A → B) (o : Option A) (reason : E) (y : B) → ok_or (option_map f o) reason ≡ Ok y → (x : A) × (o ≡ Some x) × (y ≡ f x)
mapped f None reason y e = absurd cc
mapped f (Some x) reason y e = (x, refl, cc)

the_reason : {A E : Type 0} (o : Option A) (found reason : E) → ok_or o found ≡ Err reason → reason ≡ found
the_reason None found reason e = cc
the_reason (Some x) found reason e = absurd cc

pub sound : (before : ImageLines) (line : List ℕ) (after : ImageLines) → judged_image before line ≡ Ok after → AddsImageLine before line after
sound Nothing line after e = let head = mapped Begun (image_head_of line) (image_reason_for Nothing) after e in (head.0, image_head_is line head.0 head.1, head.2)
sound (Begun head) line after e =
    let root = mapped (λ root. Whole (with_root head root)) (root_of line) (image_reason_for (Begun head)) after e in
    (root.0, root_is line root.0 root.1, root.2)
sound (Whole image) line after e =
    let pair = mapped (λ pair. Whole (image_with_pair image pair)) (pair_of image.pairs image.count line) (image_reason_for (Whole image)) after e in
    (pair.0, pair_is image line pair.0 pair.1, pair.2)

complete : (before : ImageLines) (line : List ℕ) (after : ImageLines) → AddsImageLine before line after → judged_image before line ≡ Ok after
complete Nothing line after (head, is, same) = rw (head_again line head is, same) refl
complete (Begun head) line after (root, is, same) = rw (root_again line root is, same) refl
complete (Whole image) line after (pair, is, same) = rw (pair_again image line pair is, same) refl

pub reads_images : ReadsLines image_grammar judged_image
reads_images = record {
  sound = sound;
  complete = complete;
  refused = λ before line reason e. record {
    none = λ after adds. no_value (judged_image before line) after reason (complete before line after adds) e;
    because = the_reason (after_line before line) (image_reason_for before) reason e;
  };
}
