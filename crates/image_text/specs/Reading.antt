-- How an image text is read: what a line says, or why it is refused.
use Rattle.std.specs.Prelude.{ℕ, Bool, true, ◌&&◌, nat_le, nat_lt, List, [], ◌∷◌, ◌++◌, codes, Option, None, Some, option_and_then, Result, if◌then◌else◌}
use Rattle.std.specs.Option.{option_map, option_map_or, ok_or}
use Rattle.plain_text.specs.Number.{number_of}
use Rattle.plain_text.specs.Words.{first_word, rest_of, is_word}
use Rattle.cx_core.specs.declared.entry.Image.{Image}
use Rattle.image_text.specs.declared.lines.ImageHead.{ImageHead}
use Rattle.image_text.specs.declared.lines.ImageLines.{ImageLines}
use Rattle.image_text.specs.declared.lines.ImageLines.TheVariants.{Nothing, Begun, Whole}
use Rattle.image_text.specs.declared.lines.ImageReason.{ImageReason}
use Rattle.image_text.specs.Reasons.{image_reason_for}

-- two numbers with a space between them
unfoldable pub two_numbers_of : List ℕ → Option (ℕ × ℕ)
two_numbers_of text =
    option_and_then (λ first. option_and_then (λ second. Some (first, second)) (option_and_then number_of (rest_of text))) (number_of (first_word text))

-- the numbers of a first line, where they are within their limits
abbrev pub image_head_within : ℕ → ℕ → ℕ → Option ImageHead
image_head_within callers lines count =
    if nat_le 1 callers && (nat_le callers 8 && (nat_le 64 lines && nat_le lines 16384))
    then Some (record { callers = callers; lines = lines; count = count })
    else None

unfoldable pub image_head_behind : List ℕ → Option ImageHead
image_head_behind text =
    option_and_then (λ callers. option_and_then (λ sizes. image_head_within callers sizes.0 sizes.1) (option_and_then two_numbers_of (rest_of text)))
    (number_of (first_word text))

unfoldable pub image_head_of : List ℕ → Option ImageHead
image_head_of line = if is_word (codes "image") (first_word line) then option_and_then image_head_behind (rest_of line) else None

unfoldable pub root_of : List ℕ → Option ℕ
root_of line = if is_word (codes "root") (first_word line) then option_and_then number_of (rest_of line) else None

-- the last pair
abbrev pub last_pair : List (ℕ × ℕ) → Option (ℕ × ℕ)
last_pair [] = None
last_pair (p ∷ []) = Some p
last_pair (p ∷ q ∷ pairs) = last_pair (q ∷ pairs)

-- whether an address is above that of the last pair
abbrev pub is_above : List (ℕ × ℕ) → ℕ → Bool
is_above pairs at = option_map_or (λ p. nat_lt p.0 at) (last_pair pairs) true

-- the pair, where it may stand behind these in an image of the given number of words
abbrev pub fitting : List (ℕ × ℕ) → ℕ → ℕ × ℕ → Option (ℕ × ℕ)
fitting pairs count pair = if is_above pairs pair.0 && (nat_lt pair.0 count && nat_lt 0 pair.1) then Some pair else None

unfoldable pub pair_of : List (ℕ × ℕ) → ℕ → List ℕ → Option (ℕ × ℕ)
pair_of pairs count line = option_and_then (fitting pairs count) (two_numbers_of line)

-- the image with this root, and no words yet
abbrev pub with_root : ImageHead → ℕ → Image
with_root head root = record { callers = head.callers; lines = head.lines; count = head.count; root = root; pairs = [] }

-- the image with one more word
abbrev pub image_with_pair : Image → ℕ × ℕ → Image
image_with_pair image pair = record image { pairs = image.pairs ++ pair ∷ [] }

-- what is said with one more line, or why it is refused
abbrev pub after_line : ImageLines → List ℕ → Option ImageLines
after_line Nothing line = option_map Begun (image_head_of line)
after_line (Begun head) line = option_map (λ root. Whole (with_root head root)) (root_of line)
after_line (Whole image) line = option_map (λ pair. Whole (image_with_pair image pair)) (pair_of image.pairs image.count line)

abbrev pub judged_image : ImageLines → List ℕ → Result ImageLines ImageReason
judged_image before line = ok_or (after_line before line) (image_reason_for before)
