-- An image as text.
use Rattle.std.specs.Prelude.{◌^◌, ◌<◌, ℕ, Bool, nat_lt, All, List, [], ◌++◌, codes, filter, flat_map, if◌then◌else◌}
use Rattle.std.specs.Fmt.{decimal}
use Rattle.cx_core.specs.declared.entry.Image.{Image}
use Rattle.image_text.specs.ImageTexts.{spaced}

abbrev pub head_line : Image → List ℕ
head_line image =
    (codes "image " ++ (decimal image.callers ++ (codes " " ++ spaced (image.lines, image.count)))) ++ codes "\n"

abbrev pub root_line_text : Image → List ℕ
root_line_text image = (codes "root " ++ decimal image.root) ++ codes "\n"

-- whether a pair gives a word that is not 0
abbrev pub is_written : ℕ × ℕ → Bool
is_written pair = nat_lt 0 pair.1

-- the line of a word, where it is not 0
abbrev pub pair_text : ℕ × ℕ → List ℕ
pair_text pair = if is_written pair then spaced pair ++ codes "\n" else []

abbrev pub pairs_text : List (ℕ × ℕ) → List ℕ
pairs_text pairs = flat_map pair_text pairs

abbrev pub text_of : Image → List ℕ
text_of image = head_line image ++ root_line_text image ++ pairs_text image.pairs

-- the image with the pairs alone that give words that are not 0
abbrev pub without_zeros : Image → Image
without_zeros image = record image { pairs = filter is_written image.pairs }

-- the numbers of an image are of 64 bits
pub record FitsImage (image : Image) : Type 0 where
  pub count : image.count < 2 ^ 64
  pub root : image.root < 2 ^ 64
  pub words : All (λ (p : ℕ × ℕ). p.1 < 2 ^ 64) image.pairs
