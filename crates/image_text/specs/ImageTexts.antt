-- What an image text is, line by line: the first with the numbers of the image, the second with its root, and one for each word
-- that is not 0, by rising addresses.
use Rattle.std.specs.Prelude.{◌≡◌, ◌⊎◌, ◌+◌, ◌^◌, ◌<◌, ◌≤◌, ℕ, true, List, ◌++◌, length, codes}
use Rattle.std.specs.Fmt.{decimal}
use Rattle.plain_text.specs.LineGrammar.{LineGrammar, IsFault, IsTextOf}
use Rattle.plain_text.specs.Lines.{text_lines}
use Rattle.plain_text.specs.declared.reader.TextFault.{TextFault}
use Rattle.plain_text.specs.declared.reader.TextFault.TheVariants.{Refused, Memory}
use Rattle.cx_core.specs.declared.entry.Image.{Image}
use Rattle.recovery.specs.Images.{IsReadable}
use Rattle.image_text.specs.declared.lines.ImageHead.{ImageHead}
use Rattle.image_text.specs.declared.lines.ImageLines.{ImageLines}
use Rattle.image_text.specs.declared.lines.ImageLines.TheVariants.{Nothing, Begun, Whole}
use Rattle.image_text.specs.declared.lines.ImageReason.{ImageReason}
use Rattle.image_text.specs.Reading.{is_above, image_with_pair, with_root}
use Rattle.image_text.specs.Reasons.{image_reason_for}

-- two numbers with a space between them
abbrev pub spaced : ℕ × ℕ → List ℕ
spaced pair = decimal pair.0 ++ (codes " " ++ decimal pair.1)

-- `image N L W`: N callers, an object of L lines, W words in all replicas
pub record IsImageHeadLine (head : ImageHead) (line : List ℕ) : Type 0 where
  pub spelled : line ≡ codes "image " ++ (decimal head.callers ++ (codes " " ++ spaced (head.lines, head.count)))
  pub some : 1 ≤ head.callers
  pub few : head.callers ≤ 8
  pub enough : 64 ≤ head.lines
  pub small : head.lines ≤ 16384
  pub count : head.count < 2 ^ 64

-- `root CODE`
pub record IsRootLine (root : ℕ) (line : List ℕ) : Type 0 where
  pub spelled : line ≡ codes "root " ++ decimal root
  pub fits : root < 2 ^ 64

-- `AT V`: the word at the address AT is V, behind the words that an image has so far
pub record IsWordLine (image : Image) (pair : ℕ × ℕ) (line : List ℕ) : Type 0 where
  pub spelled : line ≡ spaced pair
  pub address : pair.0 < 2 ^ 64
  pub rises : is_above image.pairs pair.0 ≡ true
  pub below : pair.0 < image.count
  pub some : 0 < pair.1
  pub value : pair.1 < 2 ^ 64

-- what is said with one more line
abbrev pub AddsImageLine : ImageLines → List ℕ → ImageLines → Type 0
AddsImageLine Nothing line after = (head : ImageHead) × IsImageHeadLine head line × (after ≡ Begun head)
AddsImageLine (Begun head) line after = (root : ℕ) × IsRootLine root line × (after ≡ Whole (with_root head root))
AddsImageLine (Whole image) line after = (pair : ℕ × ℕ) × IsWordLine image pair line × (after ≡ Whole (image_with_pair image pair))

-- Why a line is refused: it is not of the kind that should stand there, or may not stand there, and the reason is the kind's.
pub record IsImageReason (before : ImageLines) (line : List ℕ) (reason : ImageReason) : Type 0 where
  pub none : (after : ImageLines) → AddsImageLine before line after → ⊥
  pub because : reason ≡ image_reason_for before

-- the language of image texts
abbrev pub image_grammar : LineGrammar ImageLines ImageReason
image_grammar = record { nothing = Nothing; Adds = AddsImageLine; IsReason = IsImageReason }

-- a text says an image: it has the first two lines, and its lines are all in their places
abbrev pub IsImageText : List ℕ → Image → Type 0
IsImageText text image = IsTextOf image_grammar text (Whole image)

-- A text ends before its second line: its lines are in their places, and this is the line, counted from 1, that is missing.
pub record IsMissing (text : List ℕ) (line : ℕ) (reason : ImageReason) : Type 0 where
  pub said : ImageLines
  pub are : IsTextOf image_grammar text said
  pub next : line ≡ length (text_lines text) + 1
  pub early : line ≤ 2
  pub because : reason ≡ image_reason_for said

-- what is told of a text that is no image text: the first line with which the lines so far are none, or the missing one
abbrev pub IsImageFault : List ℕ → TextFault ImageReason → Type 0
IsImageFault text (Refused line reason) = IsFault image_grammar text (Refused line reason) ⊎ IsMissing text line reason
IsImageFault text Memory = Unit {0}

-- what the lines so far keep to: the limits of the numbers, and addresses that rise below the number of words
abbrev pub KeepsImageLimits : ImageLines → Type 0
KeepsImageLimits Nothing = Unit {0}
KeepsImageLimits (Begun head) = (root : ℕ) → IsReadable head.lines (with_root head root)
KeepsImageLimits (Whole image) = IsReadable image.lines image
