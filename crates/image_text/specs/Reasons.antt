-- The reasons of refusal: by which kind of line should stand there, and each as a word.
use Rattle.std.specs.Prelude.{ℕ, List, codes}
use Rattle.image_text.specs.declared.lines.ImageLines.{ImageLines}
use Rattle.image_text.specs.declared.lines.ImageLines.TheVariants.{Nothing, Begun, Whole}
use Rattle.image_text.specs.declared.lines.ImageReason.{ImageReason}
use Rattle.image_text.specs.declared.lines.ImageReason.TheVariants as reasons

abbrev pub image_reason_for : ImageLines → ImageReason
image_reason_for Nothing = reasons.Image
image_reason_for (Begun head) = reasons.Root
image_reason_for (Whole image) = reasons.Word

abbrev pub image_reason_text : ImageReason → List ℕ
image_reason_text reasons.Image = codes "image"
image_reason_text reasons.Root = codes "root"
image_reason_text reasons.Word = codes "word"
