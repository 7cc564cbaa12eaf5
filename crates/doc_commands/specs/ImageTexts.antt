-- The three ends of an answer to bytes that may be an image text, and the text that is written with each.
use Rattle.std.specs.Prelude.{◌≡◌, ◌≢◌, ℕ, List, [], ◌++◌, codes}
use Rattle.std.specs.Fmt.{decimal}
use Rattle.plain_text.specs.declared.reader.TextFault.TheVariants.{Refused as RefusedLine}
use Rattle.cx_core.specs.declared.entry.Image.{Image}
use Rattle.doc_text.specs.Recovered.{recovered_text}
use Rattle.doc_text.specs.declared.recovered.Recovered.{Recovered}
use Rattle.image_text.specs.ImageTexts.{IsImageFault, IsImageText}
use Rattle.image_text.specs.Reasons.{image_reason_text}
use Rattle.image_text.specs.declared.lines.ImageReason.{ImageReason}
use Rattle.recovery.specs.declared.recovered_base.ImageFault.{ImageFault}
use Rattle.recovery.specs.declared.recovered_base.ImageFault.TheVariants.{Size, Root, Version, Place, Body, Memory}
use Rattle.doc_commands.specs.Documents.{IsDocumentFault, IsRecoveredOf, TellsDocuments}
use Rattle.doc_commands.specs.declared.image_answer.ImageEnd.{ImageEnd}
use Rattle.doc_commands.specs.declared.image_answer.ImageEnd.TheVariants.{Fine, Refused, BadImage}

-- the fault of an image as words and numbers; none is for running out of memory
abbrev pub fault_text : ImageFault → List ℕ
fault_text (Size found) = codes "size " ++ decimal found
fault_text (Root found) = codes "root " ++ decimal found
fault_text (Version found) = codes "version " ++ decimal found
fault_text (Place root region) = codes "place " ++ decimal root ++ codes " " ++ decimal region
fault_text Body = codes "body"
fault_text Memory = []

-- the text on an image that is refused, by its fault
abbrev pub bad_image_text : ImageFault → List ℕ
bad_image_text fault = codes "image refused: " ++ fault_text fault ++ codes "\n"

-- the text on bytes that are no image text, by the first line at fault and the reason
abbrev pub bad_line_text : ℕ → ImageReason → List ℕ
bad_line_text line reason = codes "refused line " ++ decimal line ++ codes ": " ++ image_reason_text reason ++ codes "\n"

-- The text is that of what is recovered from the image in the input.
pub record IsRecoveredText (input text : List ℕ) : Type 0 where
  pub image : Image
  pub read : IsImageText input image
  pub found : Recovered
  pub is : IsRecoveredOf image found
  pub text_is : text ≡ recovered_text found

-- The text names the first check that the image in the input does not pass, with what was found there.
pub record IsRefusedImage (input text : List ℕ) : Type 0 where
  pub image : Image
  pub read : IsImageText input image
  pub fault : ImageFault
  pub some : fault ≢ Memory
  pub is : IsDocumentFault image fault
  pub refusal : text ≡ bad_image_text fault

-- The text names the first line of the input with which its lines are no image text, or the missing one, and why.
pub record IsRefusedText (input text : List ℕ) : Type 0 where
  pub line : ℕ
  pub reason : ImageReason
  pub first : IsImageFault input (RefusedLine line reason)
  pub refusal : text ≡ bad_line_text line reason

-- how the answer to an input ends: with what was recovered, with the refusal of the image, or with that of an input that is no image text
abbrev pub HasEnd : List ℕ → ImageEnd → Type 0
HasEnd input Fine = (image : Image) × IsImageText input image × TellsDocuments image
HasEnd input BadImage = (image : Image) × IsImageText input image × (¬ TellsDocuments image)
HasEnd input Refused = (image : Image) → ¬ IsImageText input image

-- the text of the answer to an input, by its end
abbrev pub Writes : List ℕ → ImageEnd → List ℕ → Type 0
Writes input Fine text = IsRecoveredText input text
Writes input BadImage text = IsRefusedImage input text
Writes input Refused text = IsRefusedText input text
