-- The answer to words, by the image in them.
use Rattle.std.specs.Prelude.{◌≡◌, ◌≢◌, ℕ, List, Result, Ok, Err}
use Rattle.cx_base.specs.OldFormat.{OldFormat}
use Rattle.cx_core.specs.declared.entry.Base.{Base}
use Rattle.cx_core.specs.declared.entry.Image.{Image}
use Rattle.recovery.specs.Recovery.{IsAccepted, IsFaultOf, NumbersWithin, recovered_from}
use Rattle.recovery.specs.declared.recovered_base.ImageFault.{ImageFault}
use Rattle.recovery.specs.declared.recovered_base.ImageFault.TheVariants.{Memory}
use Rattle.c_images.specs.Words.{SaysImage}
use Rattle.c_images.specs.declared.reader.WordsFault.{WordsFault}
use Rattle.c_images.specs.declared.reader.WordsFault.TheVariants.{Image as ImageRefused, Numbers}

-- The answer to words is the refusal of the first check that the image in them does not pass. Where the image passes all checks, a number above its place
-- is refused, and where there is none the answer is the base.
pub record AreAnsweredExactly (version : ℕ) (lawful : List ℕ → Type 0) (old : OldFormat) (words : List ℕ) (answer : Result Base WordsFault) : Type 0 where
  pub refused : (image : Image) (fault : ImageFault) → SaysImage words image → IsFaultOf version lawful old image fault → fault ≢ Memory → answer ≡ Err (ImageRefused fault)
  pub above : (image : Image) → SaysImage words image → IsAccepted version lawful old image → ¬ NumbersWithin (recovered_from old image) → answer ≡ Err Numbers
  pub accepted : (image : Image) → SaysImage words image → IsAccepted version lawful old image → NumbersWithin (recovered_from old image) → answer ≡ Ok (recovered_from old image)
