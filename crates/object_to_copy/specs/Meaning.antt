-- What the operations mean, and which images there are.
use Rattle.std.specs.Prelude.{◌≡◌, ◌-◌, ◌*◌, nat_lt, ℕ, Bool, true, false, List, ◌∷◌, replicate, slice_index, slice_set, if◌then◌else◌}
use Rattle.cx_base.specs.Memory.{Words}
use Rattle.object_to_copy.specs.Operations.{op_in, reply_words}
use Rattle.object_to_copy.specs.declared.operations.Op.{Op}
use Rattle.object_to_copy.specs.declared.operations.Op.TheVariants.{Raise, Read, Other}
use Rattle.object_to_copy.specs.declared.operations.Reply.{Reply}
use Rattle.object_to_copy.specs.declared.operations.Reply.TheVariants.{Value, NoOperation}

-- an image of this many lines: the version, and behind it any words, the first of which is the number
pub record IsImage (lines : ℕ) (image : List ℕ) : Type 0 where
  pub words : Words (8 * lines) image
  pub version : slice_index image 0 ≡ 1

-- the first image
abbrev pub object_opening : ℕ → List ℕ
object_opening lines = 1 ∷ replicate (8 * lines - 1) 0

-- the number in an image, and what it is after it was given another one
abbrev pub number_in : List ℕ → ℕ
number_in image = slice_index image 1

abbrev pub raised : ℕ → ℕ → ℕ
raised number to = if nat_lt number to then to else number

-- the reply to an operation, and the image after it
abbrev pub reply_to : List ℕ → Op → Reply
reply_to image (Raise to) = Value (raised (number_in image) to)
reply_to image Read = Value (number_in image)
reply_to image Other = NoOperation

abbrev pub image_after : List ℕ → Op → List ℕ
image_after image (Raise to) = if nat_lt (number_in image) to then slice_set image 1 to else image
image_after image _ = image

-- one step: the image after an operation's words, and the reply's words
abbrev pub object_step : List ℕ → List ℕ → List ℕ × List ℕ
object_step image op = (image_after image (op_in op), reply_words (reply_to image (op_in op)))

-- an operation was done on an image: this is its reply, and this the image after it
pub record Does (op : Op) (reply : Reply) (before now : List ℕ) : Type 0 where
  pub reply_is : reply ≡ reply_to before op
  pub after : now ≡ image_after before op

-- whether an operation, or what words ask for, only reads
abbrev pub is_reading : Op → Bool
is_reading Read = true
is_reading _ = false

abbrev pub object_reads : List ℕ → Bool
object_reads op = is_reading (op_in op)
