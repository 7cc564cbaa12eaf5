-- What C is answered, as numbers.
use Rattle.std.specs.Prelude.{◌≡◌, ◌⊎◌, ℤ, pos}
use Rattle.c_images.specs.declared.reader.WordsFault.{WordsFault}
use Rattle.c_images.specs.declared.reader.WordsFault.TheVariants.{Head, Kind, Image, Numbers}
use Rattle.c_sessions.specs.declared.close.Closing.{Closing}
use Rattle.c_sessions.specs.declared.close.Closing.TheVariants.{Others, Again as ClosingAgain, Closed, Kept, Missing, Shared}
use Rattle.c_sessions.specs.declared.start.OpenFault.{OpenFault}
use Rattle.c_sessions.specs.declared.start.OpenFault.TheVariants.{Start, InTheWay}
use Rattle.c_sessions.specs.declared.steps.Called.{Called}
use Rattle.c_sessions.specs.declared.steps.Called.TheVariants.{Done, Pending, Again, Full, Worn, Stopped, OutOfTurn}
use Rattle.recovery.specs.declared.recovered_base.ImageFault.{ImageFault}
use Rattle.recovery.specs.declared.recovered_base.ImageFault.TheVariants.{Size, Root, Version, Place, Body, Memory}

-- the status that C is given for the result of an operation
abbrev pub code_of : Called → ℤ
code_of (Done place) = pos 0
code_of Pending = pos 1
code_of Again = pos 2
code_of Full = pos 3
code_of Worn = pos 4
code_of Stopped = pos 5
code_of OutOfTurn = pos 6

-- the status that C is given for the result of closing a session
abbrev pub closing_code : {O : Type 0} → Closing O → ℤ
closing_code (Closed remains account) = pos 0
closing_code (ClosingAgain session) = pos 2
closing_code (Kept kept account) = pos 8
closing_code Others = pos 11
closing_code (Missing rest) = pos 12
closing_code (Shared rest) = pos 2

-- the status for why no sessions were opened, though their sizes were right
abbrev pub open_code : OpenFault → ℤ
open_code (Start fault) = pos 8
open_code InTheWay = pos 2

-- a status for why no sessions were opened, though their sizes were right: memory ran out (8), or the sessions' new queue did not take its first
-- entry (2)
abbrev pub IsOpenCode : ℤ → Type 0
IsOpenCode code = (code ≡ pos 8) ⊎ (code ≡ pos 2)

-- the status for why recovery refuses an image, or that memory ran out
abbrev pub image_code : ImageFault → ℤ
image_code Memory = pos 8
image_code (Size found) = pos 15
image_code (Root found) = pos 16
image_code (Version found) = pos 17
image_code (Place root region) = pos 18
image_code Body = pos 19

-- the status for why no base is taken from words: they begin with no head, or name another kind of object, recovery refuses the image, or a result
-- has a number above the image's place
abbrev pub fault_code : WordsFault → ℤ
fault_code Head = pos 13
fault_code (Kind found) = pos 14
fault_code (Image fault) = image_code fault
fault_code Numbers = pos 20
