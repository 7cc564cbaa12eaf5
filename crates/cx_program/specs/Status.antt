-- The exit codes, and the status with which a text about an image is written.
use Rattle.std.specs.Prelude.{ℕ}
use Rattle.doc_commands.specs.declared.image_answer.ImageEnd.{ImageEnd}
use Rattle.doc_commands.specs.declared.image_answer.ImageEnd.TheVariants as ends
use Rattle.cx_program.specs.declared.status.Status.{Status}
use Rattle.cx_program.specs.declared.status.Status.TheVariants.{Fine, Usage, Refused, ReadFault, WriteFault, Memory, BadImage, TooLong}

-- the exit code of each status
abbrev pub status_code : Status → ℕ
status_code Fine = 0
status_code Usage = 2
status_code Refused = 3
status_code ReadFault = 4
status_code WriteFault = 5
status_code Memory = 6
status_code BadImage = 7
status_code TooLong = 8

-- the status with which a text about an image is written
abbrev pub status_of : ImageEnd → Status
status_of ends.Fine = Fine
status_of ends.Refused = Refused
status_of ends.BadImage = BadImage
