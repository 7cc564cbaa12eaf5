-- What an operation of a program's object means: a run of the program.
use Rattle.std.specs.Prelude.{◌≡◌, ◌==◌, ◌-◌, ◌*◌, ◌%◌, ◌^◌, ◌&&◌, nat_le, not, ℕ, Bool, true, Option, None, Some, List, [], ◌∷◌, replicate, slice_index, slice_set, IsFalse}
use Rattle.cx_base.specs.Memory.{Words}
use Rattle.cx_base.specs.OldFormat.{OldFormat, no_old_format}
use Rattle.program_machine.specs.Machine.{Machine}
use Rattle.program_code.specs.declared.instruction.Instruction as instruction_type
use Rattle.program_machine.specs.declared.machine.RunEnd.{RunEnd}
use Rattle.program_machine.specs.declared.machine.RunEnd.TheVariants.{Returned, Fault}
use Rattle.program_machine.specs.declared.machine.RunFault as fault_type
use Rattle.program_machine.specs.declared.machine.RunFault.TheVariants as fault_kind
use Rattle.program_object.specs.Run.{RunState, run, setting}

-- an image of this many lines and of the program with this fingerprint
pub record IsProgramImage (lines version : ℕ) (image : List ℕ) : Type 0 where
  pub words : Words (8 * lines) image
  pub version_is : slice_index image 0 ≡ version

-- the first image: the fingerprint, and zeros
abbrev pub opening : ℕ → ℕ → List ℕ
opening lines version = version ∷ replicate (8 * lines - 1) 0

-- an operation only reads where the lowest bit of its first word is 1
abbrev pub reads : List ℕ → Bool
reads op = slice_index op 0 % 2 == 1

-- no word of a reply or of the stack yet; registers 1 to 4 are the addresses of request, reply and object, and the object's bytes; register 10 is the end of the stack
unfoldable pub start : ℕ → ℕ → Machine
start lines zeros = record {
  registers = 0 ∷ 8589934592 ∷ 12884901888 ∷ 4294967296 ∷ 64 * (lines - 1) ∷ 0 ∷ 0 ∷ 0 ∷ 0 ∷ 0 ∷ 17179873280 ∷ 0 ∷ 0 ∷ 0 ∷ 0 ∷ 0 ∷ [];
  at = 0;
  depth = 0;
  frames = replicate 48 zeros;
  stack = replicate 512 zeros;
  reply = replicate 144 zeros;
}

-- the number of a fault in the first word of a reply; 1 there is a run that returned
abbrev pub fault_number : fault_type.RunFault → ℕ
fault_number fault_kind.Address = 2
fault_number fault_kind.Alignment = 3
fault_number fault_kind.ReadOnly = 4
fault_number fault_kind.Stores = 5
fault_number fault_kind.Fuel = 6
fault_number fault_kind.Depth = 7
fault_number fault_kind.Place = 8

-- the reply of a run that returned a value: 1, the value, and the other words as the run left them
abbrev pub returned : ℕ → List ℕ → List ℕ
returned value reply = slice_set (slice_set reply 0 1) 1 (value % 2 ^ 64)

-- the reply of a run that a fault ended: its number, the number of the instruction, the address, and zeros
unfoldable pub faulted : ℕ → ℕ → ℕ → List ℕ
faulted number at address = number ∷ at % 2 ^ 64 ∷ address % 2 ^ 64 ∷ replicate 141 0

-- after a run: a fault leaves the image as it was
abbrev pub run_outcome : List ℕ → RunEnd × RunState → List ℕ × List ℕ
run_outcome image (Returned value, s) = (s.image, returned value s.machine.reply)
run_outcome image (Fault kind at address, s) = (image, faulted (fault_number kind) at address)

-- a run over an image, which stores to it only where it may
abbrev pub run_over : List instruction_type.Instruction → List ℕ → ℕ → ℕ → Bool → List ℕ → List ℕ → List ℕ × List ℕ
run_over code constants lines fuel writes image op =
    run_outcome image (run fuel (setting code constants (8 * lines) op writes) (record { machine = start lines 0; stores = 0; image = image }))

-- ONE STEP of the object: the image after an operation, and the reply
abbrev pub program_step : List instruction_type.Instruction → List ℕ → ℕ → ℕ → List ℕ → List ℕ → List ℕ × List ℕ
program_step code constants lines fuel image op = run_over code constants lines fuel (not (reads op)) image op

-- what a run left, and what it replied; one that may not store leaves the words
pub record Operates (code : List instruction_type.Instruction) (constants : List ℕ) (lines fuel : ℕ) (writes : Bool) (op before now reply : List ℕ) : Type 0 where
  pub does : run_over code constants lines fuel writes before op ≡ (now, reply)
  pub still : IsFalse writes → now ≡ before

-- THE FORMAT BEFORE: that of the program with another fingerprint. Whether the fingerprint before, if there is one, is not `version`.
abbrev pub is_other : Option ℕ → ℕ → Bool
is_other None version = true
is_other (Some old) version = not (old == version)

-- what a program is asked once for each image that it takes over: an update that no caller's number says, and the fingerprint before
unfoldable pub upgrade_request : ℕ → List ℕ
upgrade_request old = (2 ^ 64 - 2) ∷ old ∷ replicate 142 0

-- THE UPGRADE: the first word names the program, and then the program is run once. So a fault, or a program that knows no such operation and returns, leaves all the other words.
abbrev pub upgraded_words : List instruction_type.Instruction → List ℕ → ℕ → ℕ → ℕ → ℕ → List ℕ → List ℕ
upgraded_words code constants lines fuel version old image = (program_step code constants lines fuel (slice_set image 0 version) (upgrade_request old)).0

-- the old format of a program's object: none, or the images of the program with the fingerprint `old`, and what an upgrade makes of them
abbrev pub old_of : List instruction_type.Instruction → List ℕ → ℕ → ℕ → ℕ → Option ℕ → OldFormat
old_of code constants lines fuel version None = no_old_format
old_of code constants lines fuel version (Some old) =
    record { version = Some old; lawful = IsProgramImage lines old; upgraded = upgraded_words code constants lines fuel version old }

-- whether the lines, the fuel and the fingerprint before fit: each word has an address, and the two fingerprints differ
abbrev pub numbers_fit : ℕ → ℕ → ℕ → Option ℕ → Bool
numbers_fit lines fuel version before = nat_le 1 lines && (nat_le lines (2 ^ 26) && (nat_le fuel (2 ^ 20) && is_other before version))
