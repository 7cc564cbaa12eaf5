-- The rules that the instructions of a program keep, and what words are a program of.
use Rattle.std.specs.Prelude.{◌≡◌, ◌==◌, ◌+◌, ◌-◌, ◌%◌, ◌^◌, ◌<◌, ◌&&◌, not, nat_lt, nat_le, ℕ, Bool, true, false, List, length, take, Option, None, Some, Ok, Err, IsOk, slice_index, slice_index_or, if◌then◌else◌}
use Rattle.program_code.specs.Spelling.{Spelled, spelled}
use Rattle.program_code.specs.declared.instruction.Instruction as instruction_type
use Rattle.program_code.specs.declared.instruction.Instruction.TheVariants.{Compute, Wide, Jump, Load, Store, Call, Exit, Rest}
use Rattle.program_code.specs.declared.instruction.Operand as operand_type
use Rattle.program_code.specs.declared.instruction.Operand.TheVariants.{Number, In}
use Rattle.program_code.specs.declared.instruction.Register as register_type
use Rattle.program_code.specs.declared.instruction.Test.TheVariants.{Always}
use Rattle.program_code.specs.declared.program.Program as program_type
use Rattle.program_code.specs.declared.program.ProgramFault as fault_type
use Rattle.program_code.specs.declared.spelling.FaultKind.TheVariants as fault

-- REGISTERS: 0 to 10, of which 10 is the end of the stack, and is not written
abbrev pub is_known : register_type.Register → Bool
is_known r = nat_le r.number 10

-- whether a register may be written
abbrev pub is_writable : register_type.Register → Bool
is_writable r = nat_le r.number 9

-- whether an operand may be read
abbrev pub is_operand : operand_type.Operand → Bool
is_operand (Number n) = true
is_operand (In r) = is_known r

-- whether each register that an instruction names may be used as it is used there
abbrev pub has_registers : instruction_type.Instruction → Bool
has_registers (Compute kind width to by) = is_writable to && is_operand by
has_registers (Wide to number) = is_writable to
has_registers (Jump test width left right target) = is_known left && is_operand right
has_registers (Load u to base offset) = is_writable to && is_known base
has_registers (Store u base offset value) = is_known base && is_operand value
has_registers (Call target) = true
has_registers Exit = true
has_registers Rest = true

-- JUMPS AND CALLS: to the first word of an instruction. The word after one with the opcode 0x18 is its second one.
abbrev pub is_rest : List ℕ → ℕ → Bool
is_rest words at = nat_lt 0 at && slice_index words (at - 1) % 2 ^ 8 == 0x18

-- whether an instruction begins at a place
abbrev pub is_instruction : List ℕ → ℕ → Bool
is_instruction words at = nat_lt at (length words) && not (is_rest words at)

-- whether an instruction that jumps or calls leads to the beginning of an instruction
abbrev pub leads_right : List ℕ → instruction_type.Instruction → Bool
leads_right words (Jump test width left right target) = is_instruction words target
leads_right words (Call target) = is_instruction words target
leads_right words _ = true

-- THE END: where an instruction goes on to what is behind it, there is an instruction behind it
abbrev pub follower : ℕ → instruction_type.Instruction → Option ℕ
follower at Exit = None
follower at (Jump Always width left right target) = None
follower at (Wide to number) = Some (at + 2)
follower at _ = Some (at + 1)

-- whether the place that an instruction goes on to, if there is one, is within the words
abbrev pub is_within : List ℕ → Option ℕ → Bool
is_within words None = true
is_within words (Some next) = nat_lt next (length words)

-- THE INSTRUCTION AT A PLACE, or why there is none
abbrev pub ruled : List ℕ → ℕ → instruction_type.Instruction → Spelled
ruled words at i =
    if has_registers i then (if leads_right words i then (if is_within words (follower at i) then Ok i else Err fault.End) else Err fault.Target) else Err fault.Register

-- what a word spells, where it keeps the rules
abbrev pub ruled_spelling : List ℕ → ℕ → Spelled → Spelled
ruled_spelling words at (Err kind) = Err kind
ruled_spelling words at (Ok i) = ruled words at i

-- the instruction at a place: the second word of a number of 64 bits, or what the word and the one after it spell under the rules
abbrev pub decoded : List ℕ → ℕ → Spelled
decoded words at = if is_rest words at then Ok Rest else ruled_spelling words at (spelled (slice_index words at) (slice_index words (at + 1)) at)

-- whether the first `count` of these words may be instructions
abbrev pub has_length : List ℕ → ℕ → Bool
has_length words count = nat_lt 0 count && (nat_le count 65536 && nat_le count (length words))

-- the instructions that words are, from the first one to a place
pub record DecodesTo (words : List ℕ) (place : ℕ) (code : List instruction_type.Instruction) : Type 0 where
  pub long : length code ≡ place
  pub each : (at : ℕ) → at < place → decoded words at ≡ Ok (slice_index_or code at Exit)

-- the first instruction at fault
pub record IsFirstInstructionFault (words : List ℕ) (f : fault_type.ProgramFault) : Type 0 where
  pub within : f.at < length words
  pub faults : decoded words f.at ≡ Err f.kind
  pub before : (at : ℕ) → at < f.at → IsOk (decoded words at)

-- A PROGRAM: the first words are these instructions
pub record Decodes (words : List ℕ) (count : ℕ) (code : List instruction_type.Instruction) : Type 0 where
  pub sized : has_length words count ≡ true
  pub decodes : DecodesTo (take count words) count code

-- NO PROGRAM: the number of instructions is out of range, or one is at fault, and none before it
abbrev pub IsFaultByLength : Bool → List ℕ → ℕ → fault_type.ProgramFault → Type 0
IsFaultByLength true words count f = IsFirstInstructionFault (take count words) f
IsFaultByLength false words count f = (f.kind ≡ fault.Length) × (f.at ≡ 0)

-- why words are no program with `count` instructions
abbrev pub IsFirstProgramFault : List ℕ → ℕ → fault_type.ProgramFault → Type 0
IsFirstProgramFault words count f = IsFaultByLength (has_length words count) words count f

-- the words of a program
abbrev pub program_words : program_type.Program → List ℕ
program_words program = program.words.items

-- the decoded instructions of a program
abbrev pub instructions_of : program_type.Program → List instruction_type.Instruction
instructions_of program = program.code.items
