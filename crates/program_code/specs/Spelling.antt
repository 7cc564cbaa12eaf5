-- The instruction that a word spells, by the tables of RFC 9669. A word is little endian: the opcode is its lowest byte, then come the registers, the offset and the number.
use Rattle.std.specs.Prelude.{◌==◌, ◌+◌, ◌-◌, ◌*◌, ◌/◌, ◌%◌, ◌^◌, ◌&&◌, ◌||◌, nat_le, ℕ, Bool, true, false, Option, None, Some, Result, Ok, Err, if◌then◌else◌}
use Rattle.program_code.specs.declared.instruction.Arith as arith_type
use Rattle.program_code.specs.declared.instruction.Arith.TheVariants as arith
use Rattle.program_code.specs.declared.instruction.Instruction as instruction_type
use Rattle.program_code.specs.declared.instruction.Instruction.TheVariants.{Compute, Wide, Jump, Load, Store, Call, Exit}
use Rattle.program_code.specs.declared.instruction.Operand as operand_type
use Rattle.program_code.specs.declared.instruction.Operand.TheVariants.{Number, In}
use Rattle.program_code.specs.declared.instruction.Register as register_type
use Rattle.program_code.specs.declared.instruction.Test as test_type
use Rattle.program_code.specs.declared.instruction.Test.TheVariants as test
use Rattle.program_code.specs.declared.instruction.Unit as unit_type
use Rattle.program_code.specs.declared.instruction.Unit.TheVariants as unit
use Rattle.program_code.specs.declared.instruction.Width as width_type
use Rattle.program_code.specs.declared.instruction.Width.TheVariants.{Whole, Half}
use Rattle.program_code.specs.declared.spelling.FaultKind as fault_type
use Rattle.program_code.specs.declared.spelling.FaultKind.TheVariants as fault

-- an instruction, or why there is none
abbrev pub Spelled : Type 0
Spelled = Result instruction_type.Instruction fault_type.FaultKind

-- THE FIELDS of a word. The class: bits 0 to 2.
abbrev pub class_in : ℕ → ℕ
class_in w = w % 8

-- the code of an operation of arithmetic or of a jump: bits 4 to 7
abbrev pub operation_code_in : ℕ → ℕ
operation_code_in w = w / 2 ^ 4 % 16

-- the source bit, bit 3: 1 where an operand is a register, 0 where it is the number
abbrev pub source_in : ℕ → ℕ
source_in w = w / 2 ^ 3 % 2

-- the mode of a load or a store: bits 5 to 7
abbrev pub mode_in : ℕ → ℕ
mode_in w = w / 2 ^ 5 % 8

-- the code of how many bytes a load or a store moves: bits 3 and 4
abbrev pub size_in : ℕ → ℕ
size_in w = w / 2 ^ 3 % 4

-- the destination register: bits 8 to 11
abbrev pub to_in : ℕ → register_type.Register
to_in w = record { number = w / 2 ^ 8 % 16 }

-- the source register: bits 12 to 15
abbrev pub from_in : ℕ → register_type.Register
from_in w = record { number = w / 2 ^ 12 % 16 }

-- the offset: bits 16 to 31
abbrev pub offset_in : ℕ → ℕ
offset_in w = w / 2 ^ 16 % 2 ^ 16

-- the number: bits 32 to 63
abbrev pub immediate_in : ℕ → ℕ
immediate_in w = w / 2 ^ 32

-- the offset, with its sign extended to 64 bits
abbrev pub signed_offset : ℕ → ℕ
signed_offset w = if nat_le (2 ^ 15) (offset_in w) then offset_in w + (2 ^ 64 - 2 ^ 16) else offset_in w

-- the number, with its sign extended to 64 bits
abbrev pub signed_number : ℕ → ℕ
signed_number w = if nat_le (2 ^ 31) (immediate_in w) then immediate_in w + (2 ^ 64 - 2 ^ 32) else immediate_in w

-- the operand that the source bit says
abbrev pub operand_in : ℕ → operand_type.Operand
operand_in w = if source_in w == 0 then Number (signed_number w) else In (from_in w)

-- the field that the operand leaves unused is zero
abbrev pub has_one_operand : ℕ → Bool
has_one_operand w = if source_in w == 0 then (from_in w).number == 0 else immediate_in w == 0

-- THE TABLES. Arithmetic by its code, where the offset is 0.
abbrev pub plain : ℕ → Option arith_type.Arith
plain c =
    if c == 0 then Some arith.Add else (if c == 1 then Some arith.Sub else (if c == 2 then Some arith.Mul else (if c == 3 then Some arith.Div
    else (if c == 4 then Some arith.Or else (if c == 5 then Some arith.And else (if c == 6 then Some arith.ShiftLeft else (if c == 7 then Some arith.ShiftRight
    else (if c == 9 then Some arith.Mod else (if c == 10 then Some arith.Xor else (if c == 11 then Some arith.Mov
    else (if c == 12 then Some arith.ShiftSigned else None)))))))))))

-- arithmetic by its code, where the offset is 1
abbrev pub signed : ℕ → Option arith_type.Arith
signed c = if c == 3 then Some arith.SignedDiv else (if c == 9 then Some arith.SignedMod else None)

-- the move that extends the sign of this many bits
abbrev pub extending : ℕ → Option arith_type.Arith
extending bits = if bits == 8 then Some arith.Signed8 else (if bits == 16 then Some arith.Signed16 else (if bits == 32 then Some arith.Signed32 else None))

-- the change of the byte order of this many bits to little endian, which keeps them as they are
abbrev pub to_little : ℕ → Option arith_type.Arith
to_little bits = if bits == 16 then Some arith.Low16 else (if bits == 32 then Some arith.Low32 else (if bits == 64 then Some arith.Low64 else None))

-- the change of the byte order of this many bits to the other order
abbrev pub to_other : ℕ → Option arith_type.Arith
to_other bits = if bits == 16 then Some arith.Swap16 else (if bits == 32 then Some arith.Swap32 else (if bits == 64 then Some arith.Swap64 else None))

-- the test of a jump by its code
abbrev pub test_of : ℕ → Option test_type.Test
test_of c =
    if c == 1 then Some test.Equal else (if c == 2 then Some test.Above else (if c == 3 then Some test.AtLeast
    else (if c == 4 then Some test.AnyBit else (if c == 5 then Some test.Other else (if c == 6 then Some test.SignedAbove else (if c == 7 then Some test.SignedAtLeast
    else (if c == 10 then Some test.Below else (if c == 11 then Some test.AtMost else (if c == 12 then Some test.SignedBelow
    else (if c == 13 then Some test.SignedAtMost else None))))))))))

-- how many bytes a load or a store moves, by the code
abbrev pub unit_of : ℕ → unit_type.Unit
unit_of s = if s == 0 then unit.Four else (if s == 1 then unit.Two else (if s == 2 then unit.One else unit.Eight))

-- how many bytes a load that extends the sign moves, by the code
abbrev pub signed_unit : ℕ → Option unit_type.Unit
signed_unit s = if s == 0 then Some unit.SignedFour else (if s == 1 then Some unit.SignedTwo else (if s == 2 then Some unit.SignedOne else None))

-- an instruction, where the fields that it does not use are zero
abbrev pub unused : Bool → instruction_type.Instruction → Spelled
unused true i = Ok i
unused false i = Err fault.Unused

-- CLASS 0: a number of 64 bits, the upper half of which is in the next word
abbrev pub wide : ℕ → ℕ → Spelled
wide w next =
    if w % 2 ^ 8 == 0x18
    then (if (from_in w).number == 0
    then (if offset_in w == 0 && next % 2 ^ 32 == 0 then Ok (Wide (to_in w) (immediate_in w + 2 ^ 32 * immediate_in next)) else Err fault.Unused)
    else Err fault.Map)
    else (if mode_in w == 1 || mode_in w == 2 then Err fault.Packet else Err fault.Opcode)

-- CLASS 1: loads. The load of a unit; its number is not used.
abbrev pub loaded_as : ℕ → Option unit_type.Unit → Spelled
loaded_as w None = Err fault.Opcode
loaded_as w (Some u) = unused (immediate_in w == 0) (Load u (to_in w) (from_in w) (signed_offset w))

-- the load that a word spells: mode 3 is a plain one, and mode 4 one that extends the sign
abbrev pub loaded : ℕ → Spelled
loaded w =
    if mode_in w == 3 then loaded_as w (Some (unit_of (size_in w)))
    else (if mode_in w == 4 then loaded_as w (signed_unit (size_in w)) else Err fault.Opcode)

-- CLASSES 2 AND 3: stores of a number, and of a register. The store of a number.
abbrev pub stored_number : ℕ → Spelled
stored_number w =
    if mode_in w == 3
    then unused ((from_in w).number == 0) (Store (unit_of (size_in w)) (to_in w) (signed_offset w) (Number (signed_number w)))
    else Err fault.Opcode

-- the store of a register that a word spells; mode 6 is an atomic operation, which is refused
abbrev pub stored_register : ℕ → Spelled
stored_register w =
    if mode_in w == 3
    then unused (immediate_in w == 0) (Store (unit_of (size_in w)) (to_in w) (signed_offset w) (In (from_in w)))
    else (if mode_in w == 6 then Err fault.Atomic else Err fault.Opcode)

-- CLASSES 4 AND 7: arithmetic of 32 and of 64 bits. The width of an instruction of a class.
abbrev pub width_of : ℕ → width_type.Width
width_of class = if class == 4 || class == 6 then Half else Whole

-- the move that extends a sign, by the offset: it takes a register, and in class 4 it extends 8 or 16 bits
abbrev pub moved : ℕ → Option arith_type.Arith
moved w = if source_in w == 0 || (class_in w == 4 && offset_in w == 32) then None else extending (offset_in w)

-- the operation on two operands that a word spells, by its offset and its code
abbrev pub operation : ℕ → Option arith_type.Arith
operation w =
    if offset_in w == 0 then plain (operation_code_in w)
    else (if offset_in w == 1 then signed (operation_code_in w)
    else (if operation_code_in w == 11 then moved w else None))

-- the instruction of an operation on two operands
abbrev pub operated : ℕ → Option arith_type.Arith → Spelled
operated w None = Err fault.Opcode
operated w (Some kind) = unused (has_one_operand w) (Compute kind (width_of (class_in w)) (to_in w) (operand_in w))

-- the negation that a word spells: it has no operand, so the fields of one are 0
abbrev pub spelled_negation : ℕ → Spelled
spelled_negation w =
    if source_in w == 0
    then unused ((from_in w).number == 0 && (offset_in w == 0 && immediate_in w == 0)) (Compute arith.Neg (width_of (class_in w)) (to_in w) (Number 0))
    else Err fault.Opcode

-- the orders of bytes: to little endian and to big endian in class 4, the other order in class 7
abbrev pub order : ℕ → Option arith_type.Arith
order w = if class_in w == 4 then (if source_in w == 0 then to_little (immediate_in w) else to_other (immediate_in w)) else (if source_in w == 0 then to_other (immediate_in w) else None)

-- the instruction of a change of the byte order
abbrev pub reordered : ℕ → Option arith_type.Arith → Spelled
reordered w None = Err fault.Opcode
reordered w (Some kind) = unused ((from_in w).number == 0 && offset_in w == 0) (Compute kind Whole (to_in w) (Number 0))

-- the arithmetic that a word spells: code 13 changes the byte order, and 8 negates
abbrev pub spelled_arithmetic : ℕ → Spelled
spelled_arithmetic w = if operation_code_in w == 13 then reordered w (order w) else (if operation_code_in w == 8 then spelled_negation w else operated w (operation w))

-- CLASSES 5 AND 6: jumps by tests of 64 and of 32 bits, calls, the exit. The place that is `by` words from the one after `at`.
abbrev pub target : ℕ → ℕ → ℕ
target at by = (at + 1 + by) % 2 ^ 64

-- the jump by a test that a word at a place spells
abbrev pub jumps : ℕ → ℕ → Option test_type.Test → Spelled
jumps w at None = Err fault.Opcode
jumps w at (Some kind) = unused (has_one_operand w) (Jump kind (width_of (class_in w)) (to_in w) (operand_in w) (target at (signed_offset w)))

-- the jump to a place without a test, as one whose test always holds
abbrev pub always : ℕ → ℕ → instruction_type.Instruction
always w to = Jump test.Always Whole (to_in w) (Number 0) to

-- a jump without a test goes by the offset in class 5, and by the number in class 6
abbrev pub jumps_always : ℕ → ℕ → Spelled
jumps_always w at =
    if source_in w == 0
    then (if class_in w == 5
    then unused (((to_in w).number == 0 && (from_in w).number == 0) && immediate_in w == 0) (always w (target at (signed_offset w)))
    else unused (((to_in w).number == 0 && (from_in w).number == 0) && offset_in w == 0) (always w (target at (signed_number w))))
    else Err fault.Opcode

-- a call of a function of the program; the other calls are of helpers
abbrev pub spelled_call : ℕ → ℕ → Spelled
spelled_call w at =
    if source_in w == 0 && (from_in w).number == 1
    then unused ((to_in w).number == 0 && offset_in w == 0) (Call (target at (signed_number w)))
    else Err fault.Helper

-- the exit: its opcode is 0x95, and every other field of the word is 0
abbrev pub spelled_exit : ℕ → Spelled
spelled_exit w = if w == 0x95 then Ok Exit else (if source_in w == 0 then Err fault.Unused else Err fault.Opcode)

-- the jump, call or exit that a word at a place spells; calls and the exit are of class 5
abbrev pub led : ℕ → ℕ → Spelled
led w at =
    if operation_code_in w == 0 then jumps_always w at
    else (if class_in w == 5 && operation_code_in w == 8 then spelled_call w at
    else (if class_in w == 5 && operation_code_in w == 9 then spelled_exit w else jumps w at (test_of (operation_code_in w))))

-- THE INSTRUCTION of a word and the one after it, at a place
abbrev pub spelled : ℕ → ℕ → ℕ → Spelled
spelled w next at =
    if class_in w == 0 then wide w next
    else (if class_in w == 1 then loaded w
    else (if class_in w == 2 then stored_number w
    else (if class_in w == 3 then stored_register w
    else (if class_in w == 4 || class_in w == 7 then spelled_arithmetic w else led w at))))
