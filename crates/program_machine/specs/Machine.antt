-- What one instruction does: to registers, calls, the stack and the reply; or which word of the object it loads or stores.
use Rattle.std.specs.Prelude.{◌==◌, ◌+◌, ◌-◌, ◌*◌, ◌/◌, ◌%◌, ◌^◌, ◌&&◌, ◌||◌, nat_lt, nat_le, ℕ, Bool, true, List, length, slice_index, slice_set, bit_and, bit_or, if◌then◌else◌}
use Rattle.program_machine.specs.Arithmetic.{computed, test_holds, signed_8, signed_16, signed_32}
use Rattle.program_code.specs.declared.instruction.Instruction as instruction_type
use Rattle.program_code.specs.declared.instruction.Instruction.TheVariants.{Compute, Wide, Jump, Load, Store, Call, Exit, Rest}
use Rattle.program_code.specs.declared.instruction.Operand as operand_type
use Rattle.program_code.specs.declared.instruction.Operand.TheVariants.{Number, In}
use Rattle.program_code.specs.declared.instruction.Register.{Register}
use Rattle.program_code.specs.declared.instruction.Unit as unit_type
use Rattle.program_code.specs.declared.instruction.Unit.TheVariants as unit
use Rattle.program_machine.specs.declared.machine.Machine as machine_type
use Rattle.program_machine.specs.declared.machine.RunEnd.TheVariants.{Returned, Fault}
use Rattle.program_machine.specs.declared.machine.RunFault as fault_type
use Rattle.program_machine.specs.declared.machine.RunFault.TheVariants as fault_kind
use Rattle.program_machine.specs.declared.machine.AddressPlace as place_type
use Rattle.program_machine.specs.declared.machine.AddressPlace.TheVariants as place
use Rattle.program_machine.specs.declared.machine.Wish as wish_type
use Rattle.program_machine.specs.declared.machine.Wish.TheVariants.{Goes, Ends, Loads, Stores}

-- what a run has beside the object: registers, the number of the next instruction, calls, the stack and the reply
abbrev pub Machine : Type 0
Machine = machine_type.Machine

-- THE ADDRESSES: the object from 2^32 on, without its first line; the request, the reply, the stack and the constants above, each at a multiple of 2^32
abbrev pub place_in_region : ℕ → ℕ → ℕ → ℕ → place_type.AddressPlace
place_in_region region index words constants =
    if region == 1 && nat_lt (index + 8) words then place.Object (index + 8)
    else (if region == 2 && nat_lt index 144 then place.Request index
    else (if region == 3 && nat_lt index 136 then place.Reply (index + 8)
    else (if region == 4 && nat_lt index 512 then place.Stack index
    else (if region == 5 && nat_lt index constants then place.Constant index
    else place.Nowhere))))

-- where an address is: its upper 32 bits are the region, and its lower 32 bits the bytes from the region's start
abbrev pub place_of_address : ℕ → ℕ → ℕ → place_type.AddressPlace
place_of_address address words constants = place_in_region (address / 2 ^ 32) (address % 2 ^ 32 / 8) words constants

-- PARTS OF WORDS. Whether an address is a multiple of the bytes that are loaded or stored.
abbrev pub is_aligned : unit_type.Unit → ℕ → Bool
is_aligned unit.One address = true
is_aligned unit.Two address = address % 2 == 0
is_aligned unit.Four address = address % 4 == 0
is_aligned unit.Eight address = address % 8 == 0
is_aligned unit.SignedOne address = true
is_aligned unit.SignedTwo address = address % 2 == 0
is_aligned unit.SignedFour address = address % 4 == 0

-- as many ones as a unit has bits
abbrev pub mask_of : unit_type.Unit → ℕ
mask_of unit.One = 0xff
mask_of unit.Two = 0xffff
mask_of unit.Four = 0xffff_ffff
mask_of unit.Eight = 0xffff_ffff_ffff_ffff
mask_of unit.SignedOne = 0xff
mask_of unit.SignedTwo = 0xffff
mask_of unit.SignedFour = 0xffff_ffff

-- what a load takes out of a word, from one of its bytes on
abbrev pub loaded_part : unit_type.Unit → ℕ → ℕ
loaded_part unit.One from = from % 2 ^ 8
loaded_part unit.Two from = from % 2 ^ 16
loaded_part unit.Four from = from % 2 ^ 32
loaded_part unit.Eight from = from
loaded_part unit.SignedOne from = signed_8 (from % 2 ^ 8)
loaded_part unit.SignedTwo from = signed_16 (from % 2 ^ 16)
loaded_part unit.SignedFour from = signed_32 (from % 2 ^ 32)

-- what a load of a unit from an address gives of the word that the address is in
abbrev pub part : unit_type.Unit → ℕ → ℕ → ℕ
part u address word = loaded_part u (word / 2 ^ (8 * (address % 8)))

-- a word after a store of a unit of the value at an address in it: the unit's bytes are the value's lowest, and the others stay
abbrev pub with_part : unit_type.Unit → ℕ → ℕ → ℕ → ℕ
with_part u address word value =
    bit_or (bit_and word (2 ^ 64 - 1 - mask_of u * 2 ^ (8 * (address % 8)) % 2 ^ 64)) (bit_and value (mask_of u) * 2 ^ (8 * (address % 8)) % 2 ^ 64)

-- REGISTERS. What a register holds.
abbrev pub read : Machine → Register → ℕ
read m r = slice_index m.registers (r.number % 16)

-- the value of an operand: a number, or what a register holds
abbrev pub value_of : Machine → operand_type.Operand → ℕ
value_of m (Number n) = n
value_of m (In r) = read m r

-- the address at an offset from what a register holds, modulo 2^64
abbrev pub address_of : Machine → Register → ℕ → ℕ
address_of m base offset = (read m base + offset) % 2 ^ 64

-- the place after one
abbrev pub following_place : ℕ → ℕ
following_place at = (at + 1) % 2 ^ 64

-- a register written, and the place after this instruction
abbrev pub wrote : Machine → Register → ℕ → Machine
wrote m r v = record m { registers = slice_set m.registers (r.number % 16) v; at = following_place m.at }

-- the run ends by a fault of this kind at the machine's instruction
abbrev pub fault : Machine → fault_type.RunFault → ℕ → wish_type.Wish
fault m kind address = Ends (Fault kind m.at address)

-- LOADS. What a load from a place makes: the register is written, or a word of the object is wished for, or the run ends by a fault.
abbrev pub loads_from_place : Machine → unit_type.Unit → Register → ℕ → List ℕ → List ℕ → place_type.AddressPlace → wish_type.Wish × Machine
loads_from_place m u to address request constants (place.Object at) = (Loads at u address to, m)
loads_from_place m u to address request constants (place.Request at) = (Goes, wrote m to (part u address (slice_index request at)))
loads_from_place m u to address request constants (place.Reply at) = (Goes, wrote m to (part u address (slice_index m.reply at)))
loads_from_place m u to address request constants (place.Stack at) = (Goes, wrote m to (part u address (slice_index m.stack at)))
loads_from_place m u to address request constants (place.Constant at) = (Goes, wrote m to (part u address (slice_index constants at)))
loads_from_place m u to address request constants place.Nowhere = (fault m fault_kind.Address address, m)

-- a load from an address: a fault where the address is not a multiple of the unit
abbrev pub loads : Machine → unit_type.Unit → Register → ℕ → List ℕ → List ℕ → ℕ → wish_type.Wish × Machine
loads m u to address request constants words =
    if is_aligned u address
    then loads_from_place m u to address request constants (place_of_address address words (length constants))
    else (fault m fault_kind.Alignment address, m)

-- STORES. What a store to a place makes: the reply or the stack is changed, or a store to the object is wished for, or the run ends by a fault.
abbrev pub stores_to_place : Machine → unit_type.Unit → ℕ → ℕ → place_type.AddressPlace → wish_type.Wish × Machine
stores_to_place m u address value (place.Object at) = (Stores at u address value, m)
stores_to_place m u address value (place.Reply at) = (Goes, record m { reply = slice_set m.reply at (with_part u address (slice_index m.reply at) value); at = following_place m.at })
stores_to_place m u address value (place.Stack at) = (Goes, record m { stack = slice_set m.stack at (with_part u address (slice_index m.stack at) value); at = following_place m.at })
stores_to_place m u address value _ = (fault m fault_kind.Address address, m)

-- a store to an address: a fault where the address is not a multiple of the unit
abbrev pub stores : Machine → unit_type.Unit → ℕ → ℕ → ℕ → wish_type.Wish × Machine
stores m u address value words =
    if is_aligned u address
    then stores_to_place m u address value (place_of_address address words 0)
    else (fault m fault_kind.Alignment address, m)

-- CALLS: registers 6 to 10 and the place after the call are kept in a frame, and the stack of the function that is called lies 512 bytes lower
abbrev pub kept : List ℕ → ℕ → List ℕ → ℕ → List ℕ
kept frames base registers back =
    slice_set (slice_set (slice_set (slice_set (slice_set (slice_set frames base (slice_index registers 6)) (base + 1) (slice_index registers 7)) (base + 2) (slice_index registers 8)) (base + 3) (slice_index registers 9)) (base + 4) (slice_index registers 10)) (base + 5) back

-- a call of the function at `target`: a fault where seven calls are under way
abbrev pub calls : Machine → ℕ → wish_type.Wish × Machine
calls m target =
    if nat_le 7 m.depth
    then (fault m fault_kind.Depth 0, m)
    else (Goes, record m { registers = slice_set m.registers 10 ((slice_index m.registers 10 + (2 ^ 64 - 512)) % 2 ^ 64); at = target; depth = m.depth + 1; frames = kept m.frames (6 * m.depth) m.registers (following_place m.at) })

-- the registers after a return: 6 to 10 come back from the frame that begins at word `base`
abbrev pub back : List ℕ → List ℕ → ℕ → List ℕ
back registers frames base =
    slice_set (slice_set (slice_set (slice_set (slice_set registers 6 (slice_index frames base)) 7 (slice_index frames (base + 1))) 8 (slice_index frames (base + 2))) 9 (slice_index frames (base + 3))) 10 (slice_index frames (base + 4))

-- an exit: the end of the run with the value in register 0 where no call is under way, and else the return from a call
abbrev pub exits : Machine → wish_type.Wish × Machine
exits m =
    if m.depth == 0 || nat_lt 7 m.depth
    then (Ends (Returned (slice_index m.registers 0)), m)
    else (Goes, record m { registers = back m.registers m.frames (6 * (m.depth - 1)); at = slice_index m.frames (6 * (m.depth - 1) + 5); depth = m.depth - 1 })

-- AN INSTRUCTION: what it still needs of the object (`Goes` is nothing, and the run goes on), and the machine after its part of it
abbrev pub wish : Machine → instruction_type.Instruction → List ℕ → List ℕ → ℕ → wish_type.Wish × Machine
wish m (Compute kind width to by) request constants words = (Goes, wrote m to (computed kind width (read m to) (value_of m by)))
wish m (Wide to number) request constants words = (Goes, record (wrote m to number) { at = following_place (following_place m.at) })
wish m (Jump test width left right target) request constants words =
    (Goes, record m { at = if test_holds test width (read m left) (value_of m right) then target else following_place m.at })
wish m (Load u to base offset) request constants words = loads m u to (address_of m base offset) request constants words
wish m (Store u base offset value) request constants words = stores m u (address_of m base offset) (value_of m value) words
wish m (Call target) request constants words = calls m target
wish m Exit request constants words = exits m
wish m Rest request constants words = (fault m fault_kind.Place 0, m)
