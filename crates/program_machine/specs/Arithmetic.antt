-- What instructions compute (RFC 9669). A word is a number below 2^64, and its lower half one below 2^32.
use Rattle.std.specs.Prelude.{◌==◌, ◌+◌, ◌-◌, ◌*◌, ◌/◌, ◌%◌, ◌^◌, nat_lt, nat_le, ℕ, Bool, true, false, bit_and, bit_or, bit_xor, if◌then◌else◌}
use Rattle.program_code.specs.declared.instruction.Arith.{Arith}
use Rattle.program_code.specs.declared.instruction.Arith.TheVariants as arith
use Rattle.program_code.specs.declared.instruction.Test.{Test}
use Rattle.program_code.specs.declared.instruction.Test.TheVariants as test
use Rattle.program_code.specs.declared.instruction.Width.{Width}
use Rattle.program_code.specs.declared.instruction.Width.TheVariants.{Whole, Half}

-- the lower 32 bits
abbrev pub low : ℕ → ℕ
low a = a % 2 ^ 32

-- SIGNED NUMBERS of 64 bits: those from 2^63 on are negative
abbrev pub is_negative : ℕ → Bool
is_negative a = nat_le (2 ^ 63) a

-- the negation in two's complement
abbrev pub negated : ℕ → ℕ
negated a = (2 ^ 64 - a) % 2 ^ 64

-- the absolute value
abbrev pub size_of : ℕ → ℕ
size_of a = if is_negative a then 2 ^ 64 - a else a

-- shifted to the right, with copies of the sign
abbrev pub shifted_signed : ℕ → ℕ → ℕ
shifted_signed a k = if is_negative a then 2 ^ 64 - 1 - (2 ^ 64 - 1 - a) / 2 ^ k else a / 2 ^ k

-- a signed number of 8 bits as one of 64
abbrev pub signed_8 : ℕ → ℕ
signed_8 a = if nat_le (2 ^ 7) a then a + (2 ^ 64 - 2 ^ 8) else a

-- a signed number of 16 bits as one of 64
abbrev pub signed_16 : ℕ → ℕ
signed_16 a = if nat_le (2 ^ 15) a then a + (2 ^ 64 - 2 ^ 16) else a

-- a signed number of 32 bits as one of 64
abbrev pub signed_32 : ℕ → ℕ
signed_32 a = if nat_le (2 ^ 31) a then a + (2 ^ 64 - 2 ^ 32) else a

-- whether both numbers are negative, or neither
abbrev pub have_one_sign : ℕ → ℕ → Bool
have_one_sign a b = if is_negative a then is_negative b else (if is_negative b then false else true)

-- the quotient of unsigned numbers; by 0 it is 0
abbrev pub quotient : ℕ → ℕ → ℕ
quotient a b = if b == 0 then 0 else a / b

-- the remainder of unsigned numbers; by 0 it is the first of them
abbrev pub remainder : ℕ → ℕ → ℕ
remainder a b = if b == 0 then a else a % b

-- the quotient of signed numbers, rounded to zero; by 0 it is 0
abbrev pub signed_quotient : ℕ → ℕ → ℕ
signed_quotient a b = if have_one_sign a b then quotient (size_of a) (size_of b) else negated (quotient (size_of a) (size_of b))

-- the remainder of signed numbers, with the sign of the number that is divided
abbrev pub signed_remainder : ℕ → ℕ → ℕ
signed_remainder a b = if is_negative a then negated (remainder (size_of a) (size_of b)) else remainder (size_of a) (size_of b)

-- the lowest two bytes in the other order
abbrev pub swapped_16 : ℕ → ℕ
swapped_16 a = a % 2 ^ 8 * 2 ^ 8 + a / 2 ^ 8 % 2 ^ 8

-- the lowest four bytes in the other order
abbrev pub swapped_32 : ℕ → ℕ
swapped_32 a = swapped_16 a * 2 ^ 16 + swapped_16 (a / 2 ^ 16)

-- the eight bytes of a word in the other order
abbrev pub swapped_64 : ℕ → ℕ
swapped_64 a = swapped_32 a * 2 ^ 32 + swapped_32 (a / 2 ^ 32)

-- OF 64 BITS: what an operation gives where its register held `a` and its operand is `b`
abbrev pub computed_whole : Arith → ℕ → ℕ → ℕ
computed_whole arith.Add a b = (a + b) % 2 ^ 64
computed_whole arith.Sub a b = (a + (2 ^ 64 - b)) % 2 ^ 64
computed_whole arith.Mul a b = (a * b) % 2 ^ 64
computed_whole arith.Div a b = quotient a b
computed_whole arith.Or a b = bit_or a b
computed_whole arith.And a b = bit_and a b
computed_whole arith.ShiftLeft a b = (a * 2 ^ (b % 64)) % 2 ^ 64
computed_whole arith.ShiftRight a b = a / 2 ^ (b % 64)
computed_whole arith.Neg a b = negated a
computed_whole arith.Mod a b = remainder a b
computed_whole arith.Xor a b = bit_xor a b
computed_whole arith.Mov a b = b
computed_whole arith.ShiftSigned a b = shifted_signed a (b % 64)
computed_whole arith.SignedDiv a b = signed_quotient a b
computed_whole arith.SignedMod a b = signed_remainder a b
computed_whole arith.Signed8 a b = signed_8 (b % 2 ^ 8)
computed_whole arith.Signed16 a b = signed_16 (b % 2 ^ 16)
computed_whole arith.Signed32 a b = signed_32 (b % 2 ^ 32)
computed_whole arith.Low16 a b = a % 2 ^ 16
computed_whole arith.Low32 a b = a % 2 ^ 32
computed_whole arith.Low64 a b = a
computed_whole arith.Swap16 a b = swapped_16 a
computed_whole arith.Swap32 a b = swapped_32 a
computed_whole arith.Swap64 a b = swapped_64 a

-- OF 32 BITS: shifts go by fewer bits, signed division is of signed numbers of 32 bits, and the rest are the lower half of what the halves make
abbrev pub computed_half : Arith → ℕ → ℕ → ℕ
computed_half arith.ShiftLeft a b = low (a * 2 ^ (b % 32))
computed_half arith.ShiftRight a b = a / 2 ^ (b % 32)
computed_half arith.ShiftSigned a b = shifted_signed (a * 2 ^ 32) (b % 32) / 2 ^ 32
computed_half arith.SignedDiv a b = low (signed_quotient (signed_32 a) (signed_32 b))
computed_half arith.SignedMod a b = low (signed_remainder (signed_32 a) (signed_32 b))
computed_half kind a b = low (computed_whole kind a b)

-- what an operation gives of whole words, or of their lower halves
abbrev pub computed : Arith → Width → ℕ → ℕ → ℕ
computed kind Whole a b = computed_whole kind a b
computed kind Half a b = computed_half kind (low a) (low b)

-- TESTS. A signed number with 2^63 added has its place in the order.
abbrev pub biased : ℕ → ℕ
biased a = (a + 2 ^ 63) % 2 ^ 64

-- whether a test holds of the left number `a` and the right number `b`, both of 64 bits
abbrev pub test_holds_whole : Test → ℕ → ℕ → Bool
test_holds_whole test.Always a b = true
test_holds_whole test.Equal a b = a == b
test_holds_whole test.Above a b = nat_lt b a
test_holds_whole test.AtLeast a b = nat_le b a
test_holds_whole test.AnyBit a b = if bit_and a b == 0 then false else true
test_holds_whole test.Other a b = if a == b then false else true
test_holds_whole test.SignedAbove a b = nat_lt (biased b) (biased a)
test_holds_whole test.SignedAtLeast a b = nat_le (biased b) (biased a)
test_holds_whole test.Below a b = nat_lt a b
test_holds_whole test.AtMost a b = nat_le a b
test_holds_whole test.SignedBelow a b = nat_lt (biased a) (biased b)
test_holds_whole test.SignedAtMost a b = nat_le (biased a) (biased b)

-- of halves: moved up, they have the same order
abbrev pub test_holds : Test → Width → ℕ → ℕ → Bool
test_holds kind Whole a b = test_holds_whole kind a b
test_holds kind Half a b = test_holds_whole kind (low a * 2 ^ 32) (low b * 2 ^ 32)
