-- Numbers as decimal text.
use Rattle.std.specs.Prelude.{◌^◌, ℕ, suc, zero, Bool, not, ◌&&◌, ◌||◌, ◌==◌, nat_lt, List, length, drop, slice_index, Option, None, Some, if◌then◌else◌, ℤ, pos, negsuc}
use Rattle.std.specs.List.{list_all}
use Rattle.std.specs.Char.{is_ascii_digit}
use Rattle.std.specs.Str.Parse.{digits_value, starts_with_minus}

-- one digit or more, the first of several not 0
abbrev pub is_numeral : List ℕ → Bool
is_numeral text = nat_lt 0 (length text) && list_all is_ascii_digit text && (not (slice_index text 0 == 48) || (length text == 1))

-- the number below 2^64 that the text writes without leading zeros
abbrev pub number_of : List ℕ → Option ℕ
number_of text = if is_numeral text && nat_lt (digits_value 10 text) (2 ^ 64) then Some (digits_value 10 text) else None

-- the signed number of a number, within 64 bits
abbrev pub positive_of : Option ℕ → Option ℤ
positive_of None = None
positive_of (Some n) = if nat_lt n (2 ^ 63) then Some (pos n) else None

-- the number below 0 of a number, within 64 bits; there is no -0
abbrev pub negative_of : Option ℕ → Option ℤ
negative_of None = None
negative_of (Some zero) = None
negative_of (Some (suc n)) = if nat_lt n (2 ^ 63) then Some (negsuc n) else None

-- the 64-bit integer that the text writes without leading zeros
abbrev pub integer_of : List ℕ → Option ℤ
integer_of text = if starts_with_minus text then negative_of (number_of (drop 1 text)) else positive_of (number_of text)

-- whether the number is a 64-bit integer
abbrev pub is_i64 : ℤ → Bool
is_i64 (pos n) = nat_lt n (2 ^ 63)
is_i64 (negsuc n) = nat_lt n (2 ^ 63)
