-- The fingerprint of a program: 64 bits of its words, of how many of them are instructions, and of its fuel.
use Rattle.std.specs.Prelude.{◌*◌, ◌/◌, ◌%◌, ◌^◌, ℕ, List, [], ◌∷◌, bit_xor}

-- a number with its bits from 29 on mixed into its lowest ones by an exclusive or
abbrev pub shifted_in : ℕ → ℕ
shifted_in m = bit_xor m (m / 2 ^ 29)

-- one word more
abbrev pub mixed : ℕ → ℕ → ℕ
mixed so_far word = shifted_in (bit_xor so_far word * 0x9E37_79B9_7F4A_7C15 % 2 ^ 64)

-- the fingerprint so far, with all these words more
abbrev pub folded : ℕ → List ℕ → ℕ
folded so_far [] = so_far
folded so_far (word ∷ words) = folded (mixed so_far word) words

-- the fingerprint of a program of these words, of which the first `instructions` are instructions, and with this fuel
abbrev pub fingerprint : List ℕ → ℕ → ℕ → ℕ
fingerprint words instructions fuel = folded (mixed (mixed 14695981039346656037 instructions) fuel) words
