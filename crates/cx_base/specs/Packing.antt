-- Bytes packed into words, eight to a word, the first in the lowest bits.
use Rattle.std.specs.Prelude.{ℕ, ◌+◌, ◌*◌, ◌/◌, ◌%◌, ◌^◌, List, map, slice_index}
use Rattle.std.specs.List.{range_with_len}

-- byte i of some words: it stands in word i / 8 at bits 8 * (i mod 8)
abbrev pub byte_at : List ℕ → ℕ → ℕ
byte_at words i = slice_index words (i / 8) / 2 ^ (8 * (i % 8)) % 256

-- the first n bytes of some words
abbrev pub unpacked : ℕ → List ℕ → List ℕ
unpacked n words = map (byte_at words) (range_with_len 0 n)

-- word k of some bytes, with zeros behind their end
abbrev pub packed_at : List ℕ → ℕ → ℕ
packed_at bytes k =
    slice_index bytes (8 * k)
    + 2 ^ 8 * slice_index bytes (8 * k + 1)
    + 2 ^ 16 * slice_index bytes (8 * k + 2)
    + 2 ^ 24 * slice_index bytes (8 * k + 3)
    + 2 ^ 32 * slice_index bytes (8 * k + 4)
    + 2 ^ 40 * slice_index bytes (8 * k + 5)
    + 2 ^ 48 * slice_index bytes (8 * k + 6)
    + 2 ^ 56 * slice_index bytes (8 * k + 7)

-- n words that hold some bytes, and zeros behind them
abbrev pub packed : ℕ → List ℕ → List ℕ
packed n bytes = map (packed_at bytes) (range_with_len 0 n)
