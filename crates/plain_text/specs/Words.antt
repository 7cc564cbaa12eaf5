-- The words of a line, with one space between two words.
use Rattle.std.specs.Prelude.{ℕ, Bool, ◌==◌, nat_lt, List, [], ◌∷◌, length, Option, None, Some, if◌then◌else◌}
use Rattle.std.specs.List.{position_or_len}
use Rattle.std.specs.Str.{bytes_eq}

-- what stands before the first space
abbrev pub first_word : List ℕ → List ℕ
first_word [] = []
first_word (b ∷ text) = if b == 32 then [] else b ∷ first_word text

-- what stands behind the first space, where there is a space
abbrev pub rest_of : List ℕ → Option (List ℕ)
rest_of [] = None
rest_of (b ∷ text) = if b == 32 then Some text else rest_of text

-- whether the text is this word
abbrev pub is_word : List ℕ → List ℕ → Bool
is_word name text = bytes_eq text name

-- whether a byte is this one
abbrev pub is_byte : ℕ → ℕ → Bool
is_byte byte b = b == byte

-- whether there is a byte that passes
abbrev pub has_byte : (ℕ → Bool) → List ℕ → Bool
has_byte p bytes = nat_lt (position_or_len p bytes) (length bytes)
