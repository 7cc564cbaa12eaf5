-- The lines of a text.
use Rattle.std.specs.Prelude.{ℕ, Bool, false, ◌&&◌, ◌==◌, List, [], ◌∷◌, if◌then◌else◌}

-- a byte at the front of the first line
abbrev pub onto : ℕ → List (List ℕ) → List (List ℕ)
onto b [] = (b ∷ []) ∷ []
onto b (line ∷ lines) = (b ∷ line) ∷ lines

-- whether the next byte is a line feed
abbrev pub is_at_end : List ℕ → Bool
is_at_end [] = false
is_at_end (b ∷ bytes) = b == 10

-- The lines of a text, cut at each line feed. A carriage return right before a line feed belongs to the end of the
-- line. A last line without a line feed counts where it is not empty.
abbrev pub text_lines : List ℕ → List (List ℕ)
text_lines [] = []
text_lines (b ∷ bytes) =
    if b == 10 then [] ∷ text_lines bytes
    else (if (b == 13) && is_at_end bytes then text_lines bytes else onto b (text_lines bytes))

-- the line without a carriage return at its end
abbrev pub without_return : List ℕ → List ℕ
without_return [] = []
without_return (b ∷ []) = if b == 13 then [] else b ∷ []
without_return (b ∷ c ∷ line) = b ∷ without_return (c ∷ line)
