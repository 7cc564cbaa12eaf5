-- What writing a text does to a sink, where contracts see the bytes written.
use Rattle.std.specs.Prelude.{◌≡◌, ◌≤◌, ℕ, List, ◌++◌, length, take, Option, Some, IfSome}

-- the text stands after what was written before
abbrev pub Appends : List ℕ → Option (List ℕ) → Option (List ℕ) → Type 0
Appends text before after = IfSome before (λ written. after ≡ Some (written ++ text))

-- a prefix of the text stands after what was written before
abbrev pub AppendsFront : List ℕ → Option (List ℕ) → Option (List ℕ) → Type 0
AppendsFront text before after = IfSome before (λ written. (n : ℕ) × (n ≤ length text) × (after ≡ Some (written ++ take n text)))
