-- The words of commands.
use Rattle.std.specs.Prelude.{◌≡◌, ◌≤◌, ℕ, List, [], ◌∷◌, codes}
use Rattle.std.specs.Fmt.{decimal}
use Rattle.doc_text.specs.Generated.{IsLoad}

-- the words are this one alone
abbrev pub IsAlone : List ℕ → List (List ℕ) → Type 0
IsAlone word words = words ≡ word ∷ []

-- the words are the command `load` with these numbers, which are within its limits
pub record IsLoadOf (from clients ops : ℕ) (words : List (List ℕ)) : Type 0 where
  pub within : IsLoad from clients ops
  pub are : words ≡ codes "load" ∷ decimal from ∷ decimal clients ∷ decimal ops ∷ []

-- the words are the command `pool` with this number, which is 1 to 8
pub record IsPoolOf (seats : ℕ) (words : List (List ℕ)) : Type 0 where
  pub some : 1 ≤ seats
  pub few : seats ≤ 8
  pub are : words ≡ codes "pool" ∷ decimal seats ∷ []
