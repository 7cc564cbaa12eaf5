-- Lines that are told apart by their first byte, and read off their text one after another.
use Rattle.std.proofs.Common.{◌≡◌, ◌≢◌, ℕ, List, [], ◌∷◌, ◌++◌, All, flat_map, sym, ap, ◌∙◌, refl, append_assoc}
use Rattle.std.proofs.lemmas.List.{append_cancel_left}
use Rattle.std.proofs.lemmas.List.Elements.{All-head, All-tail}

-- the text begins with another byte
abbrev pub BeginsWithout : ℕ → List ℕ → Type 0
BeginsWithout byte [] = ⊥
BeginsWithout byte (b ∷ text) = b ≢ byte

-- how lines of a kind are read off: each begins with the byte, and two of which the texts are the same, whatever follows, are the same
pub record AreReadOff {L : Type 0} (text : L → List ℕ) (byte : ℕ) (P : L → Type 0) : Type 0 where
  pub begins : (line : L) → (rest : List ℕ) × (text line ≡ byte ∷ rest)
  pub same : (a b : L) (x y : List ℕ) → P a → P b → text a ++ x ≡ text b ++ y → a ≡ b

no_line : {L : Type 0} (text : L → List ℕ) (byte : ℕ) (line : L) (rest x y : List ℕ) → text line ≡ byte ∷ rest → BeginsWithout byte y → text line ++ x ≡ y → ⊥
no_line text byte line rest x [] begins outside e = outside
no_line text byte line rest x (b ∷ y) begins outside e =
    let both : byte ∷ (rest ++ x) ≡ b ∷ y = sym (ap (λ (t : List ℕ). t ++ x) begins) ∙ e in
    let first : byte ≡ b = cc in
    outside (sym first)

-- lists of lines with the same text are the same, and so is what follows
pub same_lines : {L : Type 0} (text : L → List ℕ) (byte : ℕ) (P : L → Type 0) → AreReadOff text byte P → (a b : List L) (x y : List ℕ)
    → All P a → All P b → BeginsWithout byte x → BeginsWithout byte y → flat_map text a ++ x ≡ flat_map text b ++ y → (a ≡ b) × (x ≡ y)
same_lines text byte P read [] [] x y holds others x_outside y_outside e = (refl, e)
same_lines text byte P read [] (line ∷ b) x y holds others x_outside y_outside e =
    let begins = read.begins line in
    absurd (no_line text byte line begins.0 (flat_map text b ++ y) x begins.1 x_outside (sym (append_assoc (text line) (flat_map text b) y) ∙ sym e))
same_lines text byte P read (line ∷ a) [] x y holds others x_outside y_outside e =
    let begins = read.begins line in
    absurd (no_line text byte line begins.0 (flat_map text a ++ x) y begins.1 y_outside (sym (append_assoc (text line) (flat_map text a) x) ∙ e))
same_lines {L} text byte P read (line ∷ a) (next ∷ b) x y holds others x_outside y_outside e =
    let parts = sym (append_assoc (text line) (flat_map text a) x) ∙ e ∙ append_assoc (text next) (flat_map text b) y in
    let same : line ≡ next = read.same line next (flat_map text a ++ x) (flat_map text b ++ y) (All-head P line a holds) (All-head P next b others) parts in
    let rest = append_cancel_left (text line) (flat_map text a ++ x) (flat_map text b ++ y)
    (parts ∙ ap (λ (l : L). text l ++ (flat_map text b ++ y)) (sym same)) in
    let found = same_lines text byte P read a b x y (All-tail P line a holds) (All-tail P next b others) x_outside y_outside rest in
    let tail : a ≡ b = found.0 in
    (cc, found.1)
