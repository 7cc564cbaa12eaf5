-- What the words of a load, and of a pool, write.
use Rattle.std.proofs.Common.{◌≡◌, ◌∙◌, sym, ℕ, ◌<◌, ◌^◌, List, [], ◌∷◌, codes}
use Rattle.std.specs.Fmt.{decimal}
use Rattle.std.proofs.lemmas.Fmt.{decimal_injective}
use Rattle.cx_program.specs.Words.{IsLoadOf, IsPoolOf}

-- the words of a load write its numbers
pub written : (from clients ops : ℕ) (first second third : List ℕ) → IsLoadOf from clients ops (codes "load" ∷ first ∷ second ∷ third ∷ [])
    → (first ≡ decimal from) × (second ≡ decimal clients) × (third ≡ decimal ops)
written from clients ops first second third is = (let are = is.are in (cc, cc, cc))

-- the words of a pool write its number
pub written_seats : (seats : ℕ) (word : List ℕ) → IsPoolOf seats (codes "pool" ∷ word ∷ []) → word ≡ decimal seats
written_seats seats word is = (let are = is.are in cc)

-- a word writes one number
pub same_number : (word : List ℕ) (m n : ℕ) → m < 2 ^ 64 → n < 2 ^ 64 → word ≡ decimal m → word ≡ decimal n → m ≡ n
same_number word m n m_fits n_fits one other = decimal_injective m n m_fits n_fits (sym one ∙ other)
