-- The lines of a list of addresses: of eight at once, of a list piece by piece, and as a relation.
use Rattle.std.proofs.Common.{◌≡◌, ℕ, ◌+◌, ◌-◌, ◌*◌, ◌/◌, ◌^◌, ◌<◌, ◌↔◌, ◌||◌, Bool, true, false, IsTrue, eqb, List, [], ◌∷◌, length, map, take, drop, length-drop, replicate, refl, sym, ap, ◌∙◌, arith, eq-eqb, eqb-true}
use Rattle.std.specs.List.{All}
use Rattle.std.proofs.lemmas.List.{take-append-drop, take_all}
use Rattle.std.proofs.lemmas.List.Elements.{All-drop, All-map, All-take}
use Rattle.std.proofs.lemmas.List.Folds.{Any-from_list_any, list_any-append, list_any-from_Any}
use Rattle.std.proofs.lemmas.Simd.{zip2_splat}
use Rattle.std.proofs.Math.Seq.{take-add}
use lib.Lanes.{chunk, zip2}
use Rattle.line_lanes.specs.Lines.{TouchesLine, is_line_of, is_touched}

-- the lines of a vector of addresses
abbrev pub lines_of : List ℕ → List ℕ
lines_of addresses = zip2 (λ a b. a / 2 ^ b) addresses (replicate 8 3)

lines_are : (addresses : List ℕ) → length addresses ≡ 8 → lines_of addresses ≡ map (λ a. a / 8) addresses
lines_are addresses long = zip2_splat (λ a b. a / 2 ^ b) addresses 8 3 long

pub lines_within : (addresses : List ℕ) (n : ℕ) → length addresses ≡ 8 → All (λ a. a < 8 * n) addresses → All (λ l. l < n) (lines_of addresses)
lines_within addresses n long within =
    rw (lines_are addresses long) (All-map (λ l. l < n) (λ a. a / 8) addresses (λ k d inside. let w = within k d inside in omega arith))

or_or : (a b c : Bool) → ((a || b) || c) ≡ (a || (b || c))
or_or true b c = refl
or_or false b c = refl

any_line : (addresses : List ℕ) (line : ℕ) → is_line_of (map (λ a. a / 8) addresses) line ≡ is_touched addresses line
any_line [] line = refl
any_line (a ∷ rest) line = ap (λ b. eqb (a / 8) line || b) (any_line rest line)

pub lines_touched : (addresses : List ℕ) (line : ℕ) → length addresses ≡ 8 → is_line_of (lines_of addresses) line ≡ is_touched addresses line
lines_touched addresses line long = ap (λ ls. is_line_of ls line) (lines_are addresses long) ∙ any_line addresses line

pub eight_within : (addresses : List ℕ) (i n : ℕ) → All (λ a. a < 8 * n) addresses → All (λ a. a < 8 * n) (chunk i 8 addresses)
eight_within addresses i n within = All-take (λ a. a < 8 * n) 8 (drop i addresses) (All-drop (λ a. a < 8 * n) i addresses within)

-- a mark that the next eight addresses were added to
pub marked_more : (addresses : List ℕ) (eight line : ℕ) (old now new : Bool) → now ≡ (old || is_touched (take (8 * eight) addresses) line)
    → new ≡ (now || is_touched (chunk (8 * eight) 8 addresses) line) → new ≡ (old || is_touched (take (8 * (eight + 1)) addresses) line)
marked_more addresses eight line old now new was is =
    let next : 8 * (eight + 1) ≡ 8 * eight + 8 = omega arith in
    let more : is_touched (take (8 * (eight + 1)) addresses) line ≡ (is_touched (take (8 * eight) addresses) line || is_touched (chunk (8 * eight) 8 addresses) line) =
    ap (λ n. is_touched (take n addresses) line) next ∙ ap (λ l. is_touched l line) (take-add (8 * eight) 8 addresses)
    ∙ list_any-append (λ a. eqb (a / 8) line) (take (8 * eight) addresses) (chunk (8 * eight) 8 addresses) in
    is ∙ ap (λ b. b || is_touched (chunk (8 * eight) 8 addresses) line) was ∙ or_or old _ _ ∙ ap (λ b. old || b) (sym more)

-- a mark that the addresses left over were added to
pub marked_whole : (addresses : List ℕ) (n m line : ℕ) (old now new : Bool) → n ≡ m → now ≡ (old || is_touched (take n addresses) line)
    → new ≡ (now || is_touched (take (length addresses - m) (drop m addresses)) line) → new ≡ (old || is_touched addresses line)
marked_whole addresses n m line old now new same was is =
    let left : take (length addresses - m) (drop m addresses) ≡ drop m addresses = take_all (length addresses - m) (drop m addresses) (omega (arith, length-drop m addresses)) in
    let parts : is_touched addresses line ≡ (is_touched (take m addresses) line || is_touched (drop m addresses) line) =
    ap (λ l. is_touched l line) (sym (take-append-drop m addresses)) ∙ list_any-append (λ a. eqb (a / 8) line) (take m addresses) (drop m addresses) in
    let first : now ≡ (old || is_touched (take m addresses) line) = was ∙ ap (λ k. old || is_touched (take k addresses) line) same in
    is ∙ ap (λ l. now || is_touched l line) left ∙ ap (λ b. b || is_touched (drop m addresses) line) first ∙ or_or old _ _ ∙ ap (λ b. old || b) (sym parts)

pub touched_is : (addresses : List ℕ) (line : ℕ) → IsTrue (is_touched addresses line) ↔ TouchesLine addresses line
touched_is addresses line = (
  λ t. let found = Any-from_list_any (λ a. eqb (a / 8) line) addresses t in (found.0, found.1, found.2, found.3, eqb-true _ _ found.4),
  λ found. list_any-from_Any (λ a. eqb (a / 8) line) addresses (found.0, found.1, found.2, found.3, eq-eqb _ _ found.4),
)

-- marks that were all taken away before the lines were added
pub marked_alone : (addresses : List ℕ) (line : ℕ) (old new : Bool) → old ≡ false → new ≡ (old || is_touched addresses line) → IsTrue new ↔ TouchesLine addresses line
marked_alone addresses line old new none is =
    let all : new ≡ is_touched addresses line = is ∙ ap (λ b. b || is_touched addresses line) none in
    let t = touched_is addresses line in
    (λ h. t.0 (sym all ∙ h), λ h. all ∙ t.1 h)
