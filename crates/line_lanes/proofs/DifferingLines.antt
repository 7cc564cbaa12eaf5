-- Two vectors differ in some lane exactly where the exclusive ors of their lanes, or'ed into one word, are not 0.
use Rattle.std.proofs.Common.{◌≡◌, ◌≢◌, ℕ, zero, suc, ◌+◌, ◌-◌, ◌*◌, ◌<◌, ◌≤◌, ◌↔◌, not, IsTrue, eqb, List, [], ◌∷◌, length, get_or, bit_or, bit_xor, refl, sym, ap, ◌∙◌, inl, inr, arith}
use Rattle.std.specs.Int.Bits.{or_add_and, xor_add_and, xor_self}
use Rattle.std.proofs.lemmas.Bool.{cases_eq, cases_lt, eqb-false, ne_eqb, not-true}
use Rattle.std.proofs.lemmas.Nat.{and_le_l, and_le_r}
use Rattle.std.proofs.lemmas.List.{get_or_past}
use Rattle.std.proofs.lemmas.Simd.{get_or-chunk, length-chunk}
use lib.Lanes.{chunk, fold_l, zip2}
use Rattle.line_lanes.specs.Lines.{AgreeFrom, DifferSomewhere, DiffersInLine}

-- the differences of two vectors, gathered over those that were gathered before
abbrev pub gathered : ℕ → List ℕ → List ℕ → ℕ
gathered a xs ys = fold_l bit_or a (zip2 bit_xor xs ys)

or_zero : (a b : ℕ) → bit_or a b ≡ 0 → (a ≡ 0) × (b ≡ 0)
or_zero a b e = (omega (arith, or_add_and a b, and_le_l a b, and_le_r a b), omega (arith, or_add_and a b, and_le_l a b, and_le_r a b))

xor_zero : (a b : ℕ) → bit_xor a b ≡ 0 → a ≡ b
xor_zero a b e = omega (arith, xor_add_and a b, and_le_l a b, and_le_r a b)

-- where nothing is gathered, no lane differs
same_lanes : (a : ℕ) (xs ys : List ℕ) → length xs ≡ length ys → gathered a xs ys ≡ 0 → (a ≡ 0) × ((i : ℕ) → get_or xs i 0 ≡ get_or ys i 0)
same_lanes a [] [] long e = (e, λ i. refl)
same_lanes a [] (y ∷ ys) long e = absurd (omega arith)
same_lanes a (x ∷ xs) [] long e = absurd (omega arith)
same_lanes a (x ∷ xs) (y ∷ ys) long e =
    let rest = same_lanes (bit_or a (bit_xor x y)) xs ys (omega arith) e in
    let here = or_zero a (bit_xor x y) rest.0 in
    (here.0, elim [ zero ↦ xor_zero x y here.1 | suc i ↦ rest.1 i ])

-- where something is gathered, some lane differs
some_lane : (xs ys : List ℕ) → length xs ≡ length ys → gathered 0 xs ys ≢ 0 → DifferSomewhere xs ys
some_lane [] [] long e = absurd (e refl)
some_lane [] (y ∷ ys) long e = absurd (omega arith)
some_lane (x ∷ xs) [] long e = absurd (omega arith)
some_lane (x ∷ xs) (y ∷ ys) long e =
    elim (cases_eq x y) [
      | inl same ↦
          let none : bit_xor x y ≡ 0 = rw same (xor_self y) in
          let rest = some_lane xs ys (omega arith) (λ z. e (rw none z)) in (suc rest.0, rest.1)
      | inr other ↦ (0, other)
    ]

pub gathered_differ : (xs ys : List ℕ) → length xs ≡ length ys → IsTrue (not (eqb (gathered 0 xs ys) 0)) ↔ DifferSomewhere xs ys
gathered_differ xs ys long = (
  λ t. some_lane xs ys long (eqb-false _ _ (not-true _ t)),
  λ d. elim (cases_eq (gathered 0 xs ys) 0) [ inl none ↦ absurd (d.1 ((same_lanes 0 xs ys long none).1 d.0)) | inr some ↦ ap not (ne_eqb _ _ some) ],
)

-- a lane among the first n words of a list
lane_of : (n : ℕ) (xs : List ℕ) (i lane at : ℕ) → i + lane ≡ at → lane < n → get_or xs at 0 ≡ get_or (chunk i n xs) lane 0
lane_of n xs i lane at back within = ap (λ k. get_or xs k 0) (sym back) ∙ sym (get_or-chunk i n xs lane 0 within)

-- where no lane of sixteen words differs, the lists agree on
pub sixteen_agree : (a b : List ℕ) (from i : ℕ) → (DifferSomewhere (chunk i 16 a) (chunk i 16 b) → ⊥) → AgreeFrom a b from i → AgreeFrom a b from (i + 16)
sixteen_agree a b from i none same at least most = elim (cases_lt at i) [
  | inl before ↦ same at least before
  | inr past ↦ elim (cases_eq (get_or a at 0) (get_or b at 0)) [
    | inl e ↦ e
    | inr other ↦ (
        let back : i + (at - i) ≡ at = omega arith in
        let within : at - i < 16 = omega arith in
        absurd (none (at - i, λ e. other (lane_of 16 a i (at - i) at back within ∙ e ∙ sym (lane_of 16 b i (at - i) at back within)))))
  ]
]

-- the vectors of a line differ where the lists do
pub line_differs : (a b : List ℕ) (line : ℕ) → 8 * line + 8 ≤ length a → 8 * line + 8 ≤ length b
    → DifferSomewhere (chunk (8 * line) 8 a) (chunk (8 * line) 8 b) ↔ DiffersInLine a b line
line_differs a b line in_a in_b = (
  λ d. elim (cases_lt d.0 8) [
    | inl within ↦ (8 * line + d.0, omega arith, λ same. d.1 (get_or-chunk (8 * line) 8 a d.0 0 within ∙ same ∙ sym (get_or-chunk (8 * line) 8 b d.0 0 within)))
    | inr past ↦ absurd (d.1 (nothing a d.0 in_a past ∙ sym (nothing b d.0 in_b past)))
  ],
  λ d.
      let lane : ℕ = d.0 - 8 * line in
      let within : lane < 8 = omega (arith, d.1) in
      let back : 8 * line + lane ≡ d.0 = omega (arith, d.1) in
      (lane, λ same. d.2 (lane_of 8 a (8 * line) lane d.0 back within ∙ same ∙ sym (lane_of 8 b (8 * line) lane d.0 back within))),
)
  where
    nothing : (xs : List ℕ) (lane : ℕ) → 8 * line + 8 ≤ length xs → 8 ≤ lane → get_or (chunk (8 * line) 8 xs) lane 0 ≡ 0
    nothing xs lane room past = get_or_past (chunk (8 * line) 8 xs) lane 0 (omega (arith, length-chunk (8 * line) 8 xs room))
