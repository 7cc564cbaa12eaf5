-- How bytes are cut at the first byte of a kind, and texts into lines.
use Rattle.std.proofs.Common.{◌≡◌, ℕ, suc, ◌+◌, ◌<◌, Bool, true, false, cond, eqb, ltb, ◌&&◌, List, [], ◌∷◌, ◌++◌, length, Option, None, Some, refl, sym, ap, ◌∙◌, arith, inl, inr}
use Rattle.std.specs.Prelude.{MatchOption, ◌≢◌, unwrap_or}
use Rattle.std.specs.Borrow.{Bor}
use Rattle.std.specs.List.{position_or_len, before_first, after_first}
use Rattle.std.proofs.lemmas.Bool.{cases_Bool, cases_lt, and_right, cond-false, eqb-true, lt-ltb, le-ltb, true≢false}
use Rattle.plain_text.specs.Lines.{onto, is_at_end, text_lines, without_return}
use Rattle.plain_text.specs.Words.{has_byte, is_byte}

-- ---- the first byte that passes

pub cut_here : (p : ℕ → Bool) (b : ℕ) (bs : List ℕ) → p b ≡ true
    → (has_byte p (b ∷ bs) ≡ true) × (before_first p (b ∷ bs) ≡ []) × (after_first p (b ∷ bs) ≡ bs)
cut_here p b bs hit = (rw hit (lt-ltb 0 (suc (length bs)) (omega arith)), rw hit refl, rw hit refl)

ltb-suc : (m n : ℕ) → ltb (suc m) (suc n) ≡ ltb m n
ltb-suc m n =
    elim (cases_lt m n) [
      | inl lt ↦ lt-ltb (suc m) (suc n) (omega arith) ∙ sym (lt-ltb m n lt)
      | inr le ↦ le-ltb (suc m) (suc n) (omega arith) ∙ sym (le-ltb m n le)
    ]

pub cut_later : (p : ℕ → Bool) (b : ℕ) (bs : List ℕ) → p b ≡ false
    → (has_byte p (b ∷ bs) ≡ has_byte p bs) × (before_first p (b ∷ bs) ≡ b ∷ before_first p bs) × (after_first p (b ∷ bs) ≡ after_first p bs)
cut_later p b bs miss =
    let at = position_or_len p bs in
    let one : 1 + at ≡ suc at = omega arith in
    let two : 1 + at + 1 ≡ suc (at + 1) = omega arith in
    (rw (miss, one) (ltb-suc at (length bs)), rw (miss, one) refl, rw (miss, two) refl)

-- ---- a carriage return at the end of a line

pub without_return-push : (front : List ℕ) → without_return (front ++ 13 ∷ []) ≡ front
without_return-push [] = refl
without_return-push (b ∷ []) = refl
without_return-push (b ∷ c ∷ front) = ap (λ (line : List ℕ). b ∷ line) (without_return-push (c ∷ front))

pub without_return-none : (line : List ℕ) → ((front : List ℕ) → line ≡ front ++ 13 ∷ [] → ⊥) → without_return line ≡ line
without_return-none [] none = refl
without_return-none (b ∷ []) none =
    elim (cases_Bool (eqb b 13)) [
      | inl hit ↦ absurd (none [] (ap (λ n. n ∷ []) (eqb-true b 13 hit)))
      | inr miss ↦ rw miss refl
    ]
without_return-none (b ∷ c ∷ line) none =
    ap (λ (rest : List ℕ). b ∷ rest) (without_return-none (c ∷ line) (λ front e. none (b ∷ front) (ap (λ (rest : List ℕ). b ∷ rest) e)))

-- what is left of a line that was stripped where it could be
pub is_without_return : (line : List ℕ) (r : Option (Bor (List ℕ))) → MatchOption r ((front : List ℕ) → line ≢ front ++ 13 ∷ []) (λ x. line ≡ x.now ++ 13 ∷ [])
    → (d : Bor (List ℕ)) → d.now ≡ line → (unwrap_or r d).now ≡ without_return line
is_without_return line None h d e = e ∙ sym (without_return-none line h)
is_without_return line (Some x) h d e = sym (ap without_return h ∙ without_return-push x.now)

-- ---- the first line of a text

-- a byte that is no line feed, before the first line feed
before_feed : (b : ℕ) (bs : List ℕ) → has_byte (is_byte 10) bs ≡ true → text_lines bs ≡ without_return (before_first (is_byte 10) bs) ∷ text_lines (after_first (is_byte 10) bs)
    → cond (eqb b 13 && is_at_end bs) (text_lines bs) (onto b (text_lines bs)) ≡ without_return (b ∷ before_first (is_byte 10) bs) ∷ text_lines (after_first (is_byte 10) bs)
before_feed b [] there first = absurd cc
before_feed b (c ∷ cs) there first =
    elim (cases_Bool (eqb c 10)) [
      | inl hit ↦
          let here = cut_here (is_byte 10) c cs hit in
          rw (here.1, here.2, hit)
          (elim (cases_Bool (eqb b 13)) [ inl r ↦ rw r refl | inr r ↦ rw r refl ])
      | inr miss ↦
          let later = cut_later (is_byte 10) c cs miss in
          let rest : text_lines (c ∷ cs) ≡ without_return (c ∷ before_first (is_byte 10) cs) ∷ text_lines (after_first (is_byte 10) cs)
          = first ∙ rw (later.1, later.2) refl in
          rw (later.1, later.2)
          (cond-false (eqb b 13 && eqb c 10) _ _ (and_right (eqb b 13) (eqb c 10) miss) ∙ ap (onto b) rest)
    ]

pub text_lines-cut : (bytes : List ℕ) → has_byte (is_byte 10) bytes ≡ true → text_lines bytes ≡ without_return (before_first (is_byte 10) bytes) ∷ text_lines (after_first (is_byte 10) bytes)
text_lines-cut [] there = absurd cc
text_lines-cut (b ∷ bs) there =
    elim (cases_Bool (eqb b 10)) [
      | inl hit ↦ let here = cut_here (is_byte 10) b bs hit in rw (here.1, here.2, hit) refl
      | inr miss ↦
          let later = cut_later (is_byte 10) b bs miss in
          let more : has_byte (is_byte 10) bs ≡ true = sym later.0 ∙ there in
          rw (later.1, later.2, miss) (before_feed b bs more (text_lines-cut bs more))
    ]

-- a byte that is no line feed, where no line feed comes after it
last_byte : (b : ℕ) (bs : List ℕ) → has_byte (is_byte 10) bs ≡ false → (0 < length bs → text_lines bs ≡ bs ∷ [])
    → cond (eqb b 13 && is_at_end bs) (text_lines bs) (onto b (text_lines bs)) ≡ (b ∷ bs) ∷ []
last_byte b [] none rest = cond-false (eqb b 13 && false) _ _ (and_right (eqb b 13) false refl)
last_byte b (c ∷ cs) none rest =
    elim (cases_Bool (eqb c 10)) [
      | inl hit ↦ absurd (true≢false (sym (cut_here (is_byte 10) c cs hit).0 ∙ none))
      | inr miss ↦ cond-false (eqb b 13 && eqb c 10) _ _ (and_right (eqb b 13) (eqb c 10) miss) ∙ ap (onto b) (rest (omega arith))
    ]

pub text_lines-last : (bytes : List ℕ) → has_byte (is_byte 10) bytes ≡ false → 0 < length bytes → text_lines bytes ≡ bytes ∷ []
text_lines-last [] none some = absurd (omega arith)
text_lines-last (b ∷ bs) none some =
    elim (cases_Bool (eqb b 10)) [
      | inl hit ↦ absurd (true≢false (sym (cut_here (is_byte 10) b bs hit).0 ∙ none))
      | inr miss ↦ let none_later : has_byte (is_byte 10) bs ≡ false = sym (cut_later (is_byte 10) b bs miss).0 ∙ none in
          rw miss (last_byte b bs none_later (text_lines-last bs none_later))
    ]
