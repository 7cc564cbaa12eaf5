-- Which words have parts, by tests of the words.
use Rattle.std.proofs.Common.{◌≡◌, ℕ, ◌+◌, ◌-◌, ◌^◌, ◌<◌, ◌≤◌, Bool, true, false, List, length, get_or, take, drop, min, All, refl, sym, ap, ◌∙◌, inl, inr, subst, arith}
use Rattle.std.specs.Bool.{Decides, MatchBool}
use Rattle.std.proofs.lemmas.Bool.{cases_lt, false≢true}
use Rattle.std.proofs.lemmas.Grind.{same_number_lists}
use Rattle.std.proofs.lemmas.List.{get_or-drop, get_or-take, get_or_default, get_or_past, length-take, length-drop}
use Rattle.cx_base.specs.Packing.{packed, packed_at, unpacked}
use Rattle.doc_model.specs.Words.{words_in, words_with}
use Rattle.doc_model.specs.WordParts.{HaveParts, HaveNoParts, IsPadded, IsShortText, key_of, document_in}
use Rattle.doc_model.proofs.PackedTexts.{packed_again, packed_padded, length_unpacked}
use Rattle.doc_model.proofs.PartPlaces.{key_in, document_in as document_stands, key_length_in, document_length_in, key_word_in, document_word_in, length-words}
use Rattle.doc_model.proofs.WordTexts.{below}

-- the words of no part
module _ (m n kind : ℕ) (key document : List ℕ) (number : ℕ) where
  free_in : (k : ℕ) → k < 4 → get_or (words_in m n kind key document number) (4 + k) 0 ≡ 0
  unfolding words_in
  free_in k within = below (λ i. get_or (words_in m n kind key document number) (4 + i) 0 ≡ 0) 4 ((((tt, refl), refl), refl), refl) k within

  head_in : get_or (words_in m n kind key document number) 0 0 ≡ kind
  unfolding words_in
  head_in = refl

  last_in : get_or (words_in m n kind key document number) 3 0 ≡ number
  unfolding words_in
  last_in = refl

part_word : (words : List ℕ) (from n k : ℕ) → k < n → get_or (take n (drop from words)) k 0 ≡ get_or words (from + k) 0
part_word words from n k within = get_or-take n (drop from words) k 0 within ∙ get_or-drop from words k 0

part_fits : (words : List ℕ) (from n : ℕ) → ((k : ℕ) → get_or words k 0 < 2 ^ 64) → (k : ℕ) → get_or (take n (drop from words)) k 0 < 2 ^ 64
part_fits words from n fits k = elim (cases_lt k n) [
  | inl within ↦ subst (λ w. w < 2 ^ 64) (sym (part_word words from n k within)) (fits (from + k))
  | inr past ↦ (let none = get_or_past (take n (drop from words)) k 0 (omega (arith, length-take n (drop from words))) in omega arith)
]

-- what the tests say
pub record PassTests (words : List ℕ) : Type 0 where
  pub key_short : get_or words 1 0 ≤ 64
  pub document_short : get_or words 2 0 ≤ 1024
  pub free : All (λ w. w ≡ 0) (take 4 (drop 4 words))
  pub key : IsPadded (get_or words 1 0) (take 8 (drop 8 words))
  pub document : IsPadded (get_or words 2 0) (take 128 (drop 16 words))

module _ (words : List ℕ) (long : length words ≡ 144) (fits : (k : ℕ) → get_or words k 0 < 2 ^ 64) (pass : PassTests words) where
  abbrev key_len : ℕ
  key_len = get_or words 1 0

  abbrev document_len : ℕ
  document_len = get_or words 2 0

  abbrev had : List ℕ
  had = words_with (get_or words 0 0) (key_of words) (document_in words) (get_or words 3 0)

  key_whole : min (get_or words 1 0) 64 ≡ get_or words 1 0
  key_whole = (let short = pass.key_short in omega arith)

  document_whole : min (get_or words 2 0) 1024 ≡ get_or words 2 0
  document_whole = (let short = pass.document_short in omega arith)

  free_word : (k : ℕ) → k < 4 → get_or words (4 + k) 0 ≡ 0
  free_word k within = sym (part_word words 4 4 k within) ∙ pass.free k 0 (omega (arith, length-take 4 (drop 4 words), length-drop 4 words))

  head_word : (k : ℕ) → k < 8 → get_or words k 0 ≡ get_or had k 0
  head_word k within =
      let free : (i : ℕ) → i < 4 → get_or words (4 + i) 0 ≡ get_or had (4 + i) 0 = λ i few. free_word i few ∙ sym (free_in 8 128 (get_or words 0 0) (key_of words) (document_in words) (get_or words 3 0) i few) in
      below (λ i. get_or words i 0 ≡ get_or had i 0) 8 (
        (
          (
            (
              (
                (
                  (
                    (
                      tt,
                      sym (head_in 8 128 (get_or words 0 0) (key_of words) (document_in words) (get_or words 3 0)),
                    ),
                    sym key_whole ∙ sym (length_unpacked (min (get_or words 1 0) 64) (take 8 (drop 8 words))) ∙ sym (key_length_in 8 128 (get_or words 0 0) (key_of words) (document_in words) (get_or words 3 0)),
                  ),
                  sym document_whole ∙ sym (length_unpacked (min (get_or words 2 0) 1024) (take 128 (drop 16 words))) ∙ sym (document_length_in 8 128 (get_or words 0 0) (key_of words) (document_in words) (get_or words 3 0)),
                ),
                sym (last_in 8 128 (get_or words 0 0) (key_of words) (document_in words) (get_or words 3 0)),
              ),
              free 0 (omega arith),
            ),
            free 1 (omega arith),
          ),
          free 2 (omega arith),
        ),
        free 3 (omega arith),
      ) k within

  key_word : (k : ℕ) → k < 8 → get_or words (8 + k) 0 ≡ get_or had (8 + k) 0
  key_word k within =
      sym (part_word words 8 8 k within)
      ∙ sym (packed_again (take 8 (drop 8 words)) (get_or words 1 0) (part_fits words 8 8 fits) pass.key k)
      ∙ ap (λ n. packed_at (unpacked n (take 8 (drop 8 words))) k) (sym key_whole)
      ∙ sym (key_word_in 8 128 (get_or words 0 0) (key_of words) (document_in words) (get_or words 3 0) k within)

  document_word : (k : ℕ) → k < 128 → get_or words (16 + k) 0 ≡ get_or had (16 + k) 0
  document_word k within =
      sym (part_word words 16 128 k within)
      ∙ sym (packed_again (take 128 (drop 16 words)) (get_or words 2 0) (part_fits words 16 128 fits) pass.document k)
      ∙ ap (λ n. packed_at (unpacked n (take 128 (drop 16 words))) k) (sym document_whole)
      ∙ sym (document_word_in 8 128 (get_or words 0 0) (key_of words) (document_in words) (get_or words 3 0) k within)

  each_word : (k : ℕ) → k < 144 → get_or words k 0 ≡ get_or had k 0
  each_word k within = elim (cases_lt k 8) [
    | inl first ↦ head_word k first
    | inr behind ↦ elim (cases_lt k 16) [
      | inl second ↦ (
          let place : 8 + (k - 8) ≡ k = omega arith in
          subst (λ i. get_or words i 0 ≡ get_or had i 0) place (key_word (k - 8) (omega arith)))
      | inr third ↦ (
          let place : 16 + (k - 16) ≡ k = omega arith in
          subst (λ i. get_or words i 0 ≡ get_or had i 0) place (document_word (k - 16) (omega arith)))
    ]
  ]

  pub parts_had : HaveParts words
  parts_had =
      same_number_lists words had (long ∙ sym (length-words 8 128 (get_or words 0 0) (key_of words) (document_in words) (get_or words 3 0))) (λ k within. each_word k (omega (arith, long)))

-- words that some parts have pass
pub parts_pass : (words : List ℕ) (kind : ℕ) (key document : List ℕ) (number : ℕ) → IsShortText 64 key → IsShortText 1024 document → words ≡ words_with kind key document number → PassTests words
parts_pass words kind key document number key_is document_is is =
    let had = words_with kind key document number in
    let key_len : get_or words 1 0 ≡ length key = ap (λ w. get_or w 1 0) is ∙ key_length_in 8 128 kind key document number in
    let document_len : get_or words 2 0 ≡ length document = ap (λ w. get_or w 2 0) is ∙ document_length_in 8 128 kind key document number in
    let key_short = key_is.short in
    let document_short = document_is.short in
    record {
      key_short = omega arith;
      document_short = omega arith;
      free = λ k d within. (
          let few : k < 4 = omega (arith, length-take 4 (drop 4 words)) in
          get_or_default (take 4 (drop 4 words)) k d 0 within ∙ part_word words 4 4 k few ∙ ap (λ w. get_or w (4 + k) 0) is ∙ free_in 8 128 kind key document number k few);
      key = subst (λ w. IsPadded (get_or w 1 0) (take 8 (drop 8 w))) (sym is)
          (subst (λ p. IsPadded (get_or had 1 0) p) (sym (key_in 8 128 kind key document number))
          (subst (λ n. IsPadded n (packed 8 key)) (sym (key_length_in 8 128 kind key document number)) (packed_padded 8 64 key key_is)));
      document = subst (λ w. IsPadded (get_or w 2 0) (take 128 (drop 16 w))) (sym is)
          (subst (λ p. IsPadded (get_or had 2 0) p) (sym (document_stands 8 128 kind key document number))
          (subst (λ n. IsPadded n (packed 128 document)) (sym (document_length_in 8 128 kind key document number)) (packed_padded 128 1024 document document_is)));
    }

pub no_parts : (words : List ℕ) → (PassTests words → ⊥) → HaveNoParts words
no_parts words fails kind number key document key_is document_is is = fails (parts_pass words kind key document number key_is document_is is)

-- where all other tests pass, the test of the document decides whether words have parts
pub parts_decided : (words : List ℕ) → length words ≡ 144 → ((k : ℕ) → get_or words k 0 < 2 ^ 64) → get_or words 1 0 ≤ 64 → get_or words 2 0 ≤ 1024 → All (λ w. w ≡ 0) (take 4 (drop 4 words)) → IsPadded (get_or words 1 0) (take 8 (drop 8 words)) →
    (answer : Bool) → Decides answer (IsPadded (get_or words 2 0) (take 128 (drop 16 words))) → MatchBool answer (HaveParts words) (HaveNoParts words)
parts_decided words long fits key_short document_short free key true decides =
    parts_had words long fits (record { key_short = key_short; document_short = document_short; free = free; key = key; document = decides.0 refl })
parts_decided words long fits key_short document_short free key false decides = no_parts words (λ p. false≢true (decides.1 p.document))
