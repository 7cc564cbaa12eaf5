-- Words that are all 0, and the parts of a region.
use Rattle.std.proofs.Common.{◌≡◌, ◌+◌, ◌-◌, ◌<◌, ◌≤◌, ℕ, List, length, take, drop, replicate, get_or, refl, ap, sym, ◌∙◌, arith}
use Rattle.std.specs.List.{All}
use Rattle.std.proofs.lemmas.List.{ext_get_or, get_or-drop, get_or-replicate, get_or-take, length-drop, length-replicate, length-take-le, take_rest}
use Rattle.std.proofs.lemmas.List.Elements.{All-from_get_or, All-get_or, All-replicate, All-same}
use Rattle.cx_core.specs.Region.{LawfulResults, object_part, slot_reply, slot_start}

-- words that are all 0
pub blank_same : (words : List ℕ) (n : ℕ) → length words ≡ n → All (λ (w : ℕ). w ≡ 0) words → words ≡ replicate n 0
blank_same words n long blank =
    ext_get_or 0 words (replicate n 0) (long ∙ sym (length-replicate n 0)) (λ i below. (
    let inside : i < n = omega (arith, below, long) in
    All-get_or (λ (w : ℕ). w ≡ 0) words i 0 below blank ∙ sym (get_or-replicate n i 0 0 inside)))

pub same_blank : (words : List ℕ) (n : ℕ) → words ≡ replicate n 0 → All (λ (w : ℕ). w ≡ 0) words
same_blank words n same = All-same (λ (w : ℕ). w ≡ 0) words (replicate n 0) same (All-replicate (λ (w : ℕ). w ≡ 0) n 0 refl)

-- the words behind the head of a region are its object part
pub part_is : (words : List ℕ) → take (length words - 1168) (drop 1168 words) ≡ object_part words
unfolding object_part
part_is words = take_rest words 1168

pub part_at : (words : List ℕ) (i : ℕ) → get_or (object_part words) i 0 ≡ get_or words (1168 + i) 0
unfolding object_part
part_at words i = get_or-drop 1168 words i 0

-- the words behind a slot's number are its reply
pub reply_is : (words : List ℕ) (caller from : ℕ) → from ≡ slot_start caller + 1 → take 144 (drop from words) ≡ slot_reply caller words
unfolding slot_reply
reply_is words caller from at = ap (λ n. take 144 (drop n words)) at

-- the words behind the place are 0
pub zeros_there : (words : List ℕ) → 8 ≤ length words → LawfulResults words → All (λ (w : ℕ). w ≡ 0) (take 7 (drop 1 words))
zeros_there words long law =
    All-from_get_or (λ (w : ℕ). w ≡ 0) (take 7 (drop 1 words)) 0 (λ i below. (
    let count : length (take 7 (drop 1 words)) ≡ 7 = length-take-le 7 (drop 1 words) (omega (arith, length-drop 1 words, long)) in
    let inside : i < 7 = omega (arith, below, count) in
    get_or-take 7 (drop 1 words) i 0 inside ∙ get_or-drop 1 words i 0 ∙ law.zeros (1 + i) (omega arith) (omega (arith, inside))))
