-- The laws of the object Tally.
use Rattle.std.specs.Prelude.{◌≡◌, ◌+◌, ◌%◌, ◌^◌, ◌<◌, ℕ, Bool, true, false, cond, List, slice_index, slice_set, IsTrue, refl}
use Rattle.std.proofs.Common.{ap, ◌∙◌, arith, lit<}
use Rattle.std.proofs.lemmas.List.{get_or-set_other}
use Rattle.cx_base.specs.Memory.{Words}
use Rattle.cx_base.specs.WordLaws.{Words-set, Words-at, Words-then_zeros}
use Rattle.cx_base.specs.Tally.{IsTally, tally_opening, tally_reads, tally_reply, tally_sum, tally_step}

-- what holds of both answers of a choice holds of the choice
by_case : {A : Type 0} (P : A → Type 0) (b : Bool) (x y : A) → P x → P y → P (cond b x y)
by_case P true x y p q = p
by_case P false x y p q = q

-- the opening image is a lawful one
pub tally_opens : {O : Type 0} → O → IsTally tally_opening
unfolding tally_opening
tally_opens o = record { words = Words-then_zeros 7 511 (lit< tt); version = refl }

-- a sum that wraps at 2^64 is below it
sum_small : (a b : ℕ) → (a + b) % 2 ^ 64 < 2 ^ 64
sum_small a b = omega arith

-- a step leads from a lawful image to a lawful one
pub tally_keeps : {O : Type 0} → O → (image op : List ℕ) → IsTally image → Words 144 op → IsTally (tally_step image op).0
tally_keeps o image op lawful w =
    let sum = tally_sum image op in
    by_case (λ (p : List ℕ × List ℕ). IsTally p.0) (tally_reads op) (image, tally_reply (slice_index image 1)) (slice_set image 1 sum, tally_reply sum)
    lawful
    (record { words = Words-set 512 image 1 sum (sum_small _ _) lawful.words; version = get_or-set_other image 1 0 sum 0 (λ e. omega (arith, e)) ∙ lawful.version })

-- a lawful image is 512 words, of which the first is the version 7
pub tally_shape : {O : Type 0} → O → (image : List ℕ) → IsTally image → Words 512 image × (slice_index image 0 ≡ 7)
tally_shape o image lawful = (lawful.words, lawful.version)

-- a reply of a number is 144 words
reply_words : (n : ℕ) → n < 2 ^ 64 → Words 144 (tally_reply n)
unfolding tally_reply
reply_words n small = Words-then_zeros n 143 small

-- what a step replies is 144 words
pub tally_replies : {O : Type 0} → O → (image op : List ℕ) → IsTally image → Words 144 op → Words 144 (tally_step image op).1
tally_replies o image op lawful w =
    let sum = tally_sum image op in
    by_case (λ (p : List ℕ × List ℕ). Words 144 p.1) (tally_reads op) (image, tally_reply (slice_index image 1)) (slice_set image 1 sum, tally_reply sum)
    (reply_words _ (Words-at 512 image 1 lawful.words))
    (reply_words _ (sum_small _ _))

-- a read leaves the image as it is
pub tally_leaves : {O : Type 0} → O → (image op : List ℕ) → IsTally image → Words 144 op → IsTrue (tally_reads op) → (tally_step image op).0 ≡ image
tally_leaves o image op lawful w reads =
    ap (λ (b : Bool). (cond {A = List ℕ × List ℕ} b (image, tally_reply (slice_index image 1)) (slice_set image 1 (tally_sum image op), tally_reply (tally_sum image op))).0) reads
