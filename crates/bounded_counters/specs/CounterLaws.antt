-- The laws of the counters as an object.
use Rattle.std.specs.Prelude.{◌≡◌, ◌-◌, ◌*◌, ◌^◌, ◌<◌, ◌≤◌, ◌&&◌, ℕ, suc, true, false, cond, List, ◌∷◌, All, drop, length, replicate, slice_index, slice_set, IsTrue, refl}
use Rattle.std.proofs.Common.{ap, sym, ◌∙◌, arith, lit<}
use Rattle.std.proofs.lemmas.Bool.{and_parts, leb-true}
use Rattle.std.proofs.lemmas.List.{length-set, length-replicate}
use Rattle.std.proofs.lemmas.List.Elements.{All-set, All-cons, All-get_or, All-replicate, All-same, All-weaker}
use Rattle.cx_base.specs.Memory.{Words}
use Rattle.bounded_counters.specs.Counters.{IsCounters, counters_after, counters_step, fits, has_counter, is_reading, counters_read_only, counters_opening, counters_reply, sum_at}
use Rattle.bounded_counters.specs.Operations.{op_in, reply_words, words_with}
use Rattle.bounded_counters.specs.declared.operations.Op.{Op}
use Rattle.bounded_counters.specs.declared.operations.Op.TheVariants.{Add, Read, Other}
use Rattle.bounded_counters.specs.declared.operations.Reply.{Reply}
use Rattle.bounded_counters.specs.declared.operations.Reply.TheVariants.{Value, Full, Missing, NoOperation}

-- the opening image is one
pub opens : (lines bound : ℕ) → 1 ≤ lines → 0 < bound → IsCounters lines bound (counters_opening lines)
opens lines bound some zero = record {
  counters = replicate (8 * lines - 1) 0;
  is = refl;
  long = omega (arith, length-replicate {A = ℕ} (8 * lines - 1) 0);
  bounded = All-replicate (λ count. count < bound) (8 * lines - 1) 0 zero;
}

-- an operation leaves as many counters
kept_count : (bound : ℕ) (counters : List ℕ) (op : Op) → length (counters_after bound counters op) ≡ length counters
kept_count bound counters (Add counter amount) =
    elim (has_counter counters counter && fits bound counters counter amount)
    as (λ b. length (cond b (slice_set counters counter (sum_at counters counter amount)) counters) ≡ length counters)
    [ true ↦ length-set counters counter (sum_at counters counter amount) | false ↦ refl ]
kept_count bound counters _ = refl

-- and each below the bound
kept_bounded : (bound : ℕ) (counters : List ℕ) (op : Op) → All (λ count. count < bound) counters → All (λ count. count < bound) (counters_after bound counters op)
kept_bounded bound counters (Add counter amount) bounded =
    let sum = sum_at counters counter amount in
    (elim (has_counter counters counter && fits bound counters counter amount)
    as (λ b. (has_counter counters counter && fits bound counters counter amount) ≡ b → All (λ count. count < bound) (cond b (slice_set counters counter sum) counters)) [
      | true ↦ λ passes. All-set (λ count. count < bound) counters counter sum (leb-true (suc sum) bound (and_parts (has_counter counters counter) (fits bound counters counter amount) passes).1) bounded
      | false ↦ λ _. bounded
    ]) refl
kept_bounded bound counters _ bounded = bounded

-- a step of an image leaves an image
pub keeps : (lines bound : ℕ) (image op : List ℕ) → IsCounters lines bound image → IsCounters lines bound (counters_step bound image op).0
keeps lines bound image op i =
    let rest : drop 1 image ≡ i.counters = ap (drop 1) i.is in
    record {
      counters = counters_after bound (drop 1 image) (op_in op);
      is = refl;
      long = ap suc (kept_count bound (drop 1 image) (op_in op) ∙ ap length rest) ∙ ap length (sym i.is) ∙ i.long;
      bounded = kept_bounded bound (drop 1 image) (op_in op) (All-same (λ count. count < bound) (drop 1 image) i.counters rest i.bounded);
    }

-- an image has 8 words in each line, the first of which is the version
pub shape : (lines bound : ℕ) → bound < 2 ^ 64 → (image : List ℕ) → IsCounters lines bound image → Words (8 * lines) image × (slice_index image 0 ≡ 1)
shape lines bound small image i = (
  record {
    long = i.long;
    fit = All-same (λ w. w < 2 ^ 64) image (1 ∷ i.counters) i.is
        (All-cons (λ w. w < 2 ^ 64) 1 i.counters (lit< tt) (All-weaker (λ w. w < bound) (λ w. w < 2 ^ 64) (λ w h. omega arith) i.counters i.bounded));
  },
  ap (λ (ws : List ℕ). slice_index ws 0) i.is,
)

-- the words of a reply are 144 words
pub words_with_fit : (kind first second : ℕ) → kind < 2 ^ 64 → first < 2 ^ 64 → second < 2 ^ 64 → Words 144 (words_with kind first second)
unfolding words_with
words_with_fit kind first second k f s =
    let zeros : List ℕ = replicate 141 0 in
    let Small : ℕ → Type 0 = λ w. w < 2 ^ 64 in
    let rest : All Small zeros = All-replicate Small 141 0 (lit< tt) in
    record {
      long = ap (λ n. suc (suc (suc n))) (length-replicate {A = ℕ} 141 0);
      fit = All-cons Small kind (first ∷ second ∷ zeros) k (All-cons Small first (second ∷ zeros) f (All-cons Small second zeros s rest));
    }

-- a value that is told is below the bound
abbrev IsBounded : ℕ → Reply → Type 0
IsBounded bound (Value count) = count < bound
IsBounded bound _ = Unit {0}

told_bounded : (bound : ℕ) (counters : List ℕ) (op : Op) → All (λ count. count < bound) counters → IsBounded bound (counters_reply bound counters op)
told_bounded bound counters (Add counter amount) bounded =
    elim (has_counter counters counter) as (λ b. IsBounded bound (cond b (cond (fits bound counters counter amount) (Value (sum_at counters counter amount)) Full) Missing)) [
      | true ↦ (elim (fits bound counters counter amount)
          as (λ b. fits bound counters counter amount ≡ b → IsBounded bound (cond b (Value (sum_at counters counter amount)) Full))
          [ true ↦ λ passes. leb-true (suc (sum_at counters counter amount)) bound passes | false ↦ λ _. tt ]) refl
      | false ↦ tt
    ]
told_bounded bound counters (Read counter) bounded =
    (elim (has_counter counters counter) as (λ b. has_counter counters counter ≡ b → IsBounded bound (cond b (Value (slice_index counters counter)) Missing))
    [ true ↦ λ there. All-get_or (λ count. count < bound) counters counter 0 (leb-true (suc counter) (length counters) there) bounded | false ↦ λ _. tt ]) refl
told_bounded bound counters Other bounded = tt

reply_fits : (bound : ℕ) → bound < 2 ^ 64 → (reply : Reply) → IsBounded bound reply → Words 144 (reply_words reply)
reply_fits bound small (Value count) h = words_with_fit 1 count 0 (lit< tt) (omega arith) (lit< tt)
reply_fits bound small Full h = words_with_fit 2 0 0 (lit< tt) (lit< tt) (lit< tt)
reply_fits bound small Missing h = words_with_fit 3 0 0 (lit< tt) (lit< tt) (lit< tt)
reply_fits bound small NoOperation h = words_with_fit 0 0 0 (lit< tt) (lit< tt) (lit< tt)

-- a reply has 144 words
pub replies : (lines bound : ℕ) → bound < 2 ^ 64 → (image op : List ℕ) → IsCounters lines bound image → Words 144 (counters_step bound image op).1
replies lines bound small image op i =
    reply_fits bound small (counters_reply bound (drop 1 image) (op_in op))
    (told_bounded bound (drop 1 image) (op_in op) (All-same (λ count. count < bound) (drop 1 image) i.counters (ap (drop 1) i.is) i.bounded))

-- an operation that only reads leaves the counters
left_by_reading : (bound : ℕ) (counters : List ℕ) (op : Op) → IsTrue (is_reading op) → counters_after bound counters op ≡ counters
left_by_reading bound counters (Add counter amount) reads = cc
left_by_reading bound counters _ reads = refl

-- and the image
pub leaves : (lines bound : ℕ) (image op : List ℕ) → IsCounters lines bound image → IsTrue (counters_read_only op) → (counters_step bound image op).0 ≡ image
leaves lines bound image op i reads =
    ap (λ (counters : List ℕ). 1 ∷ counters) (left_by_reading bound (drop 1 image) (op_in op) reads ∙ ap (drop 1) i.is) ∙ sym i.is
