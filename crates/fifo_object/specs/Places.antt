-- What stands at the places of an image after a push and after a pop.
use Rattle.std.specs.Prelude.{◌≡◌, ◌≢◌, ◌+◌, ◌-◌, ◌*◌, ◌<◌, ◌≤◌, ℕ, List, length, slice_index, slice_set}
use Rattle.std.proofs.Common.{sym, ◌∙◌, arith, inl, inr, zero-add}
use Rattle.std.proofs.Math.Nat.{mod-lt}
use Rattle.std.proofs.lemmas.Bool.{cases_lt}
use Rattle.std.proofs.lemmas.List.{get_or-set_other, get_or-set_same, length-set}
use Rattle.std.proofs.lemmas.List.FromFn.{fill_by_all, get_or-map-range_with_len, length-map-range_with_len}
use Rattle.cx_base.specs.Memory.{Words, overwritten}
use Rattle.cx_base.proofs.WordLemmas.{length-overwritten, overwritten_before, overwritten_behind, overwritten_within}
use Rattle.fifo_object.specs.Fifo.{count_in, queue_head, item_at, item_place, popped, pushed}

-- the word of an item
pub word_at : (image : List ℕ) (p k : ℕ) → k < 8 → slice_index (item_at image p) k ≡ slice_index image (8 * (p + 1) + k)
word_at image p k below = get_or-map-range_with_len (λ k. slice_index image (8 * (p + 1) + k)) 0 8 k k 0 below (zero-add k)

-- eight words that stand at a place are its item
pub item_is : (image item : List ℕ) (p : ℕ) → length item ≡ 8 → ((k : ℕ) → k < 8 → slice_index image (8 * (p + 1) + k) ≡ slice_index item k) → item ≡ item_at image p
item_is image item p long same = fill_by_all (λ k. slice_index image (8 * (p + 1) + k)) item 8 0 long (λ k below. sym (same k below))

pub item_same : (image other : List ℕ) (p : ℕ) → ((k : ℕ) → k < 8 → slice_index image (8 * (p + 1) + k) ≡ slice_index other (8 * (p + 1) + k)) → item_at image p ≡ item_at other p
item_same image other p same =
    item_is other (item_at image p) p (length-map-range_with_len (λ k. slice_index image (8 * (p + 1) + k)) 0 8) (λ k below. sym (word_at image p k below ∙ same k below))

-- a word stored in the header leaves what stands at each place
pub header_apart : (image : List ℕ) (j v p : ℕ) → j < 8 → item_at (slice_set image j v) p ≡ item_at image p
header_apart image j v p below = item_same (slice_set image j v) image p (λ k within. get_or-set_other image j (8 * (p + 1) + k) v 0 (λ e. omega (arith, e, below)))

-- an item put at a place, seen there and elsewhere
put_here : (image item : List ℕ) (p : ℕ) → length item ≡ 8 → 8 * (p + 1) + 8 ≤ length image → item_at (overwritten (8 * (p + 1)) item image) p ≡ item
put_here image item p long room =
    sym (item_is (overwritten (8 * (p + 1)) item image) item p long (λ k below. overwritten_within item image (8 * (p + 1)) k (omega (arith, long, below)) (omega (arith, room, below))))

put_apart : (image item : List ℕ) (p q : ℕ) → length item ≡ 8 → q ≢ p → item_at (overwritten (8 * (p + 1)) item image) q ≡ item_at image q
put_apart image item p q long apart = item_same (overwritten (8 * (p + 1)) item image) image q (λ k below. elim (cases_lt q p) [
  | inl less ↦ overwritten_before item image (8 * (p + 1)) (8 * (q + 1) + k) (omega (arith, less, below))
  | inr more ↦ overwritten_behind item image (8 * (p + 1)) (8 * (q + 1) + k) (let past : p < q = other_side more in omega (arith, past, long))
])
  where
    other_side : p ≤ q → p < q
    other_side more = elim (cases_lt p q) [
      | inl less ↦ less
      | inr back ↦ absurd (apart (omega (arith, more, back)))
    ]

module _ (lines : ℕ) (image item : List ℕ) (w : Words (8 * lines) image) (some : 2 ≤ lines) (long : length item ≡ 8) where
  -- where a push puts its item
  abbrev behind_last : ℕ
  behind_last = item_place lines image (count_in image)

  place_below : behind_last < lines - 1
  place_below = mod-lt (queue_head image + count_in image) (omega (arith, some))

  room : 8 * (behind_last + 1) + 8 ≤ length image
  room = omega (arith, place_below, w.long)

  abbrev with_item : List ℕ
  with_item = overwritten (8 * (behind_last + 1)) item image

  -- a push leaves each word of the header but the count
  pub pushed_header : (j : ℕ) → j < 8 → j ≢ 2 → slice_index (pushed lines item image) j ≡ slice_index image j
  unfolding pushed
  pushed_header j below other =
      get_or-set_other with_item 2 j (count_in image + 1) 0 other ∙ overwritten_before item image (8 * (behind_last + 1)) j (omega (arith, below))

  pub pushed_count : count_in (pushed lines item image) ≡ count_in image + 1
  unfolding pushed
  pushed_count = get_or-set_same with_item 2 (count_in image + 1) 0 (omega (arith, length-overwritten item image (8 * (behind_last + 1)), w.long, some))

  pub pushed_here : item_at (pushed lines item image) behind_last ≡ item
  unfolding pushed
  pushed_here = header_apart with_item 2 (count_in image + 1) behind_last (omega arith) ∙ put_here image item behind_last long room

  pub pushed_apart : (q : ℕ) → q ≢ behind_last → item_at (pushed lines item image) q ≡ item_at image q
  unfolding pushed
  pushed_apart q other = header_apart with_item 2 (count_in image + 1) q (omega arith) ∙ put_apart image item behind_last q long other

module _ (lines : ℕ) (image : List ℕ) (w : Words (8 * lines) image) (some : 2 ≤ lines) where
  abbrev with_head : List ℕ
  with_head = slice_set image 1 (item_place lines image 1)

  long_enough : 2 < length with_head
  long_enough = omega (arith, length-set image 1 (item_place lines image 1), w.long, some)

  -- a pop leaves each word of the header but the head and the count
  pub popped_header : (j : ℕ) → j ≢ 1 → j ≢ 2 → slice_index (popped lines image) j ≡ slice_index image j
  unfolding popped
  popped_header j one two = get_or-set_other with_head 2 j (count_in image - 1) 0 two ∙ get_or-set_other image 1 j (item_place lines image 1) 0 one

  pub popped_head : queue_head (popped lines image) ≡ item_place lines image 1
  unfolding popped
  popped_head =
      get_or-set_other with_head 2 1 (count_in image - 1) 0 (λ e. omega (arith, e)) ∙ get_or-set_same image 1 (item_place lines image 1) 0 (omega (arith, w.long, some))

  pub popped_count : count_in (popped lines image) ≡ count_in image - 1
  unfolding popped
  popped_count = get_or-set_same with_head 2 (count_in image - 1) 0 long_enough

  pub popped_items : (q : ℕ) → item_at (popped lines image) q ≡ item_at image q
  unfolding popped
  popped_items q = header_apart with_head 2 (count_in image - 1) q (omega arith) ∙ header_apart image 1 (item_place lines image 1) q (omega arith)
