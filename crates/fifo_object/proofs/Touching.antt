-- A step touches the header's line and at most one more.
use Rattle.std.proofs.Common.{◌≡◌, ◌==◌, ◌+◌, ◌-◌, ◌*◌, ◌<◌, inl, inr, nat_le, ℕ, Bool, true, false, cond, List, length, replicate, slice_set, refl, sym, ap, ◌∙◌, arith}
use Rattle.std.proofs.lemmas.Bool.{eqb-true}
use Rattle.std.proofs.lemmas.List.{get_or-set_other}
use Rattle.cx_base.specs.Memory.{overwritten}
use Rattle.cx_base.proofs.WordLemmas.{overwritten_before, overwritten_behind}
use Rattle.fifo_object.specs.Words.{item_in, kind_in, reply_words, words_of_item}
use Rattle.fifo_object.specs.WordLaws.{item_is_asked}
use Rattle.fifo_object.specs.declared.operations.FifoReply.TheVariants.{Empty, Full, Length, Pushed}
use Rattle.fifo_object.specs.Fifo.{IsSameAt, IsSameBeside, TouchesTwoLines, count_in, fifo_step, front_words, queue_head, item_at, len_step, peek_step, item_place, pop_step, popped, push_step, pushed}
use Rattle.fifo_object.specs.FifoLaws.{holds_of_choice, item_fits}

-- storing a word of the header, or an item at a place, leaves all words but those of the header and of that place
set_beside : (place j v : ℕ) (image : List ℕ) → j < 8 → IsSameBeside place (slice_set image j v) image
set_beside place j v image below at from apart = get_or-set_other image j at v 0 (λ e. omega (arith, e, below, from))

put_beside : (place : ℕ) (item image : List ℕ) → length item ≡ 8 → IsSameBeside place (overwritten (8 * (place + 1)) item image) image
put_beside place item image long at from (inl before) = overwritten_before item image (8 * (place + 1)) at before
put_beside place item image long at from (inr behind) = overwritten_behind item image (8 * (place + 1)) at (omega (arith, behind, long))

-- the second of a chosen pair
second : (b : Bool) (x y : List ℕ × List ℕ) → (cond b x y).1 ≡ cond b x.1 y.1
second true x y = refl
second false x y = refl

-- the reply about the front is the same for two images that are the same in the header's line and at the head
front_same : (image other : List ℕ) → IsSameAt (queue_head image) other image →
    cond (count_in other == 0) (reply_words Empty) (words_of_item 3 (item_at other (queue_head other))) ≡ cond (count_in image == 0) (reply_words Empty) (words_of_item 3 (item_at image (queue_head image)))
front_same image other same =
    ap (λ n. cond (n == 0) (reply_words Empty) (words_of_item 3 (item_at other (queue_head other)))) (same.header 2 (omega arith))
    ∙ ap (λ item. cond (count_in image == 0) (reply_words Empty) (words_of_item 3 item)) (ap (item_at other) (same.header 1 (omega arith)) ∙ same.item)

module _ (lines : ℕ) (image : List ℕ) where
  push_touches : (item : List ℕ) → length item ≡ 8 → TouchesTwoLines (push_step lines item) image
  unfolding push_step pushed
  push_touches item long =
      let place = item_place lines image (count_in image) in
      record {
        place = place;
        changes = holds_of_choice (λ (p : List ℕ × List ℕ). IsSameBeside place p.0 image) (nat_le (lines - 1) (count_in image)) (image, reply_words Full) (pushed lines item image, reply_words Pushed) (λ _ at from apart. refl)
            (λ _ at from apart. set_beside place 2 (count_in image + 1) (overwritten (8 * (place + 1)) item image) (omega arith) at from apart ∙ put_beside place item image long at from apart);
        reply = λ other same.
            second (nat_le (lines - 1) (count_in other)) (other, reply_words Full) (pushed lines item other, reply_words Pushed)
            ∙ ap (λ n. cond (nat_le (lines - 1) n) (reply_words Full) (reply_words Pushed)) (same.header 2 (omega arith))
            ∙ sym (second (nat_le (lines - 1) (count_in image)) (image, reply_words Full) (pushed lines item image, reply_words Pushed));
      }

  pop_touches : TouchesTwoLines (pop_step lines) image
  unfolding pop_step popped
  pop_touches =
      let place = queue_head image in
      record {
        place = place;
        changes = holds_of_choice (λ (p : List ℕ × List ℕ). IsSameBeside place p.0 image) (count_in image == 0) (image, reply_words Empty) (popped lines image, words_of_item 3 (item_at image (queue_head image))) (λ _ at from apart. refl)
            (λ _ at from apart. set_beside place 2 (count_in image - 1) (slice_set image 1 (item_place lines image 1)) (omega arith) at from apart ∙ set_beside place 1 (item_place lines image 1) image (omega arith) at from apart);
        reply = λ other same.
            second (count_in other == 0) (other, reply_words Empty) (popped lines other, words_of_item 3 (item_at other (queue_head other)))
            ∙ front_same image other same
            ∙ sym (second (count_in image == 0) (image, reply_words Empty) (popped lines image, words_of_item 3 (item_at image (queue_head image))));
      }

  peek_touches : TouchesTwoLines peek_step image
  unfolding front_words
  peek_touches = record { place = queue_head image; changes = λ at from apart. refl; reply = front_same image }

  len_touches : TouchesTwoLines len_step image
  len_touches = record { place = 0; changes = λ at from apart. refl; reply = λ other same. ap (λ n. reply_words (Length n)) (same.header 2 (omega arith)) }

  -- the step by the tests of its kind, the first of which asks for an item
  by_tests : (one two three four : Bool) (item : List ℕ) → (one ≡ true → length item ≡ 8) →
      TouchesTwoLines (λ words. cond one (push_step lines item words) (cond two (pop_step lines words) (cond three (peek_step words) (cond four (len_step words) (words, replicate 144 0))))) image
  by_tests true two three four item long = push_touches item (long refl)
  by_tests false true three four item long = pop_touches
  by_tests false false true four item long = peek_touches
  by_tests false false false true item long = len_touches
  by_tests false false false false item long = record { place = 0; changes = λ at from apart. refl; reply = λ other same. refl }

pub step_touches : (lines : ℕ) (image op : List ℕ) → TouchesTwoLines (λ words. fifo_step lines words op) image
unfolding fifo_step
step_touches lines image op =
    by_tests lines image (kind_in op == 1) (kind_in op == 2) (kind_in op == 3) (kind_in op == 4) (item_in op) (λ is. (item_fits (item_in op) (item_is_asked op (eqb-true (kind_in op) 1 is))).long)
