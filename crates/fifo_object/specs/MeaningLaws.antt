-- The steps of images are what the operations on a queue mean.
use Rattle.std.specs.Prelude.{◌≡◌, ◌==◌, ◌||◌, ◌+◌, ◌-◌, ◌*◌, ◌%◌, ◌<◌, ◌≤◌, nat_le, ℕ, suc, Bool, true, false, cond, List, [], ◌∷◌, ◌++◌, length, map, slice_index, refl}
use Rattle.std.specs.List.{range_with_len}
use Rattle.std.proofs.Common.{ap, sym, subst, ◌∙◌, arith, zero-add}
use Rattle.std.proofs.lemmas.Bool.{eq-eqb, eqb-true, leb-false, ne_eqb}
use Rattle.std.proofs.lemmas.List.{get_or-replicate}
use Rattle.std.proofs.lemmas.List.FromFn.{get_or-map-range_with_len, length-map-range_with_len}
use Rattle.std.proofs.lemmas.Option.{get_or_from_slice_get, none-some, slice_get_within}
use Rattle.fifo_object.specs.Queue.{IsOp, IsReply, IsText, Queue, behind_front, front_reply, is_full, only_reads, queue_after, reply_to}
use Rattle.fifo_object.specs.Words.{item_in, item_words, op_words, reply_words, text_in, words_of_item}
use Rattle.fifo_object.specs.WordLaws.{item_holds, item_passes, kind_is_read, op_fits, replies_by_words, text_again, text_back}
use Rattle.fifo_object.specs.declared.operations.FifoOp.{FifoOp}
use Rattle.fifo_object.specs.declared.operations.FifoOp.TheVariants.{Push, Pop, Peek, Len}
use Rattle.fifo_object.specs.declared.operations.FifoReply.TheVariants.{Empty, Full, Length, Pushed}
use Rattle.fifo_object.specs.Fifo.{IsFifo, count_in, fifo_opening, fifo_reads, fifo_step, front_words, queue_head, item_at, item_place, pop_step, popped, push_step, pushed, step_by}
use Rattle.fifo_object.specs.FifoLaws.{front_item, item_fits, opens}
use Rattle.fifo_object.specs.FifoMeaning.{StandsForQueue, fifo_meaning}
use Rattle.fifo_object.specs.Places.{popped_count, popped_head, popped_items, pushed_apart, pushed_count, pushed_header, pushed_here}
use Rattle.fifo_object.specs.Ring.{put_at}
use Rattle.fifo_object.specs.RingLaws.{ring_front, ring_popped, ring_pushed, ring_same}
use Rattle.typed_object.specs.Meaning.{HasMeaning}

-- the queue that a lawful image stands for
abbrev queue_in : ℕ → List ℕ → Queue
queue_in lines image = map (λ i. text_in (item_at image (item_place lines image i))) (range_with_len 0 (count_in image))

stands_for_some : (lines : ℕ) (image : List ℕ) → IsFifo lines image → StandsForQueue lines image (queue_in lines image)
stands_for_some lines image i =
    let text_of : ℕ → List ℕ = λ i. text_in (item_at image (item_place lines image i)) in
    let long : length (queue_in lines image) ≡ count_in image = length-map-range_with_len text_of 0 (count_in image) in
    record {
      long = long;
      start = i.header.head;
      within = i.header.count;
      items = λ k text there. (
          let below = slice_get_within (queue_in lines image) k text there in
          sym (get_or-map-range_with_len text_of 0 (count_in image) k k [] (omega (arith, below, long)) (zero-add k)) ∙ get_or_from_slice_get (queue_in lines image) k text [] there);
    }

stands_empty : (lines : ℕ) → 2 ≤ lines → StandsForQueue lines (fifo_opening lines) []
stands_empty lines some =
    let o = opens lines some in
    let none : count_in (fifo_opening lines) ≡ 0 = get_or-replicate (8 * lines - 1) 1 0 0 (omega (arith, some)) in
    record { long = sym none; start = o.header.head; within = o.header.count; items = λ i text there. absurd (none-some text there) }

-- ---- the step of an operation's words

step_of : (lines : ℕ) (image : List ℕ) (op : FifoOp) → IsOp op → fifo_step lines image (op_words op) ≡ step_by (slice_index (op_words op) 0) lines (item_in (op_words op)) image
unfolding fifo_step
step_of lines image op is = ap (λ k. step_by k lines (item_in (op_words op)) image) (kind_is_read op is)

push_of : (lines : ℕ) (image text : List ℕ) → IsText text → fifo_step lines image (op_words (Push text)) ≡ push_step lines (item_words text) image
unfolding words_of_item
push_of lines image text is = step_of lines image (Push text) is ∙ ap (λ item. push_step lines item image) (text_back 1 text)

pop_of : (lines : ℕ) (image : List ℕ) → fifo_step lines image (op_words Pop) ≡ pop_step lines image
unfolding words_of_item
pop_of lines image = step_of lines image Pop tt

peek_of : (lines : ℕ) (image : List ℕ) → fifo_step lines image (op_words Peek) ≡ (image, front_words image)
unfolding words_of_item
peek_of lines image = step_of lines image Peek tt

len_of : (lines : ℕ) (image : List ℕ) → fifo_step lines image (op_words Len) ≡ (image, reply_words (Length (count_in image)))
unfolding words_of_item
len_of lines image = step_of lines image Len tt

-- an operation's words are taken for a reading exactly where it only reads
pub fifo_reads_of : (op : FifoOp) → IsOp op → fifo_reads (op_words op) ≡ only_reads op
unfolding fifo_reads words_of_item
fifo_reads_of (Push text) is = ap (λ k. k == 3 || k == 4) (kind_is_read (Push text) is)
fifo_reads_of Pop is = ap (λ k. k == 3 || k == 4) (kind_is_read Pop is)
fifo_reads_of Peek is = ap (λ k. k == 3 || k == 4) (kind_is_read Peek is)
fifo_reads_of Len is = ap (λ k. k == 3 || k == 4) (kind_is_read Len is)

module _ (lines : ℕ) (image : List ℕ) (i : IsFifo lines image) (some : 2 ≤ lines) where
  -- ---- a push

  -- an image of a queue with room stands for the queue with one text more, once that is put behind the last
  pushed_stands : (queue : Queue) (text : List ℕ) → StandsForQueue lines image queue → IsText text → count_in image < lines - 1 → StandsForQueue lines (pushed lines (item_words text) image) (queue ++ text ∷ [])
  pushed_stands queue text r is room =
      let item = item_words text in
      let fits = item_fits item (item_passes text is) in
      let place = item_place lines image (count_in image) in
      let at : ℕ → List ℕ = λ p. text_in (item_at image p) in
      ring_same (lines - 1) (queue_head image) (count_in image + 1) (put_at place text at) (queue ++ text ∷ []) (ring_pushed (lines - 1) (queue_head image) (count_in image) at queue r text room)
      (queue_head (pushed lines item image)) (count_in (pushed lines item image)) (λ p. text_in (item_at (pushed lines item image) p))
      (pushed_header lines image item i.words some fits.long 1 (omega arith) (λ e. omega (arith, e))) (pushed_count lines image item i.words some fits.long)
      (λ p. (elim (p == place) as (λ b. (p == place) ≡ b → text_in (item_at (pushed lines item image) p) ≡ cond b text (at p)) [
        | true ↦ λ same. ap (λ q. text_in (item_at (pushed lines item image) q)) (eqb-true p place same) ∙ ap text_in (pushed_here lines image item i.words some fits.long) ∙ text_again text is
        | false ↦ λ other. ap text_in (pushed_apart lines image item i.words some fits.long p (λ same. differs (p == place) other (eq-eqb p place same)))
      ]) refl)
    where
      differs : (b : Bool) → b ≡ false → b ≡ true → ⊥
      differs b fails passes = cc

  push_by : (b : Bool) (queue : Queue) (text : List ℕ) → nat_le (lines - 1) (count_in image) ≡ b → StandsForQueue lines image queue → IsText text →
      StandsForQueue lines (cond {A = List ℕ × List ℕ} b (image, reply_words Full) (pushed lines (item_words text) image, reply_words Pushed)).0 (cond b queue (queue ++ text ∷ []))
  push_by true queue text full r is = r
  push_by false queue text room r is = pushed_stands queue text r is (leb-false (lines - 1) (count_in image) room)

  full_is : (queue : Queue) → StandsForQueue lines image queue → nat_le (lines - 1) (count_in image) ≡ is_full lines queue
  full_is queue r = ap (nat_le (lines - 1)) (sym r.long)

  -- the image after a push's step stands for the queue after it
  after_push : (queue : Queue) (text : List ℕ) → StandsForQueue lines image queue → IsText text → StandsForQueue lines (push_step lines (item_words text) image).0 (queue_after lines queue (Push text))
  unfolding push_step
  after_push queue text r is =
      subst (λ b. StandsForQueue lines (push_step lines (item_words text) image).0 (cond b queue (queue ++ text ∷ []))) (full_is queue r) (push_by (nat_le (lines - 1) (count_in image)) queue text refl r is)

  -- the reply of a push is Full or Pushed, by the test whether the queue is full
  push_reply_by : (b : Bool) (text : List ℕ) → (cond {A = List ℕ × List ℕ} b (image, reply_words Full) (pushed lines (item_words text) image, reply_words Pushed)).1 ≡ reply_words (cond b Full Pushed)
  push_reply_by true text = refl
  push_reply_by false text = refl

  -- the reply of a push's step is the one by its meaning
  push_answers : (queue : Queue) (text : List ℕ) → StandsForQueue lines image queue → (push_step lines (item_words text) image).1 ≡ reply_words (reply_to lines queue (Push text))
  unfolding push_step
  push_answers queue text r = push_reply_by (nat_le (lines - 1) (count_in image)) text ∙ ap (λ b. reply_words (cond b Full Pushed)) (full_is queue r)

  -- ---- the front

  none_there : StandsForQueue lines image [] → (count_in image == 0) ≡ true
  none_there r = eq-eqb (count_in image) 0 (sym r.long)

  one_there : (text : List ℕ) (queue : Queue) → StandsForQueue lines image (text ∷ queue) → (count_in image == 0) ≡ false
  one_there text queue r = ne_eqb (count_in image) 0 (λ e. (let l : suc (length queue) ≡ count_in image = r.long in omega (arith, e, l)))

  -- the item at the front of an image is the first text of the queue that it stands for, and that is within the limits
  front_holds : (text : List ℕ) (queue : Queue) → StandsForQueue lines image (text ∷ queue) → IsText text × (item_at image (queue_head image) ≡ item_words text)
  front_holds text queue r =
      let l : suc (length queue) ≡ count_in image = r.long in
      let holds = item_holds (item_at image (queue_head image)) (front_item lines image i (omega (arith, l))) in
      let same : text_in (item_at image (queue_head image)) ≡ text = ring_front (lines - 1) (queue_head image) (count_in image) (λ p. text_in (item_at image p)) text queue r in
      (subst IsText same holds.0, sym holds.1 ∙ ap item_words same)

  -- the reply about the front of an image is the one by its meaning
  front_answers : (queue : Queue) → StandsForQueue lines image queue → front_words image ≡ reply_words (front_reply queue)
  unfolding front_words
  front_answers [] r = ap (λ b. cond b (reply_words Empty) (words_of_item 3 (item_at image (queue_head image)))) (none_there r)
  front_answers (text ∷ queue) r = ap (λ b. cond b (reply_words Empty) (words_of_item 3 (item_at image (queue_head image)))) (one_there text queue r) ∙ ap (words_of_item 3) (front_holds text queue r).1

  front_is : (queue : Queue) → StandsForQueue lines image queue → IsReply (front_reply queue)
  front_is [] r = tt
  front_is (text ∷ queue) r = (front_holds text queue r).0

  -- ---- a pop

  -- an image of a queue with some text stands for the queue without its first text, once that is taken
  popped_stands : (text : List ℕ) (queue : Queue) → StandsForQueue lines image (text ∷ queue) → StandsForQueue lines (popped lines image) queue
  popped_stands text queue r =
      let at : ℕ → List ℕ = λ p. text_in (item_at image p) in
      let l : suc (length queue) ≡ count_in image = r.long in
      let head = queue_head image in
      let again = ring_same (lines - 1) head (count_in image) at (text ∷ queue) r head (suc (length queue)) at refl l (λ p. refl) in
      ring_same (lines - 1) ((head + 1) % (lines - 1)) (length queue) at queue (ring_popped (lines - 1) head (length queue) at text queue again)
      (queue_head (popped lines image)) (count_in (popped lines image)) (λ p. text_in (item_at (popped lines image) p))
      (popped_head lines image i.words some) (popped_count lines image i.words some ∙ omega (arith, l)) (λ p. ap text_in (popped_items lines image i.words some p))

  -- the image after a pop's step stands for the queue after it
  after_pop : (queue : Queue) → StandsForQueue lines image queue → StandsForQueue lines (pop_step lines image).0 (behind_front queue)
  unfolding pop_step
  after_pop [] r =
      subst (λ b. StandsForQueue lines (cond {A = List ℕ × List ℕ} b (image, reply_words Empty) (popped lines image, words_of_item 3 (item_at image (queue_head image)))).0 []) (sym (none_there r)) r
  after_pop (text ∷ queue) r =
      subst (λ b. StandsForQueue lines (cond {A = List ℕ × List ℕ} b (image, reply_words Empty) (popped lines image, words_of_item 3 (item_at image (queue_head image)))).0 queue) (sym (one_there text queue r)) (popped_stands text queue r)

  same_reply : (b : Bool) (words : List ℕ) → (cond {A = List ℕ × List ℕ} b (image, reply_words Empty) (popped lines image, words)).1 ≡ cond b (reply_words Empty) words
  same_reply true words = refl
  same_reply false words = refl

  -- the reply of a pop's step is the one by its meaning
  pop_answers : (queue : Queue) → StandsForQueue lines image queue → (pop_step lines image).1 ≡ reply_words (front_reply queue)
  unfolding pop_step front_words
  pop_answers queue r = same_reply (count_in image == 0) (words_of_item 3 (item_at image (queue_head image))) ∙ front_answers queue r

  -- ---- each operation

  -- the image after the step of an operation stands for the queue after it
  pub after : (queue : Queue) (op : FifoOp) → StandsForQueue lines image queue → IsOp op → StandsForQueue lines (fifo_step lines image (op_words op)).0 (queue_after lines queue op)
  after queue (Push text) r is = subst (λ p. StandsForQueue lines p.0 (queue_after lines queue (Push text))) (sym (push_of lines image text is)) (after_push queue text r is)
  after queue Pop r is = subst (λ p. StandsForQueue lines p.0 (behind_front queue)) (sym (pop_of lines image)) (after_pop queue r)
  after queue Peek r is = subst (λ p. StandsForQueue lines p.0 queue) (sym (peek_of lines image)) r
  after queue Len r is = subst (λ p. StandsForQueue lines p.0 queue) (sym (len_of lines image)) r

  -- the reply of an operation's step has the words of the reply by its meaning
  pub answer : (queue : Queue) (op : FifoOp) → StandsForQueue lines image queue → IsOp op → (fifo_step lines image (op_words op)).1 ≡ reply_words (reply_to lines queue op)
  answer queue (Push text) r is = ap (λ p. p.1) (push_of lines image text is) ∙ push_answers queue text r
  answer queue Pop r is = ap (λ p. p.1) (pop_of lines image) ∙ pop_answers queue r
  answer queue Peek r is = ap (λ p. p.1) (peek_of lines image) ∙ front_answers queue r
  answer queue Len r is = ap (λ p. p.1) (len_of lines image) ∙ ap (λ n. reply_words (Length n)) (sym r.long)

  push_reply : (b : Bool) → IsReply (cond b Full Pushed)
  push_reply true = tt
  push_reply false = tt

  -- the reply to an operation on a queue that an image stands for is within the limits
  pub reply_is : (queue : Queue) (op : FifoOp) → StandsForQueue lines image queue → IsReply (reply_to lines queue op)
  reply_is queue (Push text) r = push_reply (is_full lines queue)
  reply_is queue Pop r = front_is queue r
  reply_is queue Peek r = front_is queue r
  reply_is queue Len r = tt

-- the steps of the queue's images are what its operations mean
pub fifo_has_meaning : (lines : ℕ) → 2 ≤ lines → HasMeaning (IsFifo lines) (fifo_opening lines) (fifo_step lines) fifo_reads (fifo_meaning lines)
fifo_has_meaning lines some = record {
  some = λ image i. (queue_in lines image, stands_for_some lines image i);
  opens = stands_empty lines some;
  fit = λ op is value. op_fits op is;
  readings = λ op is value. fifo_reads_of op is;
  after = λ image queue op i stands is value. after lines image i some queue op stands is;
  answer = λ image queue op i stands is value. answer lines image i some queue op stands is;
  replies = λ image queue op i stands is value. reply_is lines image i some queue op stands;
  told = replies_by_words;
}
