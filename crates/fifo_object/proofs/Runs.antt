-- What the calls of the queue do is the step, as they know the words.
use Rattle.std.proofs.Common.{◌≡◌, ◌≢◌, ◌==◌, ◌||◌, inl, inr, IsTrue, Result, IfOk, OnErr, Some, ◌+◌, ◌-◌, ◌*◌, ◌%◌, ◌<◌, ◌≤◌, nat_le, ℕ, Bool, true, false, cond, List, length, take, drop, replicate, slice_set, refl, sym, ap, ap₂, ◌∙◌, arith}
use Rattle.std.proofs.lemmas.Bool.{eq-eqb, le-leb, leb-true, ne_eqb}
use Rattle.std.proofs.lemmas.List.{get_or-drop, get_or-take, length-drop, length-take-le}
use Rattle.cx_base.specs.Calls.{Changes, Finds}
use Rattle.cx_base.specs.Memory.{Becomes, Framed, Reads, overwritten}
use Rattle.cx_base.specs.declared.memory.Memory.{Ghosts}
use Rattle.fifo_object.specs.Words.{item_in, kind_in, no_item, number_item, reply_words, words_of_item}
use Rattle.fifo_object.specs.declared.operations.FifoReply.TheVariants.{Empty, Full, Pushed}
use Rattle.fifo_object.specs.Fifo.{count_in, fifo_step, fifo_reads, front_words, queue_head, item_at, len_step, peek_step, item_place, pop_step, popped, push_step, pushed, step_by}
use Rattle.fifo_object.specs.FifoLaws.{reads_kind}
use Rattle.fifo_object.specs.Places.{item_is}

-- an image after a step, and the words of the reply
abbrev pub Answered : Type 0
Answered = List ℕ × List ℕ

abbrev pub both : List ℕ → List ℕ → Answered
both image reply = (image, reply)

-- ---- a push

-- a test whether one number is at most another is false where the other is below it
not_full : (b : Bool) (m n : ℕ) → nat_le m n ≡ b → n < m → b ≡ false
not_full true m n e less = absurd (let le = leb-true m n e in omega (arith, le, less))
not_full false m n e less = refl

-- where a full queue is left as it was and Full is answered, that is the step of a push
pub full_runs : (lines : ℕ) (item x y reply : List ℕ) (count : ℕ) → y ≡ x → count_in y ≡ count → lines - 1 ≤ count → reply ≡ words_of_item 2 no_item → push_step lines item x ≡ both y reply
unfolding push_step
full_runs lines item x y reply count same counted full reply_is =
    let is : count_in x ≡ count = ap count_in (sym same) ∙ counted in
    let test : nat_le (lines - 1) (count_in x) ≡ true = le-leb (lines - 1) (count_in x) (omega (arith, is, full)) in
    ap (λ b. cond {A = Answered} b (x, reply_words Full) (pushed lines item x, reply_words Pushed)) test ∙ ap₂ both (sym same) (sym reply_is)

-- where an item is put at the place behind the last, one more is counted and Pushed is answered, that is the step of a push
pub put_runs : (lines : ℕ) (item x y reply : List ℕ) (head count place : ℕ) → queue_head x ≡ head → count_in x ≡ count → count < lines - 1 → place ≡ (head + count) % (lines - 1) →
    y ≡ overwritten (8 * (place + 1)) item x → reply ≡ words_of_item 1 no_item → push_step lines item x ≡ both (slice_set y 2 (count + 1)) reply
unfolding push_step pushed
put_runs lines item x y reply head count place headed counted room placed put reply_is =
    let test : nat_le (lines - 1) (count_in x) ≡ false = not_full (nat_le (lines - 1) (count_in x)) (lines - 1) (count_in x) refl (omega (arith, counted, room)) in
    let here : item_place lines x (count_in x) ≡ place = ap₂ (λ h n. (h + n) % (lines - 1)) headed counted ∙ sym placed in
    let image : pushed lines item x ≡ slice_set y 2 (count + 1) =
    ap₂ (λ p n. slice_set (overwritten (8 * (p + 1)) item x) 2 (n + 1)) here counted ∙ ap (λ z. slice_set z 2 (count + 1)) (sym put) in
    ap (λ b. cond {A = Answered} b (x, reply_words Full) (pushed lines item x, reply_words Pushed)) test ∙ ap₂ both image (sym reply_is)

-- ---- a pop

-- where an empty queue is left as it was and Empty is answered, that is the step of a pop
pub none_runs : (lines : ℕ) (x y reply : List ℕ) (count : ℕ) → y ≡ x → count_in y ≡ count → count ≡ 0 → reply ≡ words_of_item 4 no_item → pop_step lines x ≡ both y reply
unfolding pop_step
none_runs lines x y reply count same counted none reply_is =
    let test : (count_in x == 0) ≡ true = eq-eqb (count_in x) 0 (ap count_in (sym same) ∙ counted ∙ none) in
    ap (λ b. cond {A = Answered} b (x, reply_words Empty) (popped lines x, words_of_item 3 (item_at x (queue_head x)))) test ∙ ap₂ both (sym same) (sym reply_is)

-- where the head goes on by one place, one item less is counted and the item at the front is answered, that is the step of a pop
pub take_runs : (lines : ℕ) (x reply : List ℕ) (head count next less : ℕ) → queue_head x ≡ head → count_in x ≡ count → count ≢ 0 → next ≡ (head + 1) % (lines - 1) → less ≡ count - 1 → reply ≡ words_of_item 3 (item_at x head) →
    pop_step lines x ≡ both (slice_set (slice_set x 1 next) 2 less) reply
unfolding pop_step popped
take_runs lines x reply head count next less headed counted some nexted lessened reply_is =
    let test : (count_in x == 0) ≡ false = ne_eqb (count_in x) 0 (λ e. some (sym counted ∙ e)) in
    let place : item_place lines x 1 ≡ next = ap (λ h. (h + 1) % (lines - 1)) headed ∙ sym nexted in
    let image : popped lines x ≡ slice_set (slice_set x 1 next) 2 less = ap₂ (λ p n. slice_set (slice_set x 1 p) 2 n) place (ap (λ n. n - 1) counted ∙ sym lessened) in
    ap (λ b. cond {A = Answered} b (x, reply_words Empty) (popped lines x, words_of_item 3 (item_at x (queue_head x)))) test ∙ ap₂ both image (ap (λ h. words_of_item 3 (item_at x h)) headed ∙ sym reply_is)

-- ---- the front

-- of an empty queue the reply about its front is Empty
pub none_front : (x reply : List ℕ) (count : ℕ) → count_in x ≡ count → count ≡ 0 → reply ≡ words_of_item 4 no_item → reply ≡ front_words x
unfolding front_words
none_front x reply count counted none reply_is =
    reply_is ∙ ap (λ b. cond b (reply_words Empty) (words_of_item 3 (item_at x (queue_head x)))) (sym (eq-eqb (count_in x) 0 (counted ∙ none)))

-- of a queue with an item the reply about its front is the item at the head
pub some_front : (x reply : List ℕ) (head count : ℕ) → queue_head x ≡ head → count_in x ≡ count → count ≢ 0 → reply ≡ words_of_item 3 (item_at x head) → reply ≡ front_words x
unfolding front_words
some_front x reply head count headed counted some reply_is =
    reply_is ∙ ap (λ h. words_of_item 3 (item_at x h)) (sym headed) ∙ ap (λ b. cond b (reply_words Empty) (words_of_item 3 (item_at x (queue_head x)))) (sym (ne_eqb (count_in x) 0 (λ e. some (sym counted ∙ e))))

-- the eight words from where a place begins are its item
part_is : (words : List ℕ) (place : ℕ) → 8 * (place + 1) + 8 ≤ length words → take 8 (drop (8 * (place + 1)) words) ≡ item_at words place
part_is words place room =
    item_is words (take 8 (drop (8 * (place + 1)) words)) place (length-take-le 8 (drop (8 * (place + 1)) words) (omega (arith, room, length-drop (8 * (place + 1)) words)))
    (λ k below. sym (get_or-take 8 (drop (8 * (place + 1)) words) k 0 below ∙ get_or-drop (8 * (place + 1)) words k 0))

-- the part of words that begins where a place does, and has eight of them, is its item
pub part_of : (words : List ℕ) (place n at : ℕ) → n ≡ 8 → at ≡ 8 * (place + 1) → 8 * (place + 1) + 8 ≤ length words → take n (drop at words) ≡ item_at words place
part_of words place n at eight here room = ap₂ (λ k m. take k (drop m words)) eight here ∙ part_is words place room

-- ---- readings, by the kind

pub reads_then : (kind : ℕ) (op : List ℕ) → kind ≡ kind_in op → kind ≡ 3 → (kind == 3) ≡ fifo_reads op
unfolding fifo_reads
reads_then kind op is three = eq-eqb kind 3 three ∙ sym (ap (λ b. b || kind_in op == 4) (eq-eqb (kind_in op) 3 (sym is ∙ three)))

pub reads_else : (kind : ℕ) (op : List ℕ) → kind ≡ kind_in op → kind ≢ 3 → (kind == 4) ≡ fifo_reads op
unfolding fifo_reads
reads_else kind op is other = ap (λ k. k == 4) is ∙ sym (ap (λ b. b || kind_in op == 4) (ne_eqb (kind_in op) 3 (λ three. other (is ∙ three))))

pub other_reading : (op : List ℕ) → IsTrue (fifo_reads op) → kind_in op ≢ 3 → kind_in op ≡ 4
unfolding fifo_reads
other_reading op reads other = elim (reads_kind (kind_in op) reads) [
  | inl three ↦ absurd (other three)
  | inr four ↦ four
]

-- ---- the step, by the kind

module _ (lines : ℕ) (x y op reply : List ℕ) where
  pub push_is : kind_in op ≡ 1 → push_step lines (item_in op) x ≡ both y reply → fifo_step lines x op ≡ both y reply
  unfolding fifo_step
  push_is kind e = ap (λ k. step_by k lines (item_in op) x) kind ∙ e

  pub pop_is : kind_in op ≡ 2 → pop_step lines x ≡ both y reply → fifo_step lines x op ≡ both y reply
  unfolding fifo_step
  pop_is kind e = ap (λ k. step_by k lines (item_in op) x) kind ∙ e

  pub peek_is : kind_in op ≡ 3 → y ≡ x → reply ≡ front_words y → fifo_step lines x op ≡ both y reply
  unfolding fifo_step
  peek_is kind same reply_is = ap (λ k. step_by k lines (item_in op) x) kind ∙ ap₂ both (sym same) (ap front_words (sym same) ∙ sym reply_is)

  pub len_is : kind_in op ≡ 4 → y ≡ x → reply ≡ words_of_item 5 (number_item (count_in y)) → fifo_step lines x op ≡ both y reply
  unfolding fifo_step
  len_is kind same reply_is = ap (λ k. step_by k lines (item_in op) x) kind ∙ ap₂ both (sym same) (ap (λ w. words_of_item 5 (number_item (count_in w))) (sym same) ∙ sym reply_is)

  pub none_is : kind_in op ≢ 1 → kind_in op ≢ 2 → kind_in op ≢ 3 → kind_in op ≢ 4 → y ≡ x → reply ≡ replicate 144 0 → fifo_step lines x op ≡ both y reply
  unfolding fifo_step
  none_is one two three four same reply_is =
      let zeros : Answered = (x, replicate 144 0) in
      let last : Answered = cond (kind_in op == 4) (len_step x) zeros in
      let third : Answered = cond (kind_in op == 3) (peek_step x) last in
      let second : Answered = cond (kind_in op == 2) (pop_step lines x) third in
      ap (λ b. cond b (push_step lines (item_in op) x) second) (ne_eqb (kind_in op) 1 one)
      ∙ ap (λ b. cond b (pop_step lines x) third) (ne_eqb (kind_in op) 2 two)
      ∙ ap (λ b. cond b (peek_step x) last) (ne_eqb (kind_in op) 3 three)
      ∙ ap (λ b. cond b (len_step x) zeros) (ne_eqb (kind_in op) 4 four)
      ∙ ap₂ both (sym same) (sym reply_is)

-- the clauses of a call one by one; a line then stays one line
module _ {Memory T E : Type 0} {m : Ghosts Memory} {old new : Memory} {result : Result T E} where
  -- the clauses of a call that only loads, put together: all words are kept, and what it found holds of them
  pub found : {Found : T → List ℕ → Type 0} → IfOk result (λ v. Reads (m.stands old) (m.stands new) (Found v)) → Becomes (m.stands old) (m.stands new) ◌≡◌ → OnErr result (m.left new ≡ Some 0) → Framed m.size m.fixed m.writable m.left old new → Finds m old new result Found
  found d k h f = record { done = d; kept = k; halts = h; framed = f }

  -- the clauses of a call that stores, put together: the words after it are related to those before it
  pub changed : {Related : T → List ℕ → List ℕ → Type 0} → IfOk result (λ v. Becomes (m.stands old) (m.stands new) (Related v)) → OnErr result (m.left new ≡ Some 0) → Framed m.size m.fixed m.writable m.left old new → Changes m old new result Related
  changed d h f = record { done = d; halts = h; framed = f }
