-- A bounded queue of texts in a ring of lines: the images that stand for one, and the step as a function of words. Line 0 has the
-- version, the head and the count; place s is line s + 1, and the items stand at places head, head + 1 and so on, in turn.
use Rattle.std.specs.Prelude.{◌≡◌, ◌==◌, ◌||◌, ◌⊎◌, ◌+◌, ◌-◌, ◌*◌, ◌%◌, ◌<◌, ◌≤◌, nat_le, ℕ, Bool, true, IsTrue, List, ◌∷◌, map, replicate, slice_index, slice_set, if◌then◌else◌}
use Rattle.std.specs.List.{range_with_len}
use Rattle.cx_base.specs.Memory.{Always, Words, overwritten}
use Rattle.cx_base.specs.declared.memory.Memory.{Ghosts}
use Rattle.fifo_object.specs.Words.{is_item, item_in, kind_in, op_words, reply_words, words_of_item}
use Rattle.fifo_object.specs.declared.operations.FifoOp.TheVariants.{Len, Peek}
use Rattle.fifo_object.specs.declared.operations.FifoReply.TheVariants.{Empty, Full, Length, Pushed}

-- the place of the item at the front, which the header has
abbrev pub queue_head : List ℕ → ℕ
queue_head image = slice_index image 1

-- the number of items, which the header has
abbrev pub count_in : List ℕ → ℕ
count_in image = slice_index image 2

-- the place of an item, counted from the head
abbrev pub item_place : ℕ → List ℕ → ℕ → ℕ
item_place lines image i = (queue_head image + i) % (lines - 1)

-- the eight words of a place
abbrev pub item_at : List ℕ → ℕ → List ℕ
item_at image place = map (λ k. slice_index image (8 * (place + 1) + k)) (range_with_len 0 8)

-- a header: the version, a head that is a place, at most as many items as places, and zeros
pub record IsQueueHeader (lines : ℕ) (image : List ℕ) : Type 0 where
  pub version : slice_index image 0 ≡ 16
  pub head : queue_head image < lines - 1
  pub count : count_in image ≤ lines - 1
  pub zeros : (slice_index image 3 ≡ 0) × (slice_index image 4 ≡ 0) × (slice_index image 5 ≡ 0) × (slice_index image 6 ≡ 0) × (slice_index image 7 ≡ 0)

-- what stands at the places of the items are texts
abbrev pub HasItems : ℕ → List ℕ → Type 0
HasItems lines image = (i : ℕ) → i < count_in image → is_item (item_at image (item_place lines image i)) ≡ true

-- A lawful image of the given number of lines. What stands at other places is not looked at.
pub record IsFifo (lines : ℕ) (image : List ℕ) : Type 0 where
  pub words : Words (8 * lines) image
  pub header : IsQueueHeader lines image
  pub items : HasItems lines image

-- a memory whose words stand for a queue of the given number of lines
pub record HoldsFifo {Memory : Type 0} (m : Ghosts Memory) (lines : ℕ) (mem : Memory) : Type 0 where
  pub size : m.size mem ≡ 8 * lines
  pub lawful : Always (m.stands mem) (IsFifo lines)

-- what an answer by some words of a memory needs: it has the given number of lines, and the reply's words are 0
pub record MayTell {Memory : Type 0} (m : Ghosts Memory) (lines : ℕ) (mem : Memory) (reply : List ℕ) : Type 0 where
  pub size : m.size mem ≡ 8 * lines
  pub zero : reply ≡ replicate 144 0

-- what an answer of the queue needs: a memory that holds one of the given number of lines, and a reply whose words are 0
pub record MayAnswerQueue {Memory : Type 0} (m : Ghosts Memory) (lines : ℕ) (mem : Memory) (reply : List ℕ) : Type 0 where
  pub holds : HoldsFifo m lines mem
  pub zero : reply ≡ replicate 144 0

-- what a change of the queue needs: a memory that holds one of the given number of lines and may be stored to, and a reply whose words are 0
pub record MayChangeQueue {Memory : Type 0} (m : Ghosts Memory) (lines : ℕ) (mem : Memory) (reply : List ℕ) : Type 0 where
  pub holds : HoldsFifo m lines mem
  pub writable : IsTrue (m.writable mem)
  pub zero : reply ≡ replicate 144 0

-- the image of the empty queue
abbrev pub fifo_opening : ℕ → List ℕ
fifo_opening lines = 16 ∷ replicate (8 * lines - 1) 0

-- the image after an item is put behind the last
unfoldable pub pushed : ℕ → List ℕ → List ℕ → List ℕ
pushed lines item image = slice_set (overwritten (8 * (item_place lines image (count_in image) + 1)) item image) 2 (count_in image + 1)

-- the image after the item at the front is taken
unfoldable pub popped : ℕ → List ℕ → List ℕ
popped lines image = slice_set (slice_set image 1 (item_place lines image 1)) 2 (count_in image - 1)

-- the reply that is the item at the front
unfoldable pub front_words : List ℕ → List ℕ
front_words image = if count_in image == 0 then reply_words Empty else words_of_item 3 (item_at image (queue_head image))

-- the image after a push, and the words of its reply
unfoldable pub push_step : ℕ → List ℕ → List ℕ → List ℕ × List ℕ
push_step lines item image =
    if nat_le (lines - 1) (count_in image) then (image, reply_words Full) else (pushed lines item image, reply_words Pushed)

-- the image after a pop, and the words of its reply
unfoldable pub pop_step : ℕ → List ℕ → List ℕ × List ℕ
pop_step lines image = if count_in image == 0 then (image, reply_words Empty) else (popped lines image, words_of_item 3 (item_at image (queue_head image)))

-- the image after a peek, and the words of its reply
abbrev pub peek_step : List ℕ → List ℕ × List ℕ
peek_step image = (image, front_words image)

-- the image after a request for the number of texts, and the words of its reply
abbrev pub len_step : List ℕ → List ℕ × List ℕ
len_step image = (image, reply_words (Length (count_in image)))

-- The step of an operation of this kind and item. Another kind is of no operation: it leaves the image, and is answered by zeros.
abbrev pub step_by : ℕ → ℕ → List ℕ → List ℕ → List ℕ × List ℕ
step_by kind lines item image =
    if kind == 1 then push_step lines item image
    else (if kind == 2 then pop_step lines image
    else (if kind == 3 then peek_step image
    else (if kind == 4 then len_step image else (image, replicate 144 0))))

-- The step of an operation's words. Words of no operation leave the image, and are answered by zeros.
unfoldable pub fifo_step : ℕ → List ℕ → List ℕ → List ℕ × List ℕ
fifo_step lines image op = step_by (kind_in op) lines (item_in op) image

-- whether words have the kind of an operation that only reads
unfoldable pub fifo_reads : List ℕ → Bool
fifo_reads op = kind_in op == 3 || kind_in op == 4

-- these are the words of a peek, or those of a request for the number of texts
abbrev pub IsReading : List ℕ → Type 0
IsReading words = (words ≡ op_words Peek) ⊎ (words ≡ op_words Len)

-- two images have the same words but in the header's line and in that of a place
abbrev pub IsSameBeside : ℕ → List ℕ → List ℕ → Type 0
IsSameBeside place one other = (at : ℕ) → 8 ≤ at → (at < 8 * (place + 1)) ⊎ (8 * (place + 2) ≤ at) → slice_index one at ≡ slice_index other at

-- two images have the same words in the header's line and in that of a place
pub record IsSameAt (place : ℕ) (one other : List ℕ) : Type 0 where
  pub header : (j : ℕ) → j < 8 → slice_index one j ≡ slice_index other j
  pub item : item_at one place ≡ item_at other place

-- what a step changes in an image, and what its reply depends on, are at most two lines: the header's and that of a place
pub record TouchesTwoLines (step : List ℕ → List ℕ × List ℕ) (image : List ℕ) : Type 0 where
  pub place : ℕ
  pub changes : IsSameBeside place (step image).0 image
  pub reply : (other : List ℕ) → IsSameAt place other image → (step other).1 ≡ (step image).1
