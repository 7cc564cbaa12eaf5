-- Operations and replies as 144 words: a kind, an item of eight words, and zeros behind it.
use Rattle.std.specs.Prelude.{◌≢◌, ◌==◌, ◌&&◌, nat_le, min, ℕ, Bool, List, ◌∷◌, ◌++◌, length, take, drop, replicate, slice_index, if◌then◌else◌}
use Rattle.std.specs.List.{list_all}
use Rattle.std.specs.Str.{bytes_eq}
use Rattle.cx_base.specs.Packing.{packed, unpacked}
use Rattle.fifo_object.specs.Queue.{IsOp, IsReply}
use Rattle.fifo_object.specs.declared.operations.FifoOp.{FifoOp}
use Rattle.fifo_object.specs.declared.operations.FifoOp.TheVariants.{Push, Pop, Peek, Len}
use Rattle.fifo_object.specs.declared.operations.FifoReply.{FifoReply}
use Rattle.fifo_object.specs.declared.operations.FifoReply.TheVariants.{Pushed, Full, Item, Empty, Length}

-- a text as an item: its length, and its bytes packed
abbrev pub item_words : List ℕ → List ℕ
item_words text = length text ∷ packed 7 text

-- a number as an item
abbrev pub number_item : ℕ → List ℕ
number_item number = number ∷ replicate 7 0

-- the item of what has neither a text nor a number
abbrev pub no_item : List ℕ
no_item = replicate 8 0

-- the words of a kind and an item
unfoldable pub words_of_item : ℕ → List ℕ → List ℕ
words_of_item kind item = kind ∷ (item ++ replicate 135 0)

-- the words of an operation
abbrev pub op_words : FifoOp → List ℕ
op_words (Push text) = words_of_item 1 (item_words text)
op_words Pop = words_of_item 2 no_item
op_words Peek = words_of_item 3 no_item
op_words Len = words_of_item 4 no_item

-- the words of a reply
abbrev pub reply_words : FifoReply → List ℕ
reply_words Pushed = words_of_item 1 no_item
reply_words Full = words_of_item 2 no_item
reply_words (Item text) = words_of_item 3 (item_words text)
reply_words Empty = words_of_item 4 no_item
reply_words (Length number) = words_of_item 5 (number_item number)

-- no operation within the limits has these words
abbrev pub AreOfNoOp : List ℕ → Type 0
AreOfNoOp words = (op : FifoOp) → IsOp op → op_words op ≢ words

-- no reply within the limits has these words
abbrev pub AreOfNoReply : List ℕ → Type 0
AreOfNoReply words = (reply : FifoReply) → IsReply reply → reply_words reply ≢ words

-- ---- words read

-- the test of a text
abbrev pub is_text : List ℕ → Bool
is_text text = nat_le 1 (length text) && nat_le (length text) 56 && list_all (λ b. nat_le 33 b && nat_le b 126) text

-- the text of an item, at most 56 bytes
unfoldable pub text_in : List ℕ → List ℕ
text_in item = unpacked (min (slice_index item 0) 56) (drop 1 item)

-- whether words are the item of a text within the limits
unfoldable pub is_item : List ℕ → Bool
is_item item = is_text (text_in item) && bytes_eq (item_words (text_in item)) item

-- the item that words have behind the kind
abbrev pub item_in : List ℕ → List ℕ
item_in words = take 8 (drop 1 words)

-- whether words are those of this kind and of a text within the limits
unfoldable pub has_text : ℕ → List ℕ → Bool
has_text kind words = is_item (item_in words) && bytes_eq (words_of_item kind (item_in words)) words

-- whether an operation within the limits has these words
unfoldable pub is_op_in : List ℕ → Bool
is_op_in words =
    if slice_index words 0 == 1
    then has_text 1 words
    else nat_le 2 (slice_index words 0) && nat_le (slice_index words 0) 4 && bytes_eq (words_of_item (slice_index words 0) no_item) words

-- the operation that has these words, where one has
unfoldable pub op_in : List ℕ → FifoOp
op_in words =
    if slice_index words 0 == 1 then Push (text_in (item_in words))
    else (if slice_index words 0 == 2 then Pop
    else (if slice_index words 0 == 3 then Peek else Len))

-- the kind of operation that has these words, and 0 where none has them
unfoldable pub kind_in : List ℕ → ℕ
kind_in words = if is_op_in words then slice_index words 0 else 0

-- whether a reply within the limits has these words
unfoldable pub is_reply_in : List ℕ → Bool
is_reply_in words =
    if slice_index words 0 == 3
    then has_text 3 words
    else (if slice_index words 0 == 5
    then bytes_eq (words_of_item 5 (number_item (slice_index words 1))) words
    else nat_le 1 (slice_index words 0) && nat_le (slice_index words 0) 4 && bytes_eq (words_of_item (slice_index words 0) no_item) words)

-- the reply that has these words, where one has
unfoldable pub reply_in : List ℕ → FifoReply
reply_in words =
    if slice_index words 0 == 1 then Pushed
    else (if slice_index words 0 == 2 then Full
    else (if slice_index words 0 == 3 then Item (text_in (item_in words))
    else (if slice_index words 0 == 4 then Empty else Length (slice_index words 1))))
