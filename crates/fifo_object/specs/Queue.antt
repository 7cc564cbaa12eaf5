-- A bounded queue of texts: what each operation means.
use Rattle.std.specs.Prelude.{◌-◌, ◌^◌, ◌<◌, ◌≤◌, ℕ, Bool, true, false, nat_le, List, [], ◌∷◌, ◌++◌, All, length, if◌then◌else◌}
use Rattle.fifo_object.specs.declared.operations.FifoOp.{FifoOp}
use Rattle.fifo_object.specs.declared.operations.FifoOp.TheVariants.{Push, Pop, Peek, Len}
use Rattle.fifo_object.specs.declared.operations.FifoReply.{FifoReply}
use Rattle.fifo_object.specs.declared.operations.FifoReply.TheVariants.{Pushed, Full, Item, Empty, Length}

-- what a text may be: 1 to 56 visible ASCII characters
pub record IsText (text : List ℕ) : Type 0 where
  pub some : 1 ≤ length text
  pub short : length text ≤ 56
  pub visible : All (λ b. (33 ≤ b) × (b ≤ 126)) text

-- an operation whose text, if it has one, is within the limits
abbrev pub IsOp : FifoOp → Type 0
IsOp (Push text) = IsText text
IsOp _ = Unit {0}

-- a reply whose text, if it has one, is within the limits
abbrev pub IsReply : FifoReply → Type 0
IsReply (Item text) = IsText text
IsReply _ = Unit {0}

-- a reply whose text, if it has one, is of bytes, and whose number, if it has one, has 64 bits
abbrev pub IsReplyValue : FifoReply → Type 0
IsReplyValue (Item text) = All (λ b. b < 256) text
IsReplyValue (Length number) = number < 2 ^ 64
IsReplyValue _ = Unit {0}

-- texts, the oldest first
abbrev pub Queue : Type 0
Queue = List (List ℕ)

-- whether a queue of the given number of lines is full: each line but the first has a place for one text
abbrev pub is_full : ℕ → Queue → Bool
is_full lines queue = nat_le (lines - 1) (length queue)

-- the reply about the front of a queue: its first text, or that it is empty
abbrev pub front_reply : Queue → FifoReply
front_reply [] = Empty
front_reply (text ∷ queue) = Item text

-- the queue without its first text
abbrev pub behind_front : Queue → Queue
behind_front [] = []
behind_front (text ∷ queue) = queue

-- whether an operation only reads
abbrev pub only_reads : FifoOp → Bool
only_reads Peek = true
only_reads Len = true
only_reads _ = false

-- the reply to an operation on a queue of the given number of lines
abbrev pub reply_to : ℕ → Queue → FifoOp → FifoReply
reply_to lines queue (Push text) = if is_full lines queue then Full else Pushed
reply_to lines queue Pop = front_reply queue
reply_to lines queue Peek = front_reply queue
reply_to lines queue Len = Length (length queue)

-- the queue of the given number of lines after an operation
abbrev pub queue_after : ℕ → Queue → FifoOp → Queue
queue_after lines queue (Push text) = if is_full lines queue then queue else queue ++ text ∷ []
queue_after lines queue Pop = behind_front queue
queue_after lines queue Peek = queue
queue_after lines queue Len = queue

-- the queue after operations
abbrev pub queue_after_all : ℕ → Queue → List FifoOp → Queue
queue_after_all lines queue [] = queue
queue_after_all lines queue (op ∷ ops) = queue_after_all lines (queue_after lines queue op) ops

-- the text of a push that is answered with Pushed
abbrev pub pushed_by : FifoOp → FifoReply → Queue
pushed_by (Push text) Pushed = text ∷ []
pushed_by op reply = []

-- the text of a pop that is answered with an item
abbrev pub popped_by : FifoOp → FifoReply → Queue
popped_by Pop (Item text) = text ∷ []
popped_by op reply = []

-- the texts of the pushes among operations that are answered with Pushed, in order
abbrev pub all_pushed : ℕ → Queue → List FifoOp → Queue
all_pushed lines queue [] = []
all_pushed lines queue (op ∷ ops) = pushed_by op (reply_to lines queue op) ++ all_pushed lines (queue_after lines queue op) ops

-- the texts of the pops among operations that are answered with an item, in order
abbrev pub all_popped : ℕ → Queue → List FifoOp → Queue
all_popped lines queue [] = []
all_popped lines queue (op ∷ ops) = popped_by op (reply_to lines queue op) ++ all_popped lines (queue_after lines queue op) ops
