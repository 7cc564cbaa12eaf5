-- Operations and replies as 144 words each: a kind, and what the kind uses, with zeros behind it.
use Rattle.std.specs.Prelude.{◌≡◌, ◌≢◌, ◌==◌, ℕ, List, ◌∷◌, replicate, slice_index, if◌then◌else◌, Option, Some, None}
use Rattle.bounded_counters.specs.declared.operations.Op.{Op}
use Rattle.bounded_counters.specs.declared.operations.Op.TheVariants.{Add, Read, Other}
use Rattle.bounded_counters.specs.declared.operations.Reply.{Reply}
use Rattle.bounded_counters.specs.declared.operations.Reply.TheVariants.{Value, Full, Missing, NoOperation}

-- the words of a kind and two numbers
unfoldable pub words_with : ℕ → ℕ → ℕ → List ℕ
words_with kind first second = kind ∷ first ∷ second ∷ replicate 141 0

-- the words of an addition and of a reading
abbrev pub add_words : ℕ → ℕ → List ℕ
add_words counter amount = words_with 1 counter amount

abbrev pub reading_words : ℕ → List ℕ
reading_words counter = words_with 2 counter 0

abbrev pub op_words : Op → List ℕ
op_words (Add counter amount) = add_words counter amount
op_words (Read counter) = reading_words counter
op_words Other = words_with 0 0 0

-- the operation that words stand for
abbrev pub op_in : List ℕ → Op
op_in words =
    if slice_index words 0 == 1
    then Add (slice_index words 1) (slice_index words 2)
    else (if slice_index words 0 == 2 then Read (slice_index words 1) else Other)

-- the words of a reply; those of no operation are answered by zeros
abbrev pub reply_words : Reply → List ℕ
reply_words (Value count) = words_with 1 count 0
reply_words Full = words_with 2 0 0
reply_words Missing = words_with 3 0 0
reply_words NoOperation = words_with 0 0 0

-- what the words of a reply tell of it
abbrev pub reply_in : List ℕ → Reply
reply_in words =
    if slice_index words 0 == 1
    then Value (slice_index words 1)
    else (if slice_index words 0 == 2 then Full else (if slice_index words 0 == 3 then Missing else NoOperation))

-- the reply has these words; where there is none, none has
abbrev pub IsCounterReply : List ℕ → Option Reply → Type 0
IsCounterReply words (Some reply) = reply_words reply ≡ words
IsCounterReply words None = (reply : Reply) → Unit {0} → reply_words reply ≢ words
