-- Operations and replies as 144 words each: a kind, and what the kind uses, with zeros behind it.
use Rattle.std.specs.Prelude.{◌==◌, ℕ, List, ◌∷◌, replicate, slice_index, if◌then◌else◌}
use Rattle.bank.specs.declared.operations.Op.{Op}
use Rattle.bank.specs.declared.operations.Op.TheVariants.{Transfer, Balance, Audit, Other}
use Rattle.bank.specs.declared.operations.Reply.{Reply}
use Rattle.bank.specs.declared.operations.Reply.TheVariants.{Moved, Overdraft, Value, Missing, NoOperation}

-- the words of a kind and three numbers
unfoldable pub words_with : ℕ → ℕ → ℕ → ℕ → List ℕ
words_with kind first second third = kind ∷ first ∷ second ∷ third ∷ replicate 140 0

-- the words of an operation, and the operation that words stand for
abbrev pub op_words : Op → List ℕ
op_words (Transfer from to amount) = words_with 1 from to amount
op_words (Balance account) = words_with 2 account 0 0
op_words Audit = words_with 3 0 0 0
op_words Other = words_with 0 0 0 0

abbrev pub op_in : List ℕ → Op
op_in words =
    if slice_index words 0 == 1
    then Transfer (slice_index words 1) (slice_index words 2) (slice_index words 3)
    else (if slice_index words 0 == 2 then Balance (slice_index words 1) else (if slice_index words 0 == 3 then Audit else Other))

-- the words of a reply, and what the words of a reply tell; those of no operation are answered by zeros
abbrev pub reply_words : Reply → List ℕ
reply_words Moved = words_with 1 0 0 0
reply_words (Overdraft has) = words_with 2 has 0 0
reply_words (Value has) = words_with 3 has 0 0
reply_words Missing = words_with 4 0 0 0
reply_words NoOperation = words_with 0 0 0 0

abbrev pub reply_in : List ℕ → Reply
reply_in words =
    if slice_index words 0 == 1
    then Moved
    else (if slice_index words 0 == 2
    then Overdraft (slice_index words 1)
    else (if slice_index words 0 == 3 then Value (slice_index words 1) else (if slice_index words 0 == 4 then Missing else NoOperation)))
