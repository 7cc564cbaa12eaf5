-- Operations and replies as 144 words each: a kind, and what the kind uses, with zeros behind it.
use Rattle.std.specs.Prelude.{◌≡◌, ◌==◌, ℕ, List, ◌∷◌, replicate, slice_index, if◌then◌else◌, refl}
use Rattle.object_to_copy.specs.declared.operations.Op.{Op}
use Rattle.object_to_copy.specs.declared.operations.Op.TheVariants.{Raise, Read, Other}
use Rattle.object_to_copy.specs.declared.operations.Reply.{Reply}
use Rattle.object_to_copy.specs.declared.operations.Reply.TheVariants.{Value, NoOperation}

-- the words of a kind and two numbers
unfoldable pub words_with : ℕ → ℕ → ℕ → List ℕ
words_with kind first second = kind ∷ first ∷ second ∷ replicate 141 0

-- the words of an operation, and the operation that words stand for
abbrev pub op_words : Op → List ℕ
op_words (Raise to) = words_with 1 to 0
op_words Read = words_with 2 0 0
op_words Other = words_with 0 0 0

abbrev pub op_in : List ℕ → Op
op_in words =
    if slice_index words 0 == 1
    then Raise (slice_index words 1)
    else (if slice_index words 0 == 2 then Read else Other)

-- the words of a reply, and what the words of a reply tell; those of no operation are answered by zeros
abbrev pub reply_words : Reply → List ℕ
reply_words (Value number) = words_with 1 number 0
reply_words NoOperation = words_with 0 0 0

abbrev pub reply_in : List ℕ → Reply
reply_in words = if slice_index words 0 == 1 then Value (slice_index words 1) else NoOperation

-- both are read back
pub op_is_read : (op : Op) → op_in (op_words op) ≡ op
unfolding words_with
op_is_read (Raise to) = refl
op_is_read Read = refl
op_is_read Other = refl

pub reply_is_read : (reply : Reply) → reply_in (reply_words reply) ≡ reply
unfolding words_with
reply_is_read (Value number) = refl
reply_is_read NoOperation = refl
