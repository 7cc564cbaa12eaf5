-- How a command is read, or why it is refused.
use Rattle.std.specs.Prelude.{ℕ, List, codes, Option, None, Some, is_some, Result, Ok, Err, if◌then◌else◌}
use Rattle.plain_text.specs.Words.{first_word, rest_of, is_word}
use Rattle.fifo_object.specs.Words.{is_text}
use Rattle.fifo_object.specs.declared.operations.FifoOp.{FifoOp}
use Rattle.fifo_object.specs.declared.operations.FifoOp.TheVariants.{Push, Pop, Peek, Len}
use Rattle.fifo_commands.specs.declared.commands.Verb.{Verb}
use Rattle.fifo_commands.specs.declared.commands.Verb.TheVariants as verbs
use Rattle.fifo_commands.specs.declared.reasons.FifoReason.{FifoReason}
use Rattle.fifo_commands.specs.declared.reasons.FifoReason.TheVariants as reasons

-- the command that a word names
unfoldable pub queue_verb_of : List ℕ → Option Verb
queue_verb_of word =
    if is_word (codes "push") word then Some verbs.Push
    else if is_word (codes "pop") word then Some verbs.Pop
    else if is_word (codes "peek") word then Some verbs.Peek
    else if is_word (codes "len") word then Some verbs.Len
    else None

-- what a push asks for: a text that is the only word left
abbrev pub push_of : List ℕ → Result FifoOp FifoReason
push_of text = if is_some (rest_of text) then Err reasons.Command else (if is_text text then Ok (Push text) else Err reasons.Text)

-- what a command asks for, by its verb and what stands behind it
abbrev pub queue_op_by_verb : Option Verb → Option (List ℕ) → Result FifoOp FifoReason
queue_op_by_verb None words = Err reasons.Command
queue_op_by_verb (Some verbs.Push) None = Err reasons.Command
queue_op_by_verb (Some verbs.Push) (Some text) = push_of text
queue_op_by_verb (Some verbs.Pop) None = Ok Pop
queue_op_by_verb (Some verbs.Pop) (Some text) = Err reasons.Command
queue_op_by_verb (Some verbs.Peek) None = Ok Peek
queue_op_by_verb (Some verbs.Peek) (Some text) = Err reasons.Command
queue_op_by_verb (Some verbs.Len) None = Ok Len
queue_op_by_verb (Some verbs.Len) (Some text) = Err reasons.Command

-- what is asked for by the words behind the client
abbrev pub asked_queue_op : Option (List ℕ) → Result FifoOp FifoReason
asked_queue_op None = Err reasons.Command
asked_queue_op (Some text) = queue_op_by_verb (queue_verb_of (first_word text)) (rest_of text)
