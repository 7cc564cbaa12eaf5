-- Why a command is refused: the first reason of a table that fits.
use Rattle.std.specs.Prelude.{ℕ, Bool, false, not, List, [], ◌∷◌, Option, None, Some, is_some, option_and_then}
use Rattle.std.specs.Option.{option_map_or}
use Rattle.plain_text.specs.Words.{first_word, rest_of}
use Rattle.fifo_object.specs.Words.{is_text}
use Rattle.script_text.specs.Grammar.{Row}
use Rattle.fifo_commands.specs.Reading.{queue_verb_of}
use Rattle.fifo_commands.specs.declared.commands.Verb.{Verb}
use Rattle.fifo_commands.specs.declared.commands.Verb.TheVariants as verbs
use Rattle.fifo_commands.specs.declared.reasons.FifoReason.{FifoReason}
use Rattle.fifo_commands.specs.declared.reasons.FifoReason.TheVariants as reasons

-- whether the text is one word alone
abbrev pub is_single_word : List ℕ → Bool
is_single_word text = not (is_some (rest_of text))

-- whether the words behind the verb are as many as it takes
abbrev pub has_queue_words : Option Verb → Option (List ℕ) → Bool
has_queue_words None words = false
has_queue_words (Some verbs.Push) words = option_map_or is_single_word words false
has_queue_words _ words = not (is_some words)

-- whether the word behind the verb is no text
abbrev pub has_no_queue_text : Option (List ℕ) → Bool
has_no_queue_text words = option_map_or (λ text. not (is_text text)) words false

-- why the words behind a verb are refused: there are not as many as it takes, or the word is no text
abbrev pub queue_word_rows : Option Verb → Option (List ℕ) → List (Row FifoReason)
queue_word_rows verb words = (not (has_queue_words verb words), reasons.Command) ∷ (has_no_queue_text words, reasons.Text) ∷ []

-- why a command on a queue is refused: by its first word, the verb, and what stands behind it
abbrev pub queue_command_rows : Option (List ℕ) → List (Row FifoReason)
queue_command_rows text = queue_word_rows (option_and_then (λ t. queue_verb_of (first_word t)) text) (option_and_then rest_of text)
