-- Why a command is refused: the first reason of a table that fits.
use Rattle.std.specs.Prelude.{ℕ, Bool, true, false, not, nat_lt, List, [], ◌∷◌, length, Option, None, Some, is_some, option_and_then}
use Rattle.std.specs.Option.{option_map_or}
use Rattle.plain_text.specs.Number.{integer_of, number_of}
use Rattle.plain_text.specs.Words.{first_word, rest_of}
use Rattle.serde_json.specs.Read.{read as read_json}
use Rattle.serde_json.specs.Written.{has_float, compact_text}
use Rattle.doc_model.specs.WordParts.{is_key}
use Rattle.script_text.specs.Grammar.{Row}
use Rattle.doc_text.specs.Reading.{verb_of}
use Rattle.doc_text.specs.declared.script_parts.Reason.{Reason}
use Rattle.doc_text.specs.declared.script_parts.Reason.TheVariants as reasons
use Rattle.doc_text.specs.declared.commands.Verb.{Verb}
use Rattle.doc_text.specs.declared.commands.Verb.TheVariants as verbs

-- whether the text is one word alone
abbrev pub is_one_word : List ℕ → Bool
is_one_word text = not (is_some (rest_of text))

-- what stands behind the key
abbrev pub behind_key : Option (List ℕ) → Option (List ℕ)
behind_key words = option_and_then rest_of words

-- what stands behind the key and the word after it
abbrev pub behind_two : Option (List ℕ) → Option (List ℕ)
behind_two words = option_and_then rest_of (behind_key words)

-- whether the words behind the verb are as many as it takes; JSON goes on to the end of the line
abbrev pub has_words : Option Verb → Option (List ℕ) → Bool
has_words None words = false
has_words (Some verbs.Put) words = is_some (behind_key words)
has_words (Some verbs.PutIf) words = is_some (behind_two words)
has_words (Some verbs.Add) words = option_map_or is_one_word (behind_key words) false
has_words (Some verbs.Next) words = option_map_or is_one_word words true
has_words (Some verbs.Count) words = not (is_some words)
has_words _ words = option_map_or is_one_word words false

-- whether the word behind the verb is no key
abbrev pub has_no_key : Option (List ℕ) → Bool
has_no_key words = option_map_or (λ text. not (is_key (first_word text))) words false

-- whether the amount of an addition is no integer
abbrev pub is_no_integer : List ℕ → Bool
is_no_integer amount = not (is_some (integer_of amount))

-- whether the revision of a put is no number
abbrev pub is_no_revision : List ℕ → Bool
is_no_revision text = not (is_some (number_of (first_word text)))

-- whether the amount of an addition is no integer, or the revision of a put no number
abbrev pub has_no_number : Option Verb → Option (List ℕ) → Bool
has_no_number (Some verbs.Add) words = option_map_or is_no_integer (behind_key words) false
has_no_number (Some verbs.PutIf) words = option_map_or is_no_revision (behind_key words) false
has_no_number _ words = false

-- the JSON of a put
abbrev pub json_in : Option Verb → Option (List ℕ) → Option (List ℕ)
json_in (Some verbs.Put) words = behind_key words
json_in (Some verbs.PutIf) words = behind_two words
json_in _ words = None

-- whether a text is no JSON value
abbrev pub is_no_value : List ℕ → Bool
is_no_value json = not (is_some (read_json json))

-- whether a text is a JSON value some number of which is no 64-bit integer
abbrev pub has_fraction : List ℕ → Bool
has_fraction json = option_map_or has_float (read_json json) false

-- whether a text is a JSON value whose compact text has more than 1,024 bytes
abbrev pub is_too_long : List ℕ → Bool
is_too_long json = option_map_or (λ value. nat_lt 1024 (length (compact_text value))) (read_json json) false

-- the reasons to refuse a command, by its verb and what stands behind it, each with whether it fits
abbrev pub word_rows : Option Verb → Option (List ℕ) → List (Row Reason)
word_rows verb words =
    (not (has_words verb words), reasons.Command)
    ∷ (has_no_key words, reasons.Key)
    ∷ (has_no_number verb words, reasons.Number)
    ∷ (option_map_or is_no_value (json_in verb words) false, reasons.Json)
    ∷ (option_map_or has_fraction (json_in verb words) false, reasons.Fraction)
    ∷ (option_map_or is_too_long (json_in verb words) false, reasons.Long)
    ∷ []

-- the reasons to refuse a command, by its words behind the client, each with whether it fits
abbrev pub command_rows : Option (List ℕ) → List (Row Reason)
command_rows text = word_rows (option_and_then (λ t. verb_of (first_word t)) text) (option_and_then rest_of text)
