-- How a command is read, or why it is refused.
use Rattle.std.specs.Prelude.{ℕ, ℤ, List, [], codes, Option, None, Some, is_some, Result, Ok, Err, if◌then◌else◌}
use Rattle.plain_text.specs.Number.{integer_of, number_of}
use Rattle.plain_text.specs.Words.{first_word, rest_of, is_word}
use Rattle.doc_model.specs.WordParts.{is_key}
use Rattle.doc_model.specs.declared.operations.Op.{Op}
use Rattle.doc_model.specs.declared.operations.Op.TheVariants.{Put, Del, Add, Get, Next, Count, PutIf, Rev}
use Rattle.script_text.specs.Reading.{then_ok}
use Rattle.doc_text.specs.Document.{document_of}
use Rattle.doc_text.specs.declared.script_parts.Reason.{Reason}
use Rattle.doc_text.specs.declared.script_parts.Reason.TheVariants as reasons
use Rattle.doc_text.specs.declared.commands.Verb.{Verb}
use Rattle.doc_text.specs.declared.commands.Verb.TheVariants as verbs

-- the command that a word names
unfoldable pub verb_of : List ℕ → Option Verb
verb_of word =
    if is_word (codes "put") word then Some verbs.Put
    else if is_word (codes "del") word then Some verbs.Del
    else if is_word (codes "add") word then Some verbs.Add
    else if is_word (codes "get") word then Some verbs.Get
    else if is_word (codes "next") word then Some verbs.Next
    else if is_word (codes "count") word then Some verbs.Count
    else if is_word (codes "putif") word then Some verbs.PutIf
    else if is_word (codes "rev") word then Some verbs.Rev
    else None

-- the key that is the only word left
abbrev pub only_key : List ℕ → Result (List ℕ) Reason
only_key text = if is_some (rest_of text) then Err reasons.Command else (if is_key text then Ok text else Err reasons.Key)

-- what a put asks for: a key, and JSON to the end of the line
abbrev pub put_with : List ℕ → Option (List ℕ) → Result Op Reason
put_with key None = Err reasons.Command
put_with key (Some json) = if is_key key then then_ok (Put key) (document_of json) else Err reasons.Key

-- what an addition to a key asks for, by the integer that its amount is
abbrev pub add_amount : List ℕ → Option ℤ → Result Op Reason
add_amount key None = Err reasons.Number
add_amount key (Some amount) = Ok (Add key amount)

-- what an addition asks for: a key and an amount
abbrev pub add_with : List ℕ → Option (List ℕ) → Result Op Reason
add_with key None = Err reasons.Command
add_with key (Some text) =
    if is_some (rest_of text) then Err reasons.Command
    else (if is_key key then add_amount key (integer_of text) else Err reasons.Key)

-- what a put on condition at a key asks for, by the number that its revision is and its JSON
abbrev pub put_if_at : List ℕ → Option ℕ → List ℕ → Result Op Reason
put_if_at key None json = Err reasons.Number
put_if_at key (Some revision) json = then_ok (PutIf key revision) (document_of json)

-- what a put on condition asks for, by the words for key and revision and its JSON
abbrev pub put_if_by : List ℕ → List ℕ → Option (List ℕ) → Result Op Reason
put_if_by key revision None = Err reasons.Command
put_if_by key revision (Some json) = if is_key key then put_if_at key (number_of revision) json else Err reasons.Key

-- what a put on condition asks for: a key, a revision, and JSON to the end of the line
abbrev pub put_if_with : List ℕ → Option (List ℕ) → Result Op Reason
put_if_with key None = Err reasons.Command
put_if_with key (Some text) = put_if_by key (first_word text) (rest_of text)

-- what a command asks for, by its verb and what stands behind it
abbrev pub op_by_verb : Option Verb → Option (List ℕ) → Result Op Reason
op_by_verb None words = Err reasons.Command
op_by_verb (Some verbs.Put) None = Err reasons.Command
op_by_verb (Some verbs.Put) (Some text) = put_with (first_word text) (rest_of text)
op_by_verb (Some verbs.Del) None = Err reasons.Command
op_by_verb (Some verbs.Del) (Some text) = then_ok Del (only_key text)
op_by_verb (Some verbs.Add) None = Err reasons.Command
op_by_verb (Some verbs.Add) (Some text) = add_with (first_word text) (rest_of text)
op_by_verb (Some verbs.Get) None = Err reasons.Command
op_by_verb (Some verbs.Get) (Some text) = then_ok Get (only_key text)
op_by_verb (Some verbs.Next) None = Ok (Next [])
op_by_verb (Some verbs.Next) (Some text) = then_ok Next (only_key text)
op_by_verb (Some verbs.Count) None = Ok Count
op_by_verb (Some verbs.Count) (Some text) = Err reasons.Command
op_by_verb (Some verbs.PutIf) None = Err reasons.Command
op_by_verb (Some verbs.PutIf) (Some text) = put_if_with (first_word text) (rest_of text)
op_by_verb (Some verbs.Rev) None = Err reasons.Command
op_by_verb (Some verbs.Rev) (Some text) = then_ok Rev (only_key text)

-- what is asked for by the words behind the client
abbrev pub asked_op : Option (List ℕ) → Result Op Reason
asked_op None = Err reasons.Command
asked_op (Some text) = op_by_verb (verb_of (first_word text)) (rest_of text)
