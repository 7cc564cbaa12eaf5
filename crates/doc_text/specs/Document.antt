-- What a document may be: JSON, kept as its compact text.
use Rattle.std.specs.Prelude.{◌≡◌, ◌≤◌, ℕ, false, nat_le, List, length, Option, None, Some, Result, Ok, Err, if◌then◌else◌}
use Rattle.serde_json.specs.Data.{Data}
use Rattle.serde_json.specs.Read.{read as read_json}
use Rattle.serde_json.specs.Written.{has_float, compact_text}
use Rattle.doc_text.specs.declared.script_parts.Reason.{Reason}
use Rattle.doc_text.specs.declared.script_parts.Reason.TheVariants.{Json, Fraction, Long}

-- The text is JSON that is kept as this document: it is read as a value in which each number is an integer of 64 bits,
-- and the document is the compact text of the value, 1,024 bytes at most.
pub record IsJsonOf (text document : List ℕ) : Type 0 where
  pub value : Data
  pub is_read : read_json text ≡ Some value
  pub integers : has_float value ≡ false
  pub compact : document ≡ compact_text value
  pub short : length document ≤ 1024

-- the document that a value is kept as, or why it is none
abbrev pub kept_as : Option Data → Result (List ℕ) Reason
kept_as None = Err Json
kept_as (Some value) =
    if has_float value then Err Fraction
    else (if nat_le (length (compact_text value)) 1024 then Ok (compact_text value) else Err Long)

-- the document of a text
abbrev pub document_of : List ℕ → Result (List ℕ) Reason
document_of text = kept_as (read_json text)
