-- The parts of words, and which of them are an operation's or a reply's.
use Rattle.std.specs.Prelude.{◌≡◌, ◌≢◌, ◌≤◌, ◌<◌, ℕ, Bool, ◌&&◌, ◌||◌, ◌==◌, nat_le, min, List, length, slice_index, take, drop, All, if◌then◌else◌}
use Rattle.std.specs.List.{list_all}
use Rattle.std.specs.Int.{w64, cast_signed}
use Rattle.cx_base.specs.Packing.{byte_at, unpacked}
use Rattle.doc_model.specs.Words.{words_with}
use Rattle.doc_model.specs.declared.operations.Op.{Op}
use Rattle.doc_model.specs.declared.operations.Op.TheVariants.{Put, Del, Add, Get, Next, Count, PutIf, Rev}
use Rattle.doc_model.specs.declared.operations.Reply.{Reply}
use Rattle.doc_model.specs.declared.operations.Reply.TheVariants.{New, Replaced, Deleted, Absent, Doc, Sum, NotNumber, Overflow, NoRoom, Key, Number, Set, Stale, Revision}

-- from one number to another
abbrev pub IsBetween : ℕ → ℕ → ℕ → Type 0
IsBetween least most n = (least ≤ n) × (n ≤ most)

-- the bytes of words behind the first ones are 0
abbrev pub IsPadded : ℕ → List ℕ → Type 0
IsPadded len words = (i : ℕ) → len ≤ i → byte_at words i ≡ 0

-- the key and the document that stand in words
abbrev pub key_of : List ℕ → List ℕ
key_of words = unpacked (min (slice_index words 1) 64) (take 8 (drop 8 words))

abbrev pub document_in : List ℕ → List ℕ
document_in words = unpacked (min (slice_index words 2) 1024) (take 128 (drop 16 words))

-- bytes, at most `most` of them
pub record IsShortText (most : ℕ) (text : List ℕ) : Type 0 where
  pub short : length text ≤ most
  pub bytes : All (λ b. b < 256) text

-- the parts that stand in words have them
abbrev pub HaveParts : List ℕ → Type 0
HaveParts words = words ≡ words_with (slice_index words 0) (key_of words) (document_in words) (slice_index words 3)

-- no parts have them
abbrev pub HaveNoParts : List ℕ → Type 0
HaveNoParts words = (kind number : ℕ) (key document : List ℕ) → IsShortText 64 key → IsShortText 1024 document → words ≢ words_with kind key document number

-- the tests of a key and of a document
abbrev pub is_key : List ℕ → Bool
is_key key = nat_le 1 (length key) && nat_le (length key) 64 && list_all (λ b. nat_le 33 b && nat_le b 126) key

abbrev pub is_document : List ℕ → Bool
is_document document = nat_le 1 (length document) && nat_le (length document) 1024 && list_all (nat_le 32) document

-- there is only a key, or neither key nor document
abbrev pub has_key_only : List ℕ → List ℕ → Bool
has_key_only key document = is_key key && length document == 0

abbrev pub has_no_text : List ℕ → List ℕ → Bool
has_no_text key document = length key == 0 && length document == 0

-- whether an operation has these parts
abbrev pub has_op : ℕ → List ℕ → List ℕ → ℕ → Bool
has_op kind key document number =
    if kind == 1 then is_key key && is_document document && number == 0
    else (if kind == 2 || kind == 4 || kind == 8 then has_key_only key document && number == 0
    else (if kind == 3 then has_key_only key document
    else (if kind == 5 then (has_key_only key document || has_no_text key document) && number == 0
    else (if kind == 7 then is_key key && is_document document
    else kind == 6 && has_no_text key document && number == 0))))

-- the operation that has them
abbrev pub op_with : ℕ → List ℕ → List ℕ → ℕ → Op
op_with kind key document number =
    if kind == 6 then Count
    else (if kind == 1 then Put key document
    else (if kind == 2 then Del key
    else (if kind == 3 then Add key (cast_signed w64 number)
    else (if kind == 4 then Get key
    else (if kind == 5 then Next key
    else (if kind == 7 then PutIf key number document else Rev key))))))

-- whether a reply has these parts
abbrev pub has_reply : ℕ → List ℕ → List ℕ → ℕ → Bool
has_reply kind key document number =
    if kind == 5 then length key == 0 && is_document document && number == 0
    else (if kind == 10 then has_key_only key document && number == 0
    else (if kind == 6 || nat_le 11 kind && nat_le kind 14 then has_no_text key document
    else nat_le 1 kind && nat_le kind 9 && has_no_text key document && number == 0))

-- the reply that has them
abbrev pub reply_with : ℕ → List ℕ → List ℕ → ℕ → Reply
reply_with kind key document number =
    if kind == 1 then New
    else (if kind == 2 then Replaced
    else (if kind == 3 then Deleted
    else (if kind == 4 then Absent
    else (if kind == 5 then Doc document
    else (if kind == 6 then Sum (cast_signed w64 number)
    else (if kind == 7 then NotNumber
    else (if kind == 8 then Overflow
    else (if kind == 9 then NoRoom
    else (if kind == 10 then Key key
    else (if kind == 11 then Number number
    else (if kind == 12 then Set number
    else (if kind == 13 then Stale number else Revision number))))))))))))
