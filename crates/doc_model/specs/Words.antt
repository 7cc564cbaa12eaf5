-- Operations and replies as words: a kind, a key, a document and a number.
use Rattle.std.specs.Prelude.{◌≡◌, ◌≢◌, ◌^◌, ◌<◌, ℕ, Bool, ◌&&◌, ◌||◌, ◌==◌, nat_le, List, [], ◌∷◌, ◌++◌, length, FitsSigned}
use Rattle.std.specs.Int.{w64, cast_unsigned}
use Rattle.cx_base.specs.Store.{IsKey, IsDocument}
use Rattle.cx_base.specs.Packing.{packed}
use Rattle.doc_model.specs.Meaning.{IsOp}
use Rattle.doc_model.specs.declared.operations.Op.{Op}
use Rattle.doc_model.specs.declared.operations.Op.TheVariants.{Put, Del, Add, Get, Next, Count, PutIf, Rev}
use Rattle.doc_model.specs.declared.operations.Reply.{Reply}
use Rattle.doc_model.specs.declared.operations.Reply.TheVariants.{New, Replaced, Deleted, Absent, Doc, Sum, NotNumber, Overflow, NoRoom, Key, Number, Set, Stale, Revision}

-- the first eight words
abbrev pub head_words : ℕ → List ℕ → List ℕ → ℕ → List ℕ
head_words kind key document number = kind ∷ length key ∷ length document ∷ number ∷ 0 ∷ 0 ∷ 0 ∷ 0 ∷ []

-- after them the key in `key_words` words, and the document in `document_words`
unfoldable pub words_in : ℕ → ℕ → ℕ → List ℕ → List ℕ → ℕ → List ℕ
words_in key_words document_words kind key document number =
    head_words kind key document number ++ (packed key_words key ++ packed document_words document)

-- the 144 words of a kind, a key, a document and a number
abbrev pub words_with : ℕ → List ℕ → List ℕ → ℕ → List ℕ
words_with kind key document number = words_in 8 128 kind key document number

-- the words of an operation
abbrev pub op_words : Op → List ℕ
op_words (Put key document) = words_with 1 key document 0
op_words (Del key) = words_with 2 key [] 0
op_words (Add key amount) = words_with 3 key [] (cast_unsigned w64 amount)
op_words (Get key) = words_with 4 key [] 0
op_words (Next above) = words_with 5 above [] 0
op_words Count = words_with 6 [] [] 0
op_words (PutIf key revision document) = words_with 7 key document revision
op_words (Rev key) = words_with 8 key [] 0

-- the kinds of the operations that only read
abbrev pub is_reading_kind : ℕ → Bool
is_reading_kind kind = nat_le 4 kind && nat_le kind 6 || kind == 8

-- the words of a reply
abbrev pub reply_words : Reply → List ℕ
reply_words New = words_with 1 [] [] 0
reply_words Replaced = words_with 2 [] [] 0
reply_words Deleted = words_with 3 [] [] 0
reply_words Absent = words_with 4 [] [] 0
reply_words (Doc document) = words_with 5 [] document 0
reply_words (Sum sum) = words_with 6 [] [] (cast_unsigned w64 sum)
reply_words NotNumber = words_with 7 [] [] 0
reply_words Overflow = words_with 8 [] [] 0
reply_words NoRoom = words_with 9 [] [] 0
reply_words (Key key) = words_with 10 key [] 0
reply_words (Number number) = words_with 11 [] [] number
reply_words (Set revision) = words_with 12 [] [] revision
reply_words (Stale revision) = words_with 13 [] [] revision
reply_words (Revision revision) = words_with 14 [] [] revision

-- a reply whose key or document is within the limits
abbrev pub IsReply : Reply → Type 0
IsReply (Doc document) = IsDocument document
IsReply (Key key) = IsKey key
IsReply _ = Unit {0}

-- the amount of an operation is a 64-bit integer and its revision has 64 bits, as each of the program does
abbrev pub HasIntegerAmount : Op → Type 0
HasIntegerAmount (Add key amount) = FitsSigned w64 amount
HasIntegerAmount (PutIf key revision document) = revision < 2 ^ 64
HasIntegerAmount _ = Unit {0}

-- the number of a reply has 64 bits
abbrev pub HasWordNumber : Reply → Type 0
HasWordNumber (Sum sum) = FitsSigned w64 sum
HasWordNumber (Number number) = number < 2 ^ 64
HasWordNumber (Set revision) = revision < 2 ^ 64
HasWordNumber (Stale revision) = revision < 2 ^ 64
HasWordNumber (Revision revision) = revision < 2 ^ 64
HasWordNumber _ = Unit {0}

-- an operation within the limits, which has these words
pub record IsOpOf (words : List ℕ) (op : Op) : Type 0 where
  pub limits : IsOp op
  pub amount : HasIntegerAmount op
  pub has : op_words op ≡ words

-- some operation is one of these words
pub record AreOfAnOp (words : List ℕ) : Type 0 where
  pub op : Op
  pub is : IsOpOf words op

-- no operation within the limits has these words
abbrev pub AreOfNoOp : List ℕ → Type 0
AreOfNoOp words = (op : Op) → IsOp op → HasIntegerAmount op → op_words op ≢ words

-- no reply within the limits has these words
abbrev pub AreOfNoReply : List ℕ → Type 0
AreOfNoReply words = (reply : Reply) → IsReply reply → HasWordNumber reply → reply_words reply ≢ words
