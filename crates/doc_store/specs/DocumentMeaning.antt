-- What the operations of the document store mean over a store of pairs with revisions, and how they and their replies stand in words.
use Rattle.std.specs.Prelude.{◌^◌, ◌<◌, ℕ, length, All, FitsSigned}
use Rattle.std.specs.Int.{w64}
use Rattle.doc_model.specs.Meaning.{IsOp, only_reads, reply_to, store_after}
use Rattle.doc_model.specs.Revisions.{RevisedStore, empty_store}
use Rattle.doc_model.specs.Words.{HasIntegerAmount, HasWordNumber, IsReply, op_words, reply_words}
use Rattle.doc_model.specs.declared.operations.Op.{Op}
use Rattle.doc_model.specs.declared.operations.Reply.{Reply}
use Rattle.doc_model.specs.declared.operations.Reply.TheVariants.{Doc, Sum, Key, Number, Set, Stale, Revision}
use Rattle.index_validation.specs.Reading.{StandsForRevised}
use Rattle.typed_object.specs.Meaning.{Encoding, Meaning}

-- a reply whose text, if it has one, has bytes, and whose number, if it has one, has 64 bits
abbrev pub IsReplyValue : Reply → Type 0
IsReplyValue (Doc document) = All (λ b. b < 256) document
IsReplyValue (Sum sum) = FitsSigned w64 sum
IsReplyValue (Key key) = All (λ b. b < 256) key
IsReplyValue (Number number) = number < 2 ^ 64
IsReplyValue (Set revision) = revision < 2 ^ 64
IsReplyValue (Stale revision) = revision < 2 ^ 64
IsReplyValue (Revision revision) = revision < 2 ^ 64
IsReplyValue _ = Unit {0}

-- a reply within the limits, whose number has 64 bits
pub record IsWholeReply (reply : Reply) : Type 0 where
  pub limits : IsReply reply
  pub number : HasWordNumber reply

-- the words of operations and of replies
abbrev pub document_encoding : Encoding Op Reply
document_encoding = record { op_words = op_words; reply_words = reply_words }

-- what the operations mean in the given number of lines
abbrev pub document_meaning : ℕ → Meaning Op Reply RevisedStore
document_meaning lines = record {
  encoding = document_encoding;
  is_reading = only_reads;
  reply_to = reply_to lines;
  store_after = store_after lines;
  opening = empty_store;
  items = λ store. length store.triples;
  stands = StandsForRevised;
  is_op = IsOp;
  is_op_value = HasIntegerAmount;
  is_reply = IsWholeReply;
  is_reply_value = IsReplyValue;
}
