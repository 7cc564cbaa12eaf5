-- Two replies within the limits that have the same words are one.
use Rattle.std.proofs.Common.{◌≡◌, ◌≤◌, length, get_or, refl, sym, ap, ◌∙◌, arith}
use Rattle.doc_model.specs.Words.{HasWordNumber, IsReply, reply_words}
use Rattle.doc_model.specs.WordParts.{IsShortText, reply_with}
use Rattle.doc_model.specs.declared.operations.Reply.{Reply}
use Rattle.doc_model.specs.declared.operations.Reply.TheVariants.{Doc, Sum, Key, Number, Set, Stale, Revision}
use Rattle.doc_model.proofs.PartPlaces.{carried, key_length_in, document_length_in, parts_same}
use Rattle.doc_model.proofs.ReplyKinds.{reply_again, reply_document, reply_document_text, reply_key, reply_key_text, reply_kind, reply_number, reply_words_are}
use Rattle.doc_model.proofs.WordTexts.{no_text}
use Rattle.doc_store.specs.DocumentMeaning.{IsReplyValue}

-- word 1 of a reply's words is the length of its key
key_length : (reply : Reply) → get_or (reply_words reply) 1 0 ≡ length (reply_key reply)
key_length reply = ap (λ w. get_or w 1 0) (reply_words_are reply) ∙ key_length_in 8 128 (reply_kind reply) (reply_key reply) (reply_document reply) (reply_number reply)

-- word 2 of a reply's words is the length of its document
document_length : (reply : Reply) → get_or (reply_words reply) 2 0 ≡ length (reply_document reply)
document_length reply = ap (λ w. get_or w 2 0) (reply_words_are reply) ∙ document_length_in 8 128 (reply_kind reply) (reply_key reply) (reply_document reply) (reply_number reply)

-- the number of a reply that is a value fits a word
value_number : (reply : Reply) → IsReplyValue reply → HasWordNumber reply
value_number (Sum sum) is = is
value_number (Number number) is = is
value_number (Set revision) is = is
value_number (Stale revision) is = is
value_number (Revision revision) is = is
value_number reply is = tt

-- the key of a reply that is a value is a short text where it has at most 64 bytes
key_bytes : (reply : Reply) → IsReplyValue reply → length (reply_key reply) ≤ 64 → IsShortText 64 (reply_key reply)
key_bytes (Key key) is short = record { short = short; bytes = is }
key_bytes reply is short = no_text 64

-- the document of a reply that is a value is a short text where it has at most 1,024 bytes
document_bytes : (reply : Reply) → IsReplyValue reply → length (reply_document reply) ≤ 1024 → IsShortText 1024 (reply_document reply)
document_bytes (Doc document) is short = record { short = short; bytes = is }
document_bytes reply is short = no_text 1024

-- a reply that has the words of another within the limits is that one
pub same_by_words : (one other : Reply) → IsReplyValue one → IsReply other → HasWordNumber other → reply_words one ≡ reply_words other → one ≡ other
same_by_words one other value is fits same =
    let key_text = reply_key_text other is in
    let document_text = reply_document_text other is in
    let keys : length (reply_key one) ≡ length (reply_key other) = sym (key_length one) ∙ ap (λ w. get_or w 1 0) same ∙ key_length other in
    let documents : length (reply_document one) ≡ length (reply_document other) = sym (document_length one) ∙ ap (λ w. get_or w 2 0) same ∙ document_length other in
    let parts =
    parts_same (reply_kind one) (reply_key one) (reply_document one) (reply_number one) (reply_kind other) (reply_key other) (reply_document other) (reply_number other)
    (key_bytes one value (omega (arith, keys, key_text.short))) (document_bytes one value (omega (arith, documents, document_text.short))) key_text document_text
    (sym (reply_words_are one) ∙ same ∙ reply_words_are other) in
    sym (reply_again one (value_number one value))
    ∙ carried (λ k t d n. reply_with (reply_kind one) (reply_key one) (reply_document one) (reply_number one) ≡ reply_with k t d n) (reply_kind one) (reply_key one) (reply_document one) (reply_number one) (reply_kind other) (reply_key other) (reply_document other) (reply_number other) parts refl
    ∙ reply_again other fits
