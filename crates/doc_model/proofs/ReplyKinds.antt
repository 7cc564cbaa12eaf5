-- Which parts replies have.
use Rattle.std.proofs.Common.{leb, cond, eqb, ◌≡◌, ℕ, ◌^◌, ◌<◌, Bool, true, false, ◌&&◌, ◌||◌, ◌==◌, List, [], length, All, refl, sym, ap, ap₂, ◌∙◌, subst, arith}
use borrow.Author.Gap.{read_sfits}
use Rattle.std.specs.Int.{w64, cast_unsigned}
use Rattle.std.proofs.lemmas.Int.{to_z-of_z, of_z-to_z, ints}
use Rattle.std.proofs.lemmas.List.{nil_from_length}
use Rattle.std.proofs.lemmas.Bool.{false≢true, and_parts, and_from, eqb-true, both_ways}
use Rattle.std.proofs.lemmas.Bool.Decides.{nat_tests}
use Rattle.doc_model.specs.Words.{words_with, reply_words, IsReply, HasWordNumber, AreOfNoReply}
use Rattle.doc_model.specs.WordParts.{IsShortText, is_key, is_document, has_key_only, has_no_text, has_reply, reply_with}
use Rattle.doc_model.specs.declared.operations.Reply.{Reply}
use Rattle.doc_model.specs.declared.operations.Reply.TheVariants.{New, Replaced, Deleted, Absent, Doc, Sum, NotNumber, Overflow, NoRoom, Key, Number, Set, Stale, Revision}
use Rattle.doc_model.proofs.PartPlaces.{parts_same, carried, length-words, words_fit}
use Rattle.doc_model.proofs.WordTexts.{below, key_passes, document_from_test, document_passes, no_text, key_text, document_text, only_key, neither}

reply_kind_small : (kind : ℕ) (a b c e f : Bool) →
    cond (eqb kind 5) a (cond (eqb kind 10) b (cond (eqb kind 6 || (leb 11 kind && leb kind 14)) c (((leb 1 kind && leb kind 9) && e) && f))) ≡ true → kind < 15
reply_kind_small kind a b c e f passes = grind (arith, nat_tests)

-- a reply that is within the limits and has these words
pub record IsReplyOf (words : List ℕ) (reply : Reply) : Type 0 where
  pub limits : IsReply reply
  pub number : HasWordNumber reply
  pub has : reply_words reply ≡ words

module _ (key document : List ℕ) (number : ℕ) (small : number < 2 ^ 64) (document_is : IsShortText 1024 document) where
  abbrev Read : ℕ → Type 0
  Read kind = has_reply kind key document number ≡ true → IsReplyOf (words_with kind key document number) (reply_with kind key document number)

  plain_words : (kind : ℕ) → (has_no_text key document && number == 0) ≡ true → words_with kind [] [] 0 ≡ words_with kind key document number
  plain_words kind passes =
      let parts = and_parts (has_no_text key document) (number == 0) passes in
      let texts = neither key document parts.0 in
      let key_is = texts.0 in
      let document_is = texts.1 in
      let number_is = eqb-true number 0 parts.1 in
      cc

  read_document : Read 5
  read_document passes =
      let parts = and_parts (length key == 0 && is_document document) (number == 0) passes in
      let texts = and_parts (length key == 0) (is_document document) parts.0 in
      let key_is = nil_from_length key (eqb-true (length key) 0 texts.0) in
      let number_is = eqb-true number 0 parts.1 in
      record { limits = document_from_test document document_is texts.1; number = tt; has = cc }

  read_sum : Read 6
  read_sum passes =
      let texts = neither key document passes in
      let key_is = texts.0 in
      let document_is = texts.1 in
      let back = of_z-to_z w64 number small in
      record { limits = tt; number = read_sfits w64 number; has = ap (words_with 6 [] []) back ∙ ap₂ (λ k d. words_with 6 k d number) (sym key_is) (sym document_is) }

  read_key : Read 10
  read_key passes =
      let parts = and_parts (has_key_only key document) (number == 0) passes in
      let texts = only_key key document parts.0 in
      record { limits = texts.0; number = tt; has = ap₂ (words_with 10 key) (sym texts.1) (sym (eqb-true number 0 parts.1)) }

  numbered : (kind : ℕ) → has_no_text key document ≡ true → words_with kind [] [] number ≡ words_with kind key document number
  numbered kind passes =
      let texts = neither key document passes in
      ap₂ (λ k d. words_with kind k d number) (sym texts.0) (sym texts.1)

  pub reply_read : (kind : ℕ) → Read kind
  reply_read kind passes =
      let plain : (kind : ℕ) → (has_no_text key document && number == 0) ≡ true → words_with kind [] [] 0 ≡ words_with kind key document number = plain_words in
      below Read 15 (
        (
          (
            (
              (
                (
                  (
                    (
                      (
                        (
                          (
                            (
                              (
                                (
                                  (
                                    tt,
                                    λ no. absurd (false≢true no),
                                  ),
                                  λ p. record { limits = tt; number = tt; has = plain 1 p },
                                ),
                                λ p. record { limits = tt; number = tt; has = plain 2 p },
                              ),
                              λ p. record { limits = tt; number = tt; has = plain 3 p },
                            ),
                            λ p. record { limits = tt; number = tt; has = plain 4 p },
                          ),
                          read_document,
                        ),
                        read_sum,
                      ),
                      λ p. record { limits = tt; number = tt; has = plain 7 p },
                    ),
                    λ p. record { limits = tt; number = tt; has = plain 8 p },
                  ),
                  λ p. record { limits = tt; number = tt; has = plain 9 p },
                ),
                read_key,
              ),
              λ p. record { limits = tt; number = small; has = numbered 11 p },
            ),
            λ p. record { limits = tt; number = small; has = numbered 12 p },
          ),
          λ p. record { limits = tt; number = small; has = numbered 13 p },
        ),
        λ p. record { limits = tt; number = small; has = numbered 14 p },
      ) kind
      (reply_kind_small kind ((length key == 0 && is_document document) && number == 0) (has_key_only key document && number == 0) (has_no_text key document) (has_no_text key document) (number == 0) passes)
      passes

-- the parts of a reply
abbrev pub reply_kind : Reply → ℕ
reply_kind New = 1
reply_kind Replaced = 2
reply_kind Deleted = 3
reply_kind Absent = 4
reply_kind (Doc document) = 5
reply_kind (Sum sum) = 6
reply_kind NotNumber = 7
reply_kind Overflow = 8
reply_kind NoRoom = 9
reply_kind (Key key) = 10
reply_kind (Number number) = 11
reply_kind (Set revision) = 12
reply_kind (Stale revision) = 13
reply_kind (Revision revision) = 14

abbrev pub reply_key : Reply → List ℕ
reply_key (Key key) = key
reply_key _ = []

abbrev pub reply_document : Reply → List ℕ
reply_document (Doc document) = document
reply_document _ = []

abbrev pub reply_number : Reply → ℕ
reply_number (Sum sum) = cast_unsigned w64 sum
reply_number (Number number) = number
reply_number (Set revision) = revision
reply_number (Stale revision) = revision
reply_number (Revision revision) = revision
reply_number _ = 0

pub reply_words_are : (reply : Reply) → reply_words reply ≡ words_with (reply_kind reply) (reply_key reply) (reply_document reply) (reply_number reply)
reply_words_are New = refl
reply_words_are reply = refl

pub reply_key_text : (reply : Reply) → IsReply reply → IsShortText 64 (reply_key reply)
reply_key_text (Key key) is = key_text key is
reply_key_text _ is = no_text 64

pub reply_document_text : (reply : Reply) → IsReply reply → IsShortText 1024 (reply_document reply)
reply_document_text (Doc document) is = document_text document is
reply_document_text _ is = no_text 1024

-- the parts of a reply pass the test of being a reply's
pub reply_has : (reply : Reply) → IsReply reply → has_reply (reply_kind reply) (reply_key reply) (reply_document reply) (reply_number reply) ≡ true
reply_has (Doc document) is = and_from (true && is_document document) true (document_passes document is) refl
reply_has (Key key) is = and_from (has_key_only key []) true (and_from (is_key key) true (key_passes key is) refl) refl
reply_has reply is = refl

-- the reply with the parts of a reply is that reply
pub reply_again : (reply : Reply) → HasWordNumber reply → reply_with (reply_kind reply) (reply_key reply) (reply_document reply) (reply_number reply) ≡ reply
reply_again (Sum sum) fits = ap Sum (to_z-of_z w64 sum fits)
reply_again reply fits = refl

-- a reply is read from words that it has
pub reply_known : (kind : ℕ) (key document : List ℕ) (number : ℕ) → IsShortText 64 key → IsShortText 1024 document →
    (reply : Reply) → IsReply reply → HasWordNumber reply → reply_words reply ≡ words_with kind key document number →
    (has_reply kind key document number ≡ true) × (reply_with kind key document number ≡ reply)
reply_known kind key document number key_is document_is reply is fits has =
    let same =
    parts_same (reply_kind reply) (reply_key reply) (reply_document reply) (reply_number reply) kind key document number
    (reply_key_text reply is) (reply_document_text reply is) key_is document_is (sym (reply_words_are reply) ∙ has) in
    carried (λ k t d n. (has_reply k t d n ≡ true) × (reply_with k t d n ≡ reply)) (reply_kind reply) (reply_key reply) (reply_document reply) (reply_number reply) kind key document number same
    (reply_has reply is, reply_again reply fits)

-- two replies that have the same words are the same
pub replies_same : (one other : Reply) → IsReply one → HasWordNumber one → IsReply other → HasWordNumber other → reply_words one ≡ reply_words other → one ≡ other
replies_same one other one_is one_fits other_is other_fits same =
    sym (reply_known (reply_kind other) (reply_key other) (reply_document other) (reply_number other) (reply_key_text other other_is) (reply_document_text other other_is)
    one one_is one_fits (same ∙ reply_words_are other)).1
    ∙ reply_again other other_fits

-- of which reply, if any, words with these parts are the words
module _ (words : List ℕ) (kind : ℕ) (key document : List ℕ) (number : ℕ) (are : words ≡ words_with kind key document number)
    (small : number < 2 ^ 64) (key_is : IsShortText 64 key) (document_is : IsShortText 1024 document) where
  pub reply_found : (reply : Reply) → has_reply kind key document number ≡ true → reply ≡ reply_with kind key document number → IsReplyOf words reply
  reply_found reply passes is =
      let read = reply_read key document number small document_is kind passes in
      subst (IsReplyOf words) (sym is) (record { limits = read.limits; number = read.number; has = read.has ∙ sym are })

  pub reply_only : (reply : Reply) → IsReply reply → HasWordNumber reply → reply_words reply ≡ words → reply_with kind key document number ≡ reply
  reply_only reply is fits has = (reply_known kind key document number key_is document_is reply is fits (has ∙ are)).1

  pub reply_none : has_reply kind key document number ≡ false → AreOfNoReply words
  reply_none fails reply is fits has = both_ways (has_reply kind key document number) fails (reply_known kind key document number key_is document_is reply is fits (has ∙ are)).0

number_small : (reply : Reply) → HasWordNumber reply → reply_number reply < 2 ^ 64
number_small (Sum sum) fits = omega (arith, ints)
number_small (Number number) fits = fits
number_small (Set revision) fits = fits
number_small (Stale revision) fits = fits
number_small (Revision revision) fits = fits
number_small reply fits = omega arith

kind_small : (reply : Reply) → reply_kind reply < 2 ^ 64
kind_small New = omega arith
kind_small reply = omega arith

pub reply_words_fit : (reply : Reply) → IsReply reply → HasWordNumber reply → (length (reply_words reply) ≡ 144) × All (λ w. w < 2 ^ 64) (reply_words reply)
reply_words_fit reply is fits =
    let Fit : List ℕ → Type 0 = λ words. (length words ≡ 144) × All (λ w. w < 2 ^ 64) words in
    subst Fit (sym (reply_words_are reply)) (
      length-words 8 128 (reply_kind reply) (reply_key reply) (reply_document reply) (reply_number reply),
      words_fit 8 128 (reply_kind reply) (reply_key reply) (reply_document reply) (reply_number reply) (kind_small reply) (reply_key_text reply is) (reply_document_text reply is) (omega arith) (omega arith) (number_small reply fits),
    )
