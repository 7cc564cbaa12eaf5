-- Which parts operations have.
use Rattle.std.proofs.Common.{get_or, cond, eqb, ◌⊎◌, inl, inr, ◌≡◌, ℕ, ◌^◌, ◌<◌, Bool, true, false, ◌&&◌, ◌||◌, ◌==◌, List, [], ◌∷◌, length, All, refl, sym, ap, ap₂, ◌∙◌, subst, arith}
use borrow.Author.Gap.{read_sfits}
use Rattle.std.specs.Bool.{MatchBool}
use Rattle.std.specs.Int.{w64, cast_unsigned}
use Rattle.std.proofs.lemmas.Int.{to_z-of_z, of_z-to_z, ints}
use Rattle.std.proofs.lemmas.Bool.{false≢true, and_parts, and_from, or_cases, or_left, eqb-true, both_ways}
use Rattle.std.proofs.lemmas.Bool.Decides.{nat_tests}
use Rattle.cx_base.specs.Store.{IsKey}
use Rattle.doc_model.specs.Meaning.{IsOp, only_reads}
use Rattle.doc_model.specs.Words.{words_in, words_with, op_words, HasIntegerAmount, IsOpOf, AreOfAnOp, AreOfNoOp, is_reading_kind}
use Rattle.doc_model.specs.WordParts.{IsShortText, is_key, is_document, has_key_only, has_no_text, has_op, op_with}
use Rattle.doc_model.specs.declared.operations.Op.{Op}
use Rattle.doc_model.specs.declared.operations.Op.TheVariants.{Put, Del, Add, Get, Next, Count, PutIf, Rev}
use Rattle.doc_model.proofs.PartPlaces.{parts_same, carried, length-words, words_fit}
use Rattle.doc_model.proofs.WordTexts.{below, key_from_test, key_passes, document_from_test, document_passes, no_text, key_text, document_text, only_key, neither}

op_kind_small : (kind : ℕ) (a b c d e f g : Bool) →
    cond (eqb kind 1) a (cond ((eqb kind 2 || eqb kind 4) || eqb kind 8) b (cond (eqb kind 3) c (cond (eqb kind 5) d (cond (eqb kind 7) g ((eqb kind 6 && e) && f))))) ≡ true → kind < 9
op_kind_small kind a b c d e f g passes = grind (arith, nat_tests)

next_op : (key : List ℕ) → IsKey key ⊎ (key ≡ []) → IsOp (Next key)
next_op [] either = tt
next_op (b ∷ key) either = elim either [
  | inl is ↦ is
  | inr none ↦ cc
]

module _ (key document : List ℕ) (number : ℕ) (small : number < 2 ^ 64) (document_is : IsShortText 1024 document) where
  abbrev Read : ℕ → Type 0
  Read kind = has_op kind key document number ≡ true → IsOpOf (words_with kind key document number) (op_with kind key document number)

  read_put : Read 1
  read_put passes =
      let parts = and_parts (is_key key && is_document document) (number == 0) passes in
      let texts = and_parts (is_key key) (is_document document) parts.0 in
      record {
        limits = (key_from_test key texts.0, document_from_test document document_is texts.1);
        amount = tt;
        has = ap (words_with 1 key document) (sym (eqb-true number 0 parts.1));
      }

  read_del : Read 2
  read_del passes =
      let parts = and_parts (has_key_only key document) (number == 0) passes in
      let texts = only_key key document parts.0 in
      record { limits = texts.0; amount = tt; has = ap₂ (words_with 2 key) (sym texts.1) (sym (eqb-true number 0 parts.1)) }

  read_add : Read 3
  read_add passes =
      let texts = only_key key document passes in
      record { limits = texts.0; amount = read_sfits w64 number; has = ap₂ (words_with 3 key) (sym texts.1) (of_z-to_z w64 number small) }

  read_get : Read 4
  read_get passes =
      let parts = and_parts (has_key_only key document) (number == 0) passes in
      let texts = only_key key document parts.0 in
      record { limits = texts.0; amount = tt; has = ap₂ (words_with 4 key) (sym texts.1) (sym (eqb-true number 0 parts.1)) }

  next_texts : (has_key_only key document || has_no_text key document) ≡ true → (IsKey key ⊎ (key ≡ [])) × (document ≡ [])
  next_texts passes = elim (or_cases (has_key_only key document) (has_no_text key document) passes) [
    | inl only ↦ (let texts = only_key key document only in (inl texts.0, texts.1))
    | inr none ↦ (let texts = neither key document none in (inr texts.0, texts.1))
  ]

  read_next : Read 5
  read_next passes =
      let parts = and_parts (has_key_only key document || has_no_text key document) (number == 0) passes in
      let texts = next_texts parts.0 in
      record { limits = next_op key texts.0; amount = tt; has = ap₂ (words_with 5 key) (sym texts.1) (sym (eqb-true number 0 parts.1)) }

  read_count : Read 6
  read_count passes =
      let parts = and_parts (has_no_text key document) (number == 0) passes in
      let texts = neither key document parts.0 in
      let key_is = texts.0 in
      let document_is = texts.1 in
      let number_is = eqb-true number 0 parts.1 in
      record { limits = tt; amount = tt; has = cc }

  read_put_if : Read 7
  read_put_if passes =
      let texts = and_parts (is_key key) (is_document document) passes in
      record { limits = (key_from_test key texts.0, document_from_test document document_is texts.1); amount = small; has = refl }

  read_rev : Read 8
  read_rev passes =
      let parts = and_parts (has_key_only key document) (number == 0) passes in
      let texts = only_key key document parts.0 in
      record { limits = texts.0; amount = tt; has = ap₂ (words_with 8 key) (sym texts.1) (sym (eqb-true number 0 parts.1)) }

  pub op_read : (kind : ℕ) → Read kind
  op_read kind passes =
      below Read 9 (((((((((tt, λ no. absurd (false≢true no)), read_put), read_del), read_add), read_get), read_next), read_count), read_put_if), read_rev) kind
      (op_kind_small kind (is_key key && is_document document && number == 0) (has_key_only key document && number == 0) (has_key_only key document) ((has_key_only key document || has_no_text key document) && number == 0) (has_no_text key document) (number == 0) (is_key key && is_document document) passes)
      passes

-- the parts of an operation
abbrev pub op_kind : Op → ℕ
op_kind (Put key document) = 1
op_kind (Del key) = 2
op_kind (Add key amount) = 3
op_kind (Get key) = 4
op_kind (Next above) = 5
op_kind Count = 6
op_kind (PutIf key revision document) = 7
op_kind (Rev key) = 8

abbrev pub op_key : Op → List ℕ
op_key (Put key document) = key
op_key (Del key) = key
op_key (Add key amount) = key
op_key (Get key) = key
op_key (Next above) = above
op_key Count = []
op_key (PutIf key revision document) = key
op_key (Rev key) = key

abbrev pub op_document : Op → List ℕ
op_document (Put key document) = document
op_document (PutIf key revision document) = document
op_document _ = []

abbrev pub op_number : Op → ℕ
op_number (Add key amount) = cast_unsigned w64 amount
op_number (PutIf key revision document) = revision
op_number _ = 0

pub op_words_are : (op : Op) → op_words op ≡ words_with (op_kind op) (op_key op) (op_document op) (op_number op)
op_words_are (Put key document) = refl
op_words_are op = refl

pub op_key_text : (op : Op) → IsOp op → IsShortText 64 (op_key op)
op_key_text (Put key document) is = key_text key is.0
op_key_text (Del key) is = key_text key is
op_key_text (Add key amount) is = key_text key is
op_key_text (Get key) is = key_text key is
op_key_text (Next []) is = no_text 64
op_key_text (Next (b ∷ above)) is = key_text (b ∷ above) is
op_key_text Count is = no_text 64
op_key_text (PutIf key revision document) is = key_text key is.0
op_key_text (Rev key) is = key_text key is

pub op_document_text : (op : Op) → IsOp op → IsShortText 1024 (op_document op)
op_document_text (Put key document) is = document_text document is.1
op_document_text (PutIf key revision document) is = document_text document is.1
op_document_text op is = no_text 1024

only_key_passes : (key : List ℕ) → IsKey key → has_key_only key [] ≡ true
only_key_passes key is = and_from (is_key key) true (key_passes key is) refl

-- the parts of an operation pass the test of being an operation's
pub op_has : (op : Op) → IsOp op → has_op (op_kind op) (op_key op) (op_document op) (op_number op) ≡ true
op_has (Put key document) is =
    and_from (is_key key && is_document document) true (and_from (is_key key) (is_document document) (key_passes key is.0) (document_passes document is.1)) refl
op_has (Del key) is = and_from (has_key_only key []) true (only_key_passes key is) refl
op_has (Add key amount) is = only_key_passes key is
op_has (Get key) is = and_from (has_key_only key []) true (only_key_passes key is) refl
op_has (Next []) is = refl
op_has (Next (b ∷ above)) is =
    let key = b ∷ above in
    and_from (has_key_only key [] || has_no_text key []) true (or_left (has_key_only key []) (has_no_text key []) (only_key_passes key is)) refl
op_has Count is = refl
op_has (PutIf key revision document) is = and_from (is_key key) (is_document document) (key_passes key is.0) (document_passes document is.1)
op_has (Rev key) is = and_from (has_key_only key []) true (only_key_passes key is) refl

-- the operation with the parts of an operation is that operation
pub op_again : (op : Op) → HasIntegerAmount op → op_with (op_kind op) (op_key op) (op_document op) (op_number op) ≡ op
op_again (Add key amount) fits = ap (Add key) (to_z-of_z w64 amount fits)
op_again op fits = refl

-- an operation is read from words that it has
pub op_known : (kind : ℕ) (key document : List ℕ) (number : ℕ) → IsShortText 64 key → IsShortText 1024 document →
    (op : Op) → IsOp op → HasIntegerAmount op → op_words op ≡ words_with kind key document number →
    (has_op kind key document number ≡ true) × (op_with kind key document number ≡ op)
op_known kind key document number key_is document_is op is amount has =
    let same =
    parts_same (op_kind op) (op_key op) (op_document op) (op_number op) kind key document number
    (op_key_text op is) (op_document_text op is) key_is document_is (sym (op_words_are op) ∙ has) in
    carried (λ k t d n. (has_op k t d n ≡ true) × (op_with k t d n ≡ op)) (op_kind op) (op_key op) (op_document op) (op_number op) kind key document number same
    (op_has op is, op_again op amount)

-- two operations that have the same words are the same
pub ops_same : (one other : Op) → IsOp one → HasIntegerAmount one → IsOp other → HasIntegerAmount other → op_words one ≡ op_words other → one ≡ other
ops_same one other one_is one_amount other_is other_amount same =
    sym (op_known (op_kind other) (op_key other) (op_document other) (op_number other) (op_key_text other other_is) (op_document_text other other_is)
    one one_is one_amount (same ∙ op_words_are other)).1
    ∙ op_again other other_amount

-- of which operation, if any, words with these parts are the words
module _ (words : List ℕ) (kind : ℕ) (key document : List ℕ) (number : ℕ) (are : words ≡ words_with kind key document number)
    (small : number < 2 ^ 64) (key_is : IsShortText 64 key) (document_is : IsShortText 1024 document) where
  pub op_found : (op : Op) → has_op kind key document number ≡ true → op ≡ op_with kind key document number → IsOpOf words op
  op_found op passes is =
      let read = op_read key document number small document_is kind passes in
      subst (IsOpOf words) (sym is) (record { limits = read.limits; amount = read.amount; has = read.has ∙ sym are })

  pub op_only : (op : Op) → IsOp op → HasIntegerAmount op → op_words op ≡ words → op_with kind key document number ≡ op
  op_only op is amount has = (op_known kind key document number key_is document_is op is amount (has ∙ are)).1

  pub op_none : has_op kind key document number ≡ false → AreOfNoOp words
  op_none fails op is amount has = both_ways (has_op kind key document number) fails (op_known kind key document number key_is document_is op is amount (has ∙ are)).0

  pub op_decided : (answer : Bool) → answer ≡ has_op kind key document number → MatchBool answer (AreOfAnOp words) (AreOfNoOp words)
  op_decided true is =
      record { op = op_with kind key document number; is = op_found (op_with kind key document number) (sym is) refl }
  op_decided false is = op_none (sym is)

number_small : (op : Op) → HasIntegerAmount op → op_number op < 2 ^ 64
number_small (Add key amount) fits = omega (arith, ints)
number_small (PutIf key revision document) fits = fits
number_small op fits = omega arith

kind_small : (op : Op) → op_kind op < 2 ^ 64
kind_small (Put key document) = omega arith
kind_small op = omega arith

pub op_words_fit : (op : Op) → IsOp op → HasIntegerAmount op → (length (op_words op) ≡ 144) × All (λ w. w < 2 ^ 64) (op_words op)
op_words_fit op is amount =
    let Fit : List ℕ → Type 0 = λ words. (length words ≡ 144) × All (λ w. w < 2 ^ 64) words in
    subst Fit (sym (op_words_are op)) (
      length-words 8 128 (op_kind op) (op_key op) (op_document op) (op_number op),
      words_fit 8 128 (op_kind op) (op_key op) (op_document op) (op_number op) (kind_small op) (op_key_text op is) (op_document_text op is) (omega arith) (omega arith) (number_small op amount),
    )

-- which operations only read
pub reads_by_kind : (op : Op) → only_reads op ≡ is_reading_kind (get_or (op_words op) 0 0)
unfolding words_in
reads_by_kind (Put key document) = refl
reads_by_kind op = refl
