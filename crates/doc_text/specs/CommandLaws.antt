-- Commands on documents are read by their rules: what is read is asked for, what is asked for is read, and the reason of a refusal is the first that fits.
use Rattle.std.specs.Prelude.{codes, is_some, ℤ}
use Rattle.std.specs.Fmt.{decimal, signed_decimal}
use Rattle.std.proofs.Common.{◌≡◌, ℕ, ◌≤◌, ◌<◌, ◌^◌, true, false, cond, leb, List, [], ◌∷◌, ◌++◌, length, Option, None, Some, Ok, Err, refl, sym, ap, subst, ◌∙◌, append_assoc, arith, inl, inr, ltb, not}
use Rattle.std.proofs.lemmas.Bool.{leb-true, le-leb, lt-ltb, leb-false}
use Rattle.cx_base.specs.Store.{IsKey}
use Rattle.plain_text.specs.Number.{integer_of, is_i64, number_of}
use Rattle.plain_text.specs.Words.{first_word, rest_of}
use Rattle.plain_text.proofs.Numerals.{signed_decimal-integer_of, integer_of-signed_decimal, decimal-number_of, number_of-decimal}
use Rattle.plain_text.proofs.WordCuts.{spaced, unspaced, word_cut, word_alone, visible_unspaced, decimal_unspaced, signed_unspaced, whole_word}
use Rattle.serde_json.specs.Data.{Data}
use Rattle.serde_json.specs.Read.{read as read_json}
use Rattle.serde_json.specs.Written.{has_float, compact_text}
use Rattle.doc_model.specs.WordParts.{is_key}
use Rattle.doc_model.specs.declared.operations.Op.{Op}
use Rattle.doc_model.specs.declared.operations.Op.TheVariants.{Put, Del, Add, Get, Next, Count, PutIf, Rev}
use Rattle.doc_model.proofs.WordTexts.{key_from_test, key_passes}
use Rattle.script_text.specs.Reading.{then_ok}
use Rattle.script_text.specs.Grammar.{ReadsCommands, Row, first_that_fits}
use Rattle.script_text.specs.declared.lines.ScriptLimits.{ScriptLimits}
use Rattle.script_text.specs.declared.lines.ScriptReason.{ScriptReason}
use Rattle.script_text.specs.Choices.{named_or, then_some, ok_first, ok_second, err_second, err_first, then_err}
use Rattle.doc_text.specs.Document.{IsJsonOf, kept_as, document_of}
use Rattle.doc_text.specs.Grammar.{Asks, commands_in, document_commands, pool_commands}
use Rattle.doc_text.specs.Reasons.{pool_reason, script_reason}
use Rattle.doc_text.specs.Reading.{verb_of, only_key, put_with, put_if_at, put_if_by, put_if_with, add_amount, add_with, op_by_verb, asked_op}
use Rattle.doc_text.specs.declared.commands.Verb.{Verb}
use Rattle.doc_text.specs.declared.commands.Verb.TheVariants as verbs
use Rattle.doc_text.specs.declared.script_parts.Reason.TheVariants as reasons
use Rattle.doc_text.specs.CommandReasons.{word_rows, is_no_value, has_fraction, is_too_long, command_rows}
use Rattle.doc_text.specs.declared.script_parts.Reason.{Reason}

abbrev verb_name : Verb → List ℕ
verb_name verbs.Put = codes "put"
verb_name verbs.Del = codes "del"
verb_name verbs.Add = codes "add"
verb_name verbs.Get = codes "get"
verb_name verbs.Next = codes "next"
verb_name verbs.Count = codes "count"
verb_name verbs.PutIf = codes "putif"
verb_name verbs.Rev = codes "rev"

-- a word that is read as a verb is the verb's name
pub verb_is : (word : List ℕ) (verb : Verb) → verb_of word ≡ Some verb → word ≡ verb_name verb
unfolding verb_of
verb_is word verb e =
    named_or verb_name (codes "put") word verbs.Put verb _ refl
    (named_or verb_name (codes "del") word verbs.Del verb _ refl
    (named_or verb_name (codes "add") word verbs.Add verb _ refl
    (named_or verb_name (codes "get") word verbs.Get verb _ refl
    (named_or verb_name (codes "next") word verbs.Next verb _ refl
    (named_or verb_name (codes "count") word verbs.Count verb _ refl
    (named_or verb_name (codes "putif") word verbs.PutIf verb _ refl
    (named_or verb_name (codes "rev") word verbs.Rev verb None refl (λ none. absurd cc)))))))) e

only_key_is : (text key : List ℕ) → only_key text ≡ Ok key → (text ≡ key) × IsKey key
only_key_is text key e =
    let one = ok_second (is_some (rest_of text)) reasons.Command (cond (is_key text) (Ok text) (Err reasons.Key)) key e in
    let is = ok_first (is_key text) reasons.Key (Ok text) key one.1 in
    let same : text ≡ key = let h : Ok text ≡ Ok key = is.1 in cc in
    (same, subst IsKey same (key_from_test text is.0))

kept_is : (json document : List ℕ) (value : Option Data) → read_json json ≡ value → kept_as value ≡ Ok document → IsJsonOf json document
kept_is json document None read e = absurd cc
kept_is json document (Some value) read e =
    let whole = ok_second (has_float value) reasons.Fraction (cond (leb (length (compact_text value)) 1024) (Ok (compact_text value)) (Err reasons.Long)) document e in
    let short = ok_first (leb (length (compact_text value)) 1024) reasons.Long (Ok (compact_text value)) document whole.1 in
    let same : document ≡ compact_text value = let h : Ok (compact_text value) ≡ Ok document = short.1 in cc in
    record {
      value = value;
      is_read = read;
      integers = whole.0;
      compact = same;
      short = subst (λ (text : List ℕ). length text ≤ 1024) (sym same) (leb-true (length (compact_text value)) 1024 short.0);
    }

put_is : (words : List ℕ) (json : Option (List ℕ)) (op : Op) → rest_of words ≡ json → put_with (first_word words) json ≡ Ok op → Asks op (codes "put " ++ words)
put_is words None op rest e = absurd cc
put_is words (Some json) op rest e =
    let key = first_word words in
    let is = ok_first (is_key key) reasons.Key (then_ok (Put key) (document_of json)) op e in
    let document = then_some (Put key) (document_of json) op is.1 in
    subst (λ (o : Op). Asks o (codes "put " ++ words)) document.2 (
      json,
      ap (λ (t : List ℕ). codes "put " ++ t) (spaced words json rest ∙ sym (append_assoc key (codes " ") json)),
      key_from_test key is.0,
      kept_is json document.0 (read_json json) refl document.1,
    )

-- a key, a number and JSON, cut at the first two spaces
three_words : (key number json : List ℕ) → key ++ codes " " ++ number ++ codes " " ++ json ≡ key ++ 32 ∷ (number ++ 32 ∷ json)
three_words key number json =
    append_assoc (key ++ codes " " ++ number) (codes " ") json ∙ append_assoc (key ++ codes " ") number (32 ∷ json)
    ∙ append_assoc key (codes " ") (number ++ 32 ∷ json)

put_if_at_is : (key json : List ℕ) (revision : Option ℕ) (op : Op) → put_if_at key revision json ≡ Ok op
    → (r : ℕ) × (document : List ℕ) × (revision ≡ Some r) × IsJsonOf json document × (PutIf key r document ≡ op)
put_if_at_is key json None op e = absurd cc
put_if_at_is key json (Some r) op e =
    let document = then_some (PutIf key r) (document_of json) op e in
    (r, document.0, refl, kept_is json document.0 (read_json json) refl document.1, document.2)

put_if_by_is : (words text : List ℕ) (json : Option (List ℕ)) (op : Op) → rest_of words ≡ Some text → rest_of text ≡ json
    → put_if_by (first_word words) (first_word text) json ≡ Ok op → Asks op (codes "putif " ++ words)
put_if_by_is words text None op rest behind e = absurd cc
put_if_by_is words text (Some json) op rest behind e =
    let key = first_word words in
    let is = ok_first (is_key key) reasons.Key (put_if_at key (number_of (first_word text)) json) op e in
    let (r, document, read, kept, same) = put_if_at_is key json (number_of (first_word text)) op is.1 in
    let number = decimal-number_of (first_word text) r read in
    subst (λ (o : Op). Asks o (codes "putif " ++ words)) same (
      json,
      ap (λ (t : List ℕ). codes "putif " ++ t) (spaced words text rest
          ∙ ap (λ (t : List ℕ). key ++ 32 ∷ t) (spaced text json behind ∙ ap (λ (t : List ℕ). t ++ 32 ∷ json) number.0)
          ∙ sym (three_words key (decimal r) json)),
      key_from_test key is.0,
      number.1,
      kept,
    )

put_if_is : (words : List ℕ) (text : Option (List ℕ)) (op : Op) → rest_of words ≡ text → put_if_with (first_word words) text ≡ Ok op → Asks op (codes "putif " ++ words)
put_if_is words None op rest e = absurd cc
put_if_is words (Some text) op rest e = put_if_by_is words text (rest_of text) op rest refl e

amount_is : (key : List ℕ) (amount : Option ℤ) (op : Op) → add_amount key amount ≡ Ok op → (z : ℤ) × (amount ≡ Some z) × (Add key z ≡ op)
amount_is key None op e = absurd cc
amount_is key (Some z) op e = (z, refl, cc)

add_is : (words : List ℕ) (text : Option (List ℕ)) (op : Op) → rest_of words ≡ text → add_with (first_word words) text ≡ Ok op → Asks op (codes "add " ++ words)
add_is words None op rest e = absurd cc
add_is words (Some text) op rest e =
    let key = first_word words in
    let one = ok_second (is_some (rest_of text)) reasons.Command (cond (is_key key) (add_amount key (integer_of text)) (Err reasons.Key)) op e in
    let is = ok_first (is_key key) reasons.Key (add_amount key (integer_of text)) op one.1 in
    let amount = amount_is key (integer_of text) op is.1 in
    let number = signed_decimal-integer_of text amount.0 amount.1 in
    subst (λ (o : Op). Asks o (codes "add " ++ words)) amount.2 (
      ap (λ (t : List ℕ). codes "add " ++ t) (spaced words text rest ∙ ap (λ (t : List ℕ). key ++ 32 ∷ t) number.0 ∙ sym (append_assoc key (codes " ") (signed_decimal amount.0))),
      key_from_test key is.0,
      number.1,
    )

keyed_is : (make : List ℕ → Op) (verb words : List ℕ) (op : Op) → ((key : List ℕ) → words ≡ key → IsKey key → Asks (make key) (verb ++ words)) → then_ok make (only_key words) ≡ Ok op → Asks op (verb ++ words)
keyed_is make verb words op asks e =
    let key = then_some make (only_key words) op e in
    let is = only_key_is words key.0 key.1 in
    subst (λ (o : Op). Asks o (verb ++ words)) key.2 (asks key.0 is.0 is.1)

asks_next : (words key : List ℕ) → words ≡ key → IsKey key → Asks (Next key) (codes "next " ++ words)
asks_next words [] same k = let some : 1 ≤ 0 = k.some in absurd (omega arith)
asks_next words (b ∷ key) same k = (ap (λ (t : List ℕ). codes "next " ++ t) same, k)

-- the text by its verb and what stands behind it
behind : (text words : List ℕ) (verb : Verb) → verb_of (first_word text) ≡ Some verb → rest_of text ≡ Some words → text ≡ verb_name verb ++ 32 ∷ words
behind text words verb v rest = spaced text words rest ∙ ap (λ (word : List ℕ). word ++ 32 ∷ words) (verb_is (first_word text) verb v)

alone : (text : List ℕ) (verb : Verb) → verb_of (first_word text) ≡ Some verb → rest_of text ≡ None → text ≡ verb_name verb
alone text verb v rest = unspaced text rest ∙ verb_is (first_word text) verb v

-- a command is asked for by a text, where its verb and what stands behind it are read as that command
pub with_verb : (text : List ℕ) (verb : Option Verb) (words : Option (List ℕ)) (op : Op) → verb_of (first_word text) ≡ verb → rest_of text ≡ words
    → op_by_verb verb words ≡ Ok op → Asks op text
with_verb text (Some verbs.Put) (Some words) op v rest e = subst (Asks op) (sym (behind text words verbs.Put v rest)) (put_is words (rest_of words) op refl e)
with_verb text (Some verbs.Del) (Some words) op v rest e = subst (Asks op) (sym (behind text words verbs.Del v rest)) (keyed_is Del (codes "del ") words op (λ key same k. (ap (λ (t : List ℕ). codes "del " ++ t) same, k)) e)
with_verb text (Some verbs.Add) (Some words) op v rest e = subst (Asks op) (sym (behind text words verbs.Add v rest)) (add_is words (rest_of words) op refl e)
with_verb text (Some verbs.Get) (Some words) op v rest e = subst (Asks op) (sym (behind text words verbs.Get v rest)) (keyed_is Get (codes "get ") words op (λ key same k. (ap (λ (t : List ℕ). codes "get " ++ t) same, k)) e)
with_verb text (Some verbs.Next) None op v rest e =
    let is : Next [] ≡ op = let h : Ok (Next []) ≡ Ok op = e in cc in
    subst (λ (o : Op). Asks o text) is (alone text verbs.Next v rest)
with_verb text (Some verbs.Next) (Some words) op v rest e = subst (Asks op) (sym (behind text words verbs.Next v rest)) (keyed_is Next (codes "next ") words op (asks_next words) e)
with_verb text (Some verbs.Count) None op v rest e =
    let is : Count ≡ op = let h : Ok Count ≡ Ok op = e in cc in
    subst (λ (o : Op). Asks o text) is (alone text verbs.Count v rest)
with_verb text (Some verbs.PutIf) (Some words) op v rest e = subst (Asks op) (sym (behind text words verbs.PutIf v rest)) (put_if_is words (rest_of words) op refl e)
with_verb text (Some verbs.Rev) (Some words) op v rest e = subst (Asks op) (sym (behind text words verbs.Rev v rest)) (keyed_is Rev (codes "rev ") words op (λ key same k. (ap (λ (t : List ℕ). codes "rev " ++ t) same, k)) e)
with_verb text _ words op v rest e = absurd cc

only_key_again : (key : List ℕ) → IsKey key → only_key key ≡ Ok key
only_key_again key k = rw ((word_alone key (visible_unspaced key k.visible)).1, key_passes key k) refl

document_again : (json document : List ℕ) → IsJsonOf json document → document_of json ≡ Ok document
document_again json document is =
    let short : length document ≤ 1024 = is.short in
    rw (is.is_read, is.integers, ← is.compact, le-leb (length document) 1024 short) refl

put_again : (key json document : List ℕ) → IsKey key → IsJsonOf json document → asked_op (Some (codes "put " ++ (key ++ 32 ∷ json))) ≡ Ok (Put key document)
unfolding verb_of
put_again key json document k is =
    let cut = word_cut key json (visible_unspaced key k.visible) in
    rw (cut.0, cut.1, key_passes key k) (ap (then_ok (Put key)) (document_again json document is))

put_if_again : (key : List ℕ) (revision : ℕ) (json document : List ℕ) → IsKey key → revision < 2 ^ 64 → IsJsonOf json document
    → asked_op (Some (codes "putif " ++ (key ++ 32 ∷ (decimal revision ++ 32 ∷ json)))) ≡ Ok (PutIf key revision document)
unfolding verb_of
put_if_again key revision json document k fits is =
    let cut = word_cut key (decimal revision ++ 32 ∷ json) (visible_unspaced key k.visible) in
    let next = word_cut (decimal revision) json (decimal_unspaced revision fits) in
    rw (cut.0, cut.1, next.0, next.1, key_passes key k, number_of-decimal revision fits) (ap (then_ok (PutIf key revision)) (document_again json document is))

add_again : (key : List ℕ) (amount : ℤ) → IsKey key → is_i64 amount ≡ true → asked_op (Some (codes "add " ++ (key ++ 32 ∷ signed_decimal amount))) ≡ Ok (Add key amount)
unfolding verb_of
add_again key amount k fits =
    let cut = word_cut key (signed_decimal amount) (visible_unspaced key k.visible) in
    let one = word_alone (signed_decimal amount) (signed_unspaced amount fits) in
    rw (cut.0, cut.1, one.1, key_passes key k) (ap (add_amount key) (integer_of-signed_decimal amount fits))

-- a text that asks for a command is read as that command
pub asked_again : (op : Op) (text : List ℕ) → Asks op text → asked_op (Some text) ≡ Ok op
unfolding verb_of
asked_again (Put key document) text (json, spelled, k, is) = rw (spelled, append_assoc key (codes " ") json) (put_again key json document k is)
asked_again (Del key) text (spelled, k) = rw spelled (ap (then_ok Del) (only_key_again key k))
asked_again (Add key amount) text (spelled, k, fits) = rw (spelled, append_assoc key (codes " ") (signed_decimal amount)) (add_again key amount k fits)
asked_again (Get key) text (spelled, k) = rw spelled (ap (then_ok Get) (only_key_again key k))
asked_again (PutIf key revision document) text (json, spelled, k, fits, is) = rw (spelled, three_words key (decimal revision) json) (put_if_again key revision json document k fits is)
asked_again (Rev key) text (spelled, k) = rw spelled (ap (then_ok Rev) (only_key_again key k))
asked_again (Next (b ∷ above)) text (spelled, k) = rw spelled (ap (then_ok Next) (only_key_again (b ∷ above) k))
asked_again _ text spelled = rw spelled refl

abbrev Fits : List (Row Reason) → Reason → Type 0
Fits rows reason = first_that_fits rows ≡ Some reason

-- The one word left is no key, or there are more. The rows are the same for each verb with a key alone.
key_why : (make : List ℕ → Op) (words : List ℕ) (reason : Reason) → then_ok make (only_key words) ≡ Err reason → Fits (word_rows (Some verbs.Del) (Some words)) reason
key_why make words reason e =
    elim (err_second (is_some (rest_of words)) reasons.Command (cond (is_key words) (Ok words) (Err reasons.Key)) reason (then_err make (only_key words) reason e)) [
      | inl (more, same) ↦ rw (more, same) refl
      | inr (one, e2) ↦
          elim (err_first (is_key words) reasons.Key (Ok words) reason e2) [
            | inl (bad, same) ↦ rw (one, whole_word words one, bad, same) refl
            | inr (_, h) ↦ absurd cc
          ]
    ]

amount_why : (key : List ℕ) (amount : Option ℤ) (reason : Reason) → add_amount key amount ≡ Err reason → (amount ≡ None) × (reasons.Number ≡ reason)
amount_why key None reason e = (refl, cc)
amount_why key (Some z) reason e = absurd cc

add_why : (words : List ℕ) (text : Option (List ℕ)) (reason : Reason) → rest_of words ≡ text → add_with (first_word words) text ≡ Err reason
    → Fits (word_rows (Some verbs.Add) (Some words)) reason
add_why words None reason rest e = let same : reasons.Command ≡ reason = cc in rw (rest, same) refl
add_why words (Some text) reason rest e =
    elim (err_second (is_some (rest_of text)) reasons.Command (cond (is_key (first_word words)) (add_amount (first_word words) (integer_of text)) (Err reasons.Key)) reason e) [
      | inl (more, same) ↦ rw (rest, more, same) refl
      | inr (one, e2) ↦
          elim (err_first (is_key (first_word words)) reasons.Key (add_amount (first_word words) (integer_of text)) reason e2) [
            | inl (bad, same) ↦ rw (rest, one, bad, same) refl
            | inr (good, e3) ↦
                let none = amount_why (first_word words) (integer_of text) reason e3 in
                rw (rest, one, good, none.0, none.1) refl
          ]
    ]

-- why a value is kept as no document
kept_why : (json : List ℕ) (value : Option Data) (reason : Reason) → read_json json ≡ value → kept_as value ≡ Err reason
    → Fits ((is_no_value json, reasons.Json) ∷ (has_fraction json, reasons.Fraction) ∷ (is_too_long json, reasons.Long) ∷ []) reason
kept_why json None reason read e = let same : reasons.Json ≡ reason = cc in rw (read, same) refl
kept_why json (Some value) reason read e =
    elim (err_second (has_float value) reasons.Fraction (cond (leb (length (compact_text value)) 1024) (Ok (compact_text value)) (Err reasons.Long)) reason e) [
      | inl (fraction, same) ↦ rw (read, fraction, same) refl
      | inr (whole, e2) ↦
          elim (err_first (leb (length (compact_text value)) 1024) reasons.Long (Ok (compact_text value)) reason e2) [
            | inl (long, same) ↦ rw (read, whole, too_long (length (compact_text value)) long, same) refl
            | inr (_, h) ↦ absurd cc
          ]
    ]
  where
    too_long : (n : ℕ) → leb n 1024 ≡ false → ltb 1024 n ≡ true
    too_long n h = lt-ltb 1024 n (leb-false n 1024 h)

put_why : (words : List ℕ) (json : Option (List ℕ)) (reason : Reason) → rest_of words ≡ json → put_with (first_word words) json ≡ Err reason
    → Fits (word_rows (Some verbs.Put) (Some words)) reason
put_why words None reason rest e = let same : reasons.Command ≡ reason = cc in rw (rest, same) refl
put_why words (Some json) reason rest e =
    elim (err_first (is_key (first_word words)) reasons.Key (then_ok (Put (first_word words)) (document_of json)) reason e) [
      | inl (bad, same) ↦ rw (rest, bad, same) refl
      | inr (good, e2) ↦ rw (rest, good) (kept_why json (read_json json) reason refl (then_err (Put (first_word words)) (document_of json) reason e2))
    ]

put_if_at_why : (key json : List ℕ) (revision : Option ℕ) (reason : Reason) → put_if_at key revision json ≡ Err reason
    → Fits ((not (is_some revision), reasons.Number) ∷ (is_no_value json, reasons.Json) ∷ (has_fraction json, reasons.Fraction) ∷ (is_too_long json, reasons.Long) ∷ []) reason
put_if_at_why key json None reason e = let same : reasons.Number ≡ reason = cc in rw same refl
put_if_at_why key json (Some r) reason e = kept_why json (read_json json) reason refl (then_err (PutIf key r) (document_of json) reason e)

put_if_by_why : (words text : List ℕ) (json : Option (List ℕ)) (reason : Reason) → rest_of words ≡ Some text → rest_of text ≡ json
    → put_if_by (first_word words) (first_word text) json ≡ Err reason → Fits (word_rows (Some verbs.PutIf) (Some words)) reason
put_if_by_why words text None reason rest behind e = let same : reasons.Command ≡ reason = cc in rw (rest, behind, same) refl
put_if_by_why words text (Some json) reason rest behind e =
    elim (err_first (is_key (first_word words)) reasons.Key (put_if_at (first_word words) (number_of (first_word text)) json) reason e) [
      | inl (bad, same) ↦ rw (rest, behind, bad, same) refl
      | inr (good, e2) ↦ rw (rest, behind, good) (put_if_at_why (first_word words) json (number_of (first_word text)) reason e2)
    ]

put_if_why : (words : List ℕ) (text : Option (List ℕ)) (reason : Reason) → rest_of words ≡ text → put_if_with (first_word words) text ≡ Err reason
    → Fits (word_rows (Some verbs.PutIf) (Some words)) reason
put_if_why words None reason rest e = let same : reasons.Command ≡ reason = cc in rw (rest, same) refl
put_if_why words (Some text) reason rest e = put_if_by_why words text (rest_of text) reason rest refl e

-- the reason by which the words behind a verb are refused is the first of the table that fits
pub verb_why : (verb : Option Verb) (words : Option (List ℕ)) (reason : Reason) → op_by_verb verb words ≡ Err reason → Fits (word_rows verb words) reason
verb_why (Some verbs.Put) (Some words) reason e = put_why words (rest_of words) reason refl e
verb_why (Some verbs.Del) (Some words) reason e = key_why Del words reason e
verb_why (Some verbs.Add) (Some words) reason e = add_why words (rest_of words) reason refl e
verb_why (Some verbs.Get) (Some words) reason e = key_why Get words reason e
verb_why (Some verbs.Next) (Some words) reason e = key_why Next words reason e
verb_why (Some verbs.PutIf) (Some words) reason e = put_if_why words (rest_of words) reason refl e
verb_why (Some verbs.Rev) (Some words) reason e = key_why Rev words reason e
verb_why (Some verbs.Next) None reason e = absurd cc
verb_why (Some verbs.Count) None reason e = absurd cc
verb_why verb words reason e = ap Some cc

none_asked : (op : Op) → asked_op None ≡ Ok op → ⊥
none_asked op e = absurd cc

why : (text : Option (List ℕ)) (reason : Reason) → asked_op text ≡ Err reason → first_that_fits (command_rows text) ≡ Some reason
why None reason e = ap Some cc
why (Some text) reason e = verb_why (verb_of (first_word text)) (rest_of text) reason e

-- the commands on documents are read by their rules, whatever limits scripts have
reads_in : (limits : ScriptLimits) (reason : ScriptReason → Reason) → limits.clients < 2 ^ 64 → limits.lives ≤ 1000 → ReadsCommands (commands_in limits reason) asked_op
reads_in limits reason clients lives = record {
  clients = clients;
  lives = lives;
  some = none_asked;
  sound = λ text op e. with_verb text (verb_of (first_word text)) (rest_of text) op refl refl e;
  complete = λ text op is. asked_again op text is;
  refused = why;
}

-- commands on documents are read by their rules
pub reads_commands : ReadsCommands document_commands asked_op
reads_commands = reads_in (record { clients = 8; lives = 1000; cuts = true }) script_reason (omega arith) (omega arith)

-- commands of a pool are read by their rules
pub reads_pool_commands : ReadsCommands pool_commands asked_op
reads_pool_commands = reads_in (record { clients = 64; lives = 1; cuts = false }) pool_reason (omega arith) (omega arith)
