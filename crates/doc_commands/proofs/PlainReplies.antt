-- What a reply's text may be: no text of a document goes over the end of its line.
use Rattle.std.proofs.Common.{◌≡◌, ℕ, ◌≤◌, ◌<◌, Bool, true, false, cond, eqb, List, [], ◌∷◌, ◌++◌, All, codes, Option, None, Some, is_some, ℤ, refl, sym, ◌∙◌, arith, ◌⊎◌, inl, inr}
use Rattle.std.specs.List.{find}
use Rattle.std.specs.Option.{option_map, option_map_or}
use Rattle.std.specs.Ordering.{is_eq}
use Rattle.std.proofs.lemmas.Bool.{ne_eqb, eq-eqb, true≢false}
use Rattle.std.proofs.lemmas.List.Elements.{All-head, All-tail}
use Rattle.cx_base.specs.Store.{Store, IsDocument, key_cmp}
use Rattle.doc_model.specs.Meaning.{document_at, number_at, standing_revision, has_room, with_pair, add_reply, set_reply, least_key, pairs_above, reply_to}
use Rattle.doc_model.specs.Revisions.{RevisedStore, IsRevisedStore, pairs_in, next_revision, revision_at}
use Rattle.doc_model.specs.declared.operations.Op.{Op}
use Rattle.doc_model.specs.declared.operations.Op.TheVariants.{Put, Del, Add, Get, Next, Count, PutIf, Rev}
use Rattle.doc_model.specs.declared.operations.Reply.{Reply}
use Rattle.doc_model.specs.declared.operations.Reply.TheVariants.{New, Replaced, Deleted, Absent, Doc, Sum, Overflow, NoRoom, Set, Stale, Revision}
use Rattle.doc_text.specs.Report.{reply_text}

-- the document that a reply tells, if it tells one, is within the limits
abbrev pub IsPlain : Reply → Type 0
IsPlain (Doc document) = IsDocument document
IsPlain _ = Unit {0}

either_plain : (b : Bool) (r q : Reply) → IsPlain r → IsPlain q → IsPlain (cond b r q)
either_plain true r q first second = first
either_plain false r q first second = second

found_by : (p : List ℕ × List ℕ) (rest : Option (List ℕ × List ℕ)) (b : Bool) → IsDocument p.1 → IsPlain (option_map_or Doc (option_map (λ q. q.1) rest) Absent)
    → IsPlain (option_map_or Doc (option_map (λ q. q.1) (cond b (Some p) rest)) Absent)
found_by p rest true first others = first
found_by p rest false first others = others

found_plain : (key : List ℕ) (store : Store) → All (λ p. IsDocument p.1) store → IsPlain (option_map_or Doc (document_at key store) Absent)
found_plain key [] all = tt
found_plain key (p ∷ store) all =
    found_by p (find (λ q. is_eq (key_cmp q.0 key)) store) (is_eq (key_cmp p.0 key)) (All-head (λ p. IsDocument p.1) p store all)
    (found_plain key store (All-tail (λ p. IsDocument p.1) p store all))

least_plain : (store : Store) → IsPlain (least_key store)
least_plain [] = tt
least_plain (p ∷ store) = tt

sum_plain : (fits room : Bool) (sum : ℤ) → IsPlain (cond fits (cond room (Sum sum) NoRoom) Overflow)
sum_plain true true sum = tt
sum_plain true false sum = tt
sum_plain false room sum = tt

add_plain : (lines : ℕ) (store : Store) (key : List ℕ) (amount : ℤ) (before : Option ℤ) → IsPlain (add_reply lines store key amount before)
add_plain lines store key amount None = tt
add_plain lines store key amount (Some before) = sum_plain _ _ _

revision_plain : (revision : Option ℕ) → IsPlain (option_map_or Revision revision Absent)
revision_plain None = tt
revision_plain (Some revision) = tt

-- the reply to an operation
pub reply_plain : (lines : ℕ) (store : RevisedStore) (op : Op) → IsRevisedStore store → IsPlain (reply_to lines store op)
reply_plain lines store (Put key document) s =
    either_plain (has_room lines (with_pair key document (pairs_in store))) (cond (is_some (document_at key (pairs_in store))) Replaced New) NoRoom
    (either_plain (is_some (document_at key (pairs_in store))) Replaced New tt tt) tt
reply_plain lines store (Del key) s = either_plain (is_some (document_at key (pairs_in store))) Deleted Absent tt tt
reply_plain lines store (Add key amount) s = add_plain lines (pairs_in store) key amount (number_at key (pairs_in store))
reply_plain lines store (Get key) s = found_plain key (pairs_in store) s.pairs.documents
reply_plain lines store (Next above) s = least_plain (pairs_above above (pairs_in store))
reply_plain lines store Count s = tt
reply_plain lines store (PutIf key revision document) s =
    either_plain (eqb (standing_revision key store) revision) (set_reply lines store key document) (Stale (standing_revision key store))
    (either_plain (has_room lines (with_pair key document (pairs_in store))) (Set (next_revision store.last)) NoRoom tt tt) tt
reply_plain lines store (Rev key) s = revision_plain (revision_at key store)

-- ---- the end of a line

-- no byte of the text is this one
abbrev AreOthers : ℕ → List ℕ → Type 0
AreOthers b [] = Unit {0}
AreOthers b (c ∷ text) = (eqb c b ≡ false) × AreOthers b text

document_others : (document : List ℕ) → All (λ b. (32 ≤ b) × (b < 256)) document → AreOthers 10 document
document_others [] all = tt
document_others (b ∷ document) all =
    let first = All-head (λ b. (32 ≤ b) × (b < 256)) b document all in
    (ne_eqb b 10 (λ e. omega (arith, e, first.0)), document_others document (All-tail (λ b. (32 ≤ b) × (b < 256)) b document all))

-- texts up to the first byte of a kind
same_until : (b : ℕ) (ds es x y : List ℕ) → AreOthers b ds → AreOthers b es → ds ++ b ∷ x ≡ es ++ b ∷ y → (ds ≡ es) × (x ≡ y)
same_until b [] [] x y others more e = (refl, cc)
same_until b [] (d ∷ es) x y others more e = let same : b ≡ d = cc in absurd (true≢false (sym (eq-eqb d b (sym same)) ∙ more.0))
same_until b (d ∷ ds) [] x y others more e = let same : d ≡ b = cc in absurd (true≢false (sym (eq-eqb d b same) ∙ others.0))
same_until b (c ∷ ds) (d ∷ es) x y others more e =
    let first : c ≡ d = cc in
    let rest : ds ++ b ∷ x ≡ es ++ b ∷ y = cc in
    let found = same_until b ds es x y others.1 more.1 rest in
    let tail : ds ≡ es = found.0 in
    (cc, found.1)

-- the text of a line in place of a reply, where the client was not answered
abbrev pub unanswered : List ℕ
unanswered = codes "unanswered"

unanswered_others : AreOthers 10 unanswered
unanswered_others = (refl, (refl, (refl, (refl, (refl, (refl, (refl, (refl, (refl, (refl, tt))))))))))

-- the first byte of a text, and for the empty text 117, with which `unanswered` begins
abbrev first_of : List ℕ → ℕ
first_of [] = 117
first_of (b ∷ text) = b

-- a text that begins with another byte than `unanswered` does not stand at the front of what begins with `unanswered`
other_first : (text x y : List ℕ) → eqb 117 (first_of text) ≡ false → unanswered ++ x ≡ text ++ y → ⊥
other_first [] x y other e = true≢false other
other_first (b ∷ text) x y other e = let same : 117 ≡ b = cc in true≢false (sym (eq-eqb 117 b same) ∙ other)

-- what follows a line that tells no answer follows one of the same text that tells a reply
unanswered_or : (r : Reply) (x y : List ℕ) → IsPlain r → unanswered ++ 10 ∷ x ≡ reply_text r ++ 10 ∷ y → x ≡ y
unanswered_or (Doc document) x y plain e = (same_until 10 unanswered document x y unanswered_others (document_others document plain.plain) e).1
unanswered_or r x y plain e = absurd (other_first (reply_text r) (10 ∷ x) (10 ∷ y) refl e)

-- the answer of a line as text
abbrev pub answer_text : Option Reply → List ℕ
answer_text reply = option_map_or reply_text reply unanswered

-- a line tells no answer, or this reply
abbrev pub IsNoneOr : Reply → Option Reply → Type 0
IsNoneOr r reply = (reply ≡ None) ⊎ (reply ≡ Some r)

-- what follows the same bytes and a line break in two equal texts is the same: `x` and `y` are equal
cancel : (ds x y : List ℕ) → ds ++ 10 ∷ x ≡ ds ++ 10 ∷ y → x ≡ y
cancel [] x y e = cc
cancel (d ∷ ds) x y e = cancel ds x y cc

-- what follows lines of the same text, whether they tell this reply or no answer, is the same
pub same_after_answer : (r : Reply) (a b : Option Reply) (x y : List ℕ) → IsPlain r → IsNoneOr r a → IsNoneOr r b
    → answer_text a ++ 10 ∷ x ≡ answer_text b ++ 10 ∷ y → x ≡ y
same_after_answer r a b x y plain (inl none) (inl also) e = cancel unanswered x y (rw (none, also) at e)
same_after_answer r a b x y plain (inl none) (inr some) e = unanswered_or r x y plain (rw (none, some) at e)
same_after_answer r a b x y plain (inr some) (inl none) e = sym (unanswered_or r y x plain (sym (rw (some, none) at e)))
same_after_answer r a b x y plain (inr some) (inr also) e = cancel (reply_text r) x y (rw (some, also) at e)
