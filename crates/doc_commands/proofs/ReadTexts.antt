-- The reads of a life are read off their text.
use Rattle.std.proofs.Common.{◌≡◌, ℕ, ◌-◌, ◌^◌, ◌<◌, List, [], ◌∷◌, ◌++◌, codes, Some, sym, ap, ◌∙◌, refl, lit≤, append_assoc}
use Rattle.std.specs.Fmt.{decimal}
use Rattle.std.proofs.lemmas.List.{append_cancel_left}
use Rattle.doc_model.specs.Revisions.{RevisedStore}
use Rattle.doc_model.specs.Meaning.{reply_to}
use Rattle.doc_model.specs.declared.operations.Op.{Op}
use Rattle.doc_model.specs.declared.operations.Reply.{Reply}
use Rattle.life_records.specs.Records.{JournalLine, Life, ReadLine}
use Rattle.life_records.specs.Lives.{store_at, IsLegalRead}
use Rattle.life_records.specs.Scripts.{named_op}
use Rattle.script_text.specs.Report.{read_text, exchange_text}
use Rattle.doc_store.specs.DocumentMeaning.{document_meaning}
use Rattle.doc_text.specs.Report.{document_wording, reply_text}
use Rattle.plain_text.proofs.Beginnings.{AreReadOff}
use Rattle.plain_text.proofs.Decimals.{same_numbers}
use Rattle.doc_commands.proofs.JournalTexts.{value_of}

-- the numbers of a line are within 64 bits
abbrev pub HasReadNumbers : ReadLine Reply → Type 0
HasReadNumbers line = (line.client < 2 ^ 64) × (line.command < 2 ^ 64) × (line.place < 2 ^ 64)

-- the parts of a line, with what follows it
abbrev answer_text : Life Op → ReadLine Reply → List ℕ
answer_text life line = exchange_text document_wording (named_op life line.client line.command) (reply_text line.reply)

read_text-append : (life : Life Op) (line : ReadLine Reply) (x : List ℕ)
    → read_text document_wording life line ++ x
    ≡ codes "read " ++ (decimal line.client ++ 46 ∷ (decimal line.command
    ++ 32 ∷ 97 ∷ 116 ∷ 32 ∷ (decimal line.place ++ 32 ∷ (answer_text life line ++ x))))
read_text-append life line x = simp append_assoc

same_line : (a b : ReadLine Reply) → a.client ≡ b.client → a.command ≡ b.command → a.place ≡ b.place → a.reply ≡ b.reply → a ≡ b
same_line a b client command place reply = λ i. record { client = client i; command = command i; place = place i; reply = reply i }

-- the reply of a read is that of the store at its place
has_reply : (lines place : ℕ) (store : RevisedStore) (life : Life Op) (journal : List (JournalLine Reply)) (line : ReadLine Reply)
    → IsLegalRead (document_meaning lines) place store life journal line
    → (op : Op) → named_op life line.client line.command ≡ Some op
    → line.reply ≡ reply_to lines (store_at (document_meaning lines) store life journal (line.place - place)) op
has_reply lines place store life journal line legal op is = rw is at legal.reply

same_reply : (lines place : ℕ) (store : RevisedStore) (life : Life Op) (journal : List (JournalLine Reply)) (a b : ReadLine Reply)
    → IsLegalRead (document_meaning lines) place store life journal a → IsLegalRead (document_meaning lines) place store life journal b
    → a.client ≡ b.client → a.command ≡ b.command → a.place ≡ b.place → a.reply ≡ b.reply
same_reply lines place store life journal a b legal other client command at =
    let op = value_of (named_op life a.client a.command) legal.named.there in
    let same : named_op life a.client a.command ≡ named_op life b.client b.command =
    ap (λ n. named_op life n a.command) client ∙ ap (named_op life b.client) command in
    has_reply lines place store life journal a legal op.0 op.1
    ∙ ap (λ n. reply_to lines (store_at (document_meaning lines) store life journal (n - place)) op.0) at
    ∙ sym (has_reply lines place store life journal b other op.0 (sym same ∙ op.1))

-- where two legal reads `a` and `b` begin equal texts, with `x` and `y` behind them, they are the same
same_first : (lines place : ℕ) (store : RevisedStore) (life : Life Op) (journal : List (JournalLine Reply)) (a b : ReadLine Reply) (x y : List ℕ)
    → IsLegalRead (document_meaning lines) place store life journal a → IsLegalRead (document_meaning lines) place store life journal b
    → HasReadNumbers a → HasReadNumbers b
    → read_text document_wording life a ++ x ≡ read_text document_wording life b ++ y → a ≡ b
same_first lines place store life journal a b x y legal other fits others_fit e =
    let parts = append_cancel_left (codes "read ")
    (decimal a.client ++ 46 ∷ (decimal a.command ++ 32 ∷ 97 ∷ 116 ∷ 32 ∷ (decimal a.place ++ 32 ∷ (answer_text life a ++ x))))
    (decimal b.client ++ 46 ∷ (decimal b.command ++ 32 ∷ 97 ∷ 116 ∷ 32 ∷ (decimal b.place ++ 32 ∷ (answer_text life b ++ y))))
    (sym (read_text-append life a x) ∙ e ∙ read_text-append life b y) in
    let client = same_numbers a.client b.client 46
    (decimal a.command ++ 32 ∷ 97 ∷ 116 ∷ 32 ∷ (decimal a.place ++ 32 ∷ (answer_text life a ++ x)))
    (decimal b.command ++ 32 ∷ 97 ∷ 116 ∷ 32 ∷ (decimal b.place ++ 32 ∷ (answer_text life b ++ y)))
    fits.0 others_fit.0 (lit≤ tt) parts in
    let command = same_numbers a.command b.command 32
    (97 ∷ 116 ∷ 32 ∷ (decimal a.place ++ 32 ∷ (answer_text life a ++ x)))
    (97 ∷ 116 ∷ 32 ∷ (decimal b.place ++ 32 ∷ (answer_text life b ++ y)))
    fits.1 others_fit.1 (lit≤ tt) client.1 in
    let place_text = append_cancel_left (97 ∷ 116 ∷ 32 ∷ [])
    (decimal a.place ++ 32 ∷ (answer_text life a ++ x)) (decimal b.place ++ 32 ∷ (answer_text life b ++ y)) command.1 in
    let at = same_numbers a.place b.place 32 (answer_text life a ++ x) (answer_text life b ++ y)
    fits.2 others_fit.2 (lit≤ tt) place_text in
    same_line a b client.0 command.0 at.0 (same_reply lines place store life journal a b legal other client.0 command.0 at.0)

-- a read that is legal beside one journal, with numbers within 64 bits
pub record IsReadOff (lines place : ℕ) (store : RevisedStore) (life : Life Op) (journal : List (JournalLine Reply)) (line : ReadLine Reply) : Type 0 where
  pub legal : IsLegalRead (document_meaning lines) place store life journal line
  pub numbers : HasReadNumbers line

pub reads_read : (lines place : ℕ) (store : RevisedStore) (life : Life Op) (journal : List (JournalLine Reply))
    → AreReadOff (read_text document_wording life) 114 (IsReadOff lines place store life journal)
reads_read lines place store life journal = record {
  begins = λ line. (_, refl);
  same = λ a b x y is other e. same_first lines place store life journal a b x y is.legal other.legal is.numbers other.numbers e;
}
