-- A journal is read off its text, but for whether a line tells the reply or that there was no answer.
use Rattle.std.proofs.Common.{◌≡◌, ℕ, zero, suc, ◌==◌, Bool, true, false, ◌^◌, ◌<◌, List, [], ◌∷◌, ◌++◌, All, map, flat_map, codes, slice_get, Option, None, Some, IsSome, IfSome, is_some, sym, ap, ◌∙◌, subst, refl, inl, inr, lit≤, append_assoc}
use Rattle.std.specs.Fmt.{decimal}
use Rattle.std.specs.Option.{option_map_or}
use Rattle.std.proofs.lemmas.List.{append_cancel_left}
use Rattle.std.proofs.lemmas.List.Elements.{All-head, All-tail, All-filter, All-map}
use Rattle.doc_model.specs.Revisions.{RevisedStore, IsRevisedStore}
use Rattle.doc_model.specs.Meaning.{IsOp, reply_to, store_after}
use Rattle.doc_model.specs.declared.operations.Op.{Op}
use Rattle.doc_model.specs.declared.operations.Reply.{Reply}
use Rattle.doc_model.proofs.AfterSteps.{IsRevisedStore-after}
use Rattle.life_records.specs.Lives.{Names, store_at, HasReply}
use Rattle.life_records.specs.Scripts.{own_ops, named_op}
use Rattle.life_records.specs.Records.{Command, JournalLine, Life}
use Rattle.doc_text.specs.Grammar.{command_text}
use Rattle.script_text.specs.Report.{journal_text}
use Rattle.doc_store.specs.DocumentMeaning.{document_meaning}
use Rattle.doc_text.specs.Report.{document_wording}
use Rattle.plain_text.proofs.Decimals.{BeginsOutside, same_numbers, number_outside}
use Rattle.doc_commands.proofs.PlainReplies.{IsPlain, reply_plain, IsNoneOr, answer_text, same_after_answer}

-- the numbers of a line are within 64 bits
abbrev pub HasLineNumbers : JournalLine Reply → Type 0
HasLineNumbers line = (line.ticket < 2 ^ 64) × (line.client < 2 ^ 64) × (line.command < 2 ^ 64)

-- a line without its reply
abbrev pub bare : JournalLine Reply → JournalLine Reply
bare line = record line { reply = None }

-- A line whose command the life has. Its reply, if it has one, is that of the store before it.
pub record IsTold (lines : ℕ) (store : RevisedStore) (life : Life Op) (line : JournalLine Reply) : Type 0 where
  pub op : Op
  pub is : named_op life line.client line.command ≡ Some op
  pub reply : IsNoneOr (reply_to lines store op) line.reply
  pub plain : IsPlain (reply_to lines store op)
  pub numbers : HasLineNumbers line

-- the lines of a journal, one after another: each is right for the store that the lines before it lead to
abbrev pub AreTold : ℕ → RevisedStore → Life Op → List (JournalLine Reply) → Type 0
AreTold lines store life [] = Unit {0}
AreTold lines store life (line ∷ journal) =
    (is_told : IsTold lines store life line) × AreTold lines (store_after lines store is_told.op) life journal

pub value_of : {X : Type 0} (o : Option X) → IsSome o → (x : X) × (o ≡ Some x)
value_of None some = cc
value_of (Some x) some = (x, refl)

-- what holds of all items holds of each
slice_get-All : {X : Type 0} (P : X → Type 0) (xs : List X) (i : ℕ) (x : X) → All P xs → slice_get xs i ≡ Some x → P x
slice_get-All P [] i x all is = absurd cc
slice_get-All P (y ∷ xs) zero x all is = let same : y ≡ x = cc in subst P same (All-head P y xs all)
slice_get-All P (y ∷ xs) (suc i) x all is = slice_get-All P xs i x (All-tail P y xs all) is

-- a command that the life has asks for an operation within the limits
pub named_within : (life : Life Op) (client command : ℕ) (op : Op) → All (λ (c : Command Op). IsOp c.op) life.commands → named_op life client command ≡ Some op → IsOp op
named_within life client zero op ops is = absurd cc
named_within life client (suc before) op ops is =
    slice_get-All IsOp (own_ops client life.commands) before op
    (All-map IsOp (λ (c : Command Op). c.op) _ (All-filter (λ (c : Command Op). c.client == client) (λ (c : Command Op). IsOp c.op) life.commands ops)) is

store_at-cons : (lines : ℕ) (store : RevisedStore) (life : Life Op) (line : JournalLine Reply) (journal : List (JournalLine Reply)) (i : ℕ) (op : Op)
    → named_op life line.client line.command ≡ Some op
    → store_at (document_meaning lines) store life (line ∷ journal) (suc i) ≡ store_at (document_meaning lines) (store_after lines store op) life journal i
store_at-cons lines store life line journal i op is = rw is

-- no reply, or one that is equal to `r`, is none or `r`
none_or : (r : Reply) (reply : Option Reply) → IfSome reply (λ given. given ≡ r) → IsNoneOr r reply
none_or r None same = inl refl
none_or r (Some given) same = inr (ap Some same)

-- the replies by place are those of the stores one after another
pub AreTold-from_places : (lines : ℕ) (store : RevisedStore) (life : Life Op) (journal : List (JournalLine Reply)) → IsRevisedStore store → All (λ (c : Command Op). IsOp c.op) life.commands
    → All (λ line. Names life line.client line.command) journal → All HasLineNumbers journal
    → ((i : ℕ) (line : JournalLine Reply) → slice_get journal i ≡ Some line →
    IfSome line.reply (HasReply (document_meaning lines) (store_at (document_meaning lines) store life journal i) (named_op life line.client line.command)))
    → AreTold lines store life journal
AreTold-from_places lines store life [] s ops named numbers replies = tt
AreTold-from_places lines store life (line ∷ journal) s ops named numbers replies =
    let op = value_of (named_op life line.client line.command) (All-head (λ line. Names life line.client line.command) line journal named).there in
    let has : IfSome line.reply (HasReply (document_meaning lines) store (named_op life line.client line.command)) = replies 0 line refl in
    let is_op : IsOp op.0 = named_within life line.client line.command op.0 ops op.1 in (
      record {
        op = op.0;
        is = op.1;
        reply = none_or (reply_to lines store op.0) line.reply (rw op.1 at has);
        plain = reply_plain lines store op.0 s;
        numbers = All-head HasLineNumbers line journal numbers;
      },
      AreTold-from_places lines (store_after lines store op.0) life journal (IsRevisedStore-after lines store op.0 s is_op) ops
          (All-tail (λ line. Names life line.client line.command) line journal named)
          (All-tail HasLineNumbers line journal numbers)
          (λ i next is. rw (← store_at-cons lines store life line journal i op.0 op.1) (replies (suc i) next is)),
    )

-- the parts of a line, with what follows it
abbrev asked_text : Life Op → JournalLine Reply → List ℕ
asked_text life line = option_map_or command_text (named_op life line.client line.command) []

abbrev answer_end : Life Op → JournalLine Reply → List ℕ → List ℕ
answer_end life line x = asked_text life line ++ (codes " = " ++ (answer_text line.reply ++ 10 ∷ x))

journal_text-append : (life : Life Op) (line : JournalLine Reply) (x : List ℕ)
    → journal_text document_wording life line ++ x
    ≡ decimal line.ticket ++ 32 ∷ (decimal line.client ++ 46 ∷ (decimal line.command ++ 32 ∷ answer_end life line x))
journal_text-append life line x = simp append_assoc

same_op_named : (life : Life Op) (a b : JournalLine Reply) → a.client ≡ b.client → a.command ≡ b.command
    → named_op life a.client a.command ≡ named_op life b.client b.command
same_op_named life a b client command = ap (λ n. named_op life n a.command) client ∙ ap (named_op life b.client) command

-- the operations of lines are the same where their names are
same_op : (lines : ℕ) (store : RevisedStore) (life : Life Op) (a b : JournalLine Reply) (is_told : IsTold lines store life a) (other : IsTold lines store life b)
    → a.client ≡ b.client → a.command ≡ b.command → is_told.op ≡ other.op
same_op lines store life a b is_told other client command =
    let first = is_told.is in let second = other.is in
    let same = same_op_named life a b client command in
    cc

same_line : (a b : JournalLine Reply) → a.ticket ≡ b.ticket → a.client ≡ b.client → a.command ≡ b.command → a.reply ≡ b.reply → a ≡ b
same_line a b ticket client command reply = λ i. record { ticket = ticket i; client = client i; command = command i; reply = reply i }

-- where two lines `a` and `b`, right for one store, begin equal texts, with `x` and `y` behind them, they are the same but for replies, and `x` is `y`
same_first : (lines : ℕ) (store : RevisedStore) (life : Life Op) (a b : JournalLine Reply) (x y : List ℕ)
    → IsTold lines store life a → IsTold lines store life b
    → journal_text document_wording life a ++ x ≡ journal_text document_wording life b ++ y → (bare a ≡ bare b) × (x ≡ y)
same_first lines store life a b x y is_told other e =
    let parts = sym (journal_text-append life a x) ∙ e ∙ journal_text-append life b y in
    let ticket = same_numbers a.ticket b.ticket 32
    (decimal a.client ++ 46 ∷ (decimal a.command ++ 32 ∷ answer_end life a x))
    (decimal b.client ++ 46 ∷ (decimal b.command ++ 32 ∷ answer_end life b y))
    is_told.numbers.0 other.numbers.0 (lit≤ tt) parts in
    let client = same_numbers a.client b.client 46
    (decimal a.command ++ 32 ∷ answer_end life a x) (decimal b.command ++ 32 ∷ answer_end life b y)
    is_told.numbers.1 other.numbers.1 (lit≤ tt) ticket.1 in
    let command = same_numbers a.command b.command 32 (answer_end life a x) (answer_end life b y)
    is_told.numbers.2 other.numbers.2 (lit≤ tt) client.1 in
    let op = same_op lines store life a b is_told other client.0 command.0 in
    let asked : asked_text life a ≡ asked_text life b = ap (λ o. option_map_or command_text o []) (same_op_named life a b client.0 command.0) in
    let answers = append_cancel_left (codes " = ") (answer_text a.reply ++ 10 ∷ x) (answer_text b.reply ++ 10 ∷ y)
    (append_cancel_left (asked_text life a) (codes " = " ++ (answer_text a.reply ++ 10 ∷ x)) (codes " = " ++ (answer_text b.reply ++ 10 ∷ y))
    (command.1 ∙ ap (λ t. t ++ (codes " = " ++ (answer_text b.reply ++ 10 ∷ y))) (sym asked))) in
    let one : IsNoneOr (reply_to lines store is_told.op) b.reply = subst (λ o. IsNoneOr (reply_to lines store o) b.reply) (sym op) other.reply in (
      same_line (bare a) (bare b) ticket.0 client.0 command.0 refl,
      same_after_answer (reply_to lines store is_told.op) a.reply b.reply x y is_told.plain is_told.reply one answers,
    )

-- a text `y` that begins with no digit does not begin with a line of a journal
no_line : (life : Life Op) (line : JournalLine Reply) (x y : List ℕ) → HasLineNumbers line → BeginsOutside y → journal_text document_wording life line ++ x ≡ y → ⊥
no_line life line x y numbers outside e =
    number_outside line.ticket (32 ∷ (decimal line.client ++ 46 ∷ (decimal line.command ++ 32 ∷ answer_end life line x))) y numbers.0 outside
    (sym (journal_text-append life line x) ∙ e)

-- two journals with the same text, right from one store on, are the same but for replies, and the texts behind them are the same
pub same_journals : (lines : ℕ) (store : RevisedStore) (life : Life Op) (a b : List (JournalLine Reply)) (x y : List ℕ)
    → AreTold lines store life a → AreTold lines store life b → BeginsOutside x → BeginsOutside y
    → flat_map (journal_text document_wording life) a ++ x ≡ flat_map (journal_text document_wording life) b ++ y → (map bare a ≡ map bare b) × (x ≡ y)
same_journals lines store life [] [] x y are_told others x_outside y_outside e = (refl, e)
same_journals lines store life [] (line ∷ b) x y are_told others x_outside y_outside e =
    absurd (no_line life line (flat_map (journal_text document_wording life) b ++ y) x others.0.numbers x_outside
    (sym (append_assoc (journal_text document_wording life line) (flat_map (journal_text document_wording life) b) y) ∙ sym e))
same_journals lines store life (line ∷ a) [] x y are_told others x_outside y_outside e =
    absurd (no_line life line (flat_map (journal_text document_wording life) a ++ x) y are_told.0.numbers y_outside
    (sym (append_assoc (journal_text document_wording life line) (flat_map (journal_text document_wording life) a) x) ∙ e))
same_journals lines store life (line ∷ a) (next ∷ b) x y are_told others x_outside y_outside e =
    let text = sym (append_assoc (journal_text document_wording life line) (flat_map (journal_text document_wording life) a) x) ∙ e
    ∙ append_assoc (journal_text document_wording life next) (flat_map (journal_text document_wording life) b) y in
    let first = same_first lines store life line next (flat_map (journal_text document_wording life) a ++ x) (flat_map (journal_text document_wording life) b ++ y) are_told.0 others.0 text in
    let same : bare line ≡ bare next = first.0 in
    let op : are_told.0.op ≡ others.0.op = same_op lines store life line next are_told.0 others.0 (ap (λ (l : JournalLine Reply). l.client) same) (ap (λ (l : JournalLine Reply). l.command) same) in
    let P : Op → Type 0 = λ o. AreTold lines (store_after lines store o) life b in
    let found = same_journals lines (store_after lines store are_told.0.op) life a b x y are_told.1 (subst P (sym op) others.1) x_outside y_outside first.1 in
    let tail : map bare a ≡ map bare b = found.0 in
    (cc, found.1)

-- ---- replies

-- a line tells a reply exactly where a test passes
abbrev pub IsAnsweredBy : (JournalLine Reply → Bool) → JournalLine Reply → Type 0
IsAnsweredBy test line = is_some line.reply ≡ test line

-- `a` and `b`, each no reply or the reply `r`, are the same where both or neither of them tell one
same_reply : (r : Reply) (a b : Option Reply) → IsNoneOr r a → IsNoneOr r b → is_some a ≡ is_some b → a ≡ b
same_reply r a b (inl none) (inl also) same = none ∙ sym also
same_reply r a b (inl none) (inr some) same = let h : false ≡ true = rw (none, some) at same in absurd cc
same_reply r a b (inr some) (inl none) same = let h : true ≡ false = rw (some, none) at same in absurd cc
same_reply r a b (inr some) (inr also) same = some ∙ sym also

-- journals that are the same but for replies, and tell a reply where one test passes that looks at no reply, are the same
pub same_replies : (lines : ℕ) (store : RevisedStore) (life : Life Op) (test : JournalLine Reply → Bool) → ((line : JournalLine Reply) → test (bare line) ≡ test line)
    → (a b : List (JournalLine Reply)) → AreTold lines store life a → AreTold lines store life b
    → All (IsAnsweredBy test) a → All (IsAnsweredBy test) b → map bare a ≡ map bare b → a ≡ b
same_replies lines store life test blind [] [] are_told others answered also same = refl
same_replies lines store life test blind (line ∷ a) (next ∷ b) are_told others answered also same =
    let first : bare line ≡ bare next = cc in
    let rest : map bare a ≡ map bare b = cc in
    let client : line.client ≡ next.client = ap (λ (l : JournalLine Reply). l.client) first in
    let command : line.command ≡ next.command = ap (λ (l : JournalLine Reply). l.command) first in
    let op : are_told.0.op ≡ others.0.op = same_op lines store life line next are_told.0 others.0 client command in
    let one : IsNoneOr (reply_to lines store are_told.0.op) next.reply = subst (λ o. IsNoneOr (reply_to lines store o) next.reply) (sym op) others.0.reply in
    let alike : is_some line.reply ≡ is_some next.reply =
    All-head (IsAnsweredBy test) line a answered ∙ sym (blind line) ∙ ap test first ∙ blind next ∙ sym (All-head (IsAnsweredBy test) next b also) in
    let here : line ≡ next = same_line line next (ap (λ (l : JournalLine Reply). l.ticket) first) client command
    (same_reply (reply_to lines store are_told.0.op) line.reply next.reply are_told.0.reply one alike) in
    let P : Op → Type 0 = λ o. AreTold lines (store_after lines store o) life b in
    let tail : a ≡ b = same_replies lines (store_after lines store are_told.0.op) life test blind a b are_told.1 (subst P (sym op) others.1)
    (All-tail (IsAnsweredBy test) line a answered) (All-tail (IsAnsweredBy test) next b also) rest in
    cc
same_replies lines store life test blind _ _ are_told others answered also same = absurd cc
