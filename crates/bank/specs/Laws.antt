-- The laws of the bank as an object, and that no step changes the sum.
use Rattle.std.specs.Prelude.{◌≡◌, ◌+◌, ◌-◌, ◌*◌, ◌^◌, ◌<◌, ◌≤◌, ◌&&◌, nat_lt, ℕ, suc, Bool, true, false, cond, List, ◌∷◌, drop, length, replicate, slice_index, slice_set, sum, take, IsTrue, refl}
use Rattle.std.proofs.Common.{ap, sym, ◌∙◌, arith, lit<}
use Rattle.std.proofs.Math.Seq.{take-set-lt}
use Rattle.std.proofs.lemmas.Bool.{and_parts, leb-true}
use Rattle.std.proofs.lemmas.Grind.{get_or_after_one}
use Rattle.std.proofs.lemmas.List.{drop-set-add, get_or-replicate, get_or-set_other, get_or-set_same, get_or-take, length-drop, length-replicate, length-set, length-take}
use Rattle.std.proofs.lemmas.List.Elements.{All-cons, All-replicate}
use Rattle.std.proofs.lemmas.List.Folds.{sum_by-replicate}
use Rattle.std.proofs.lemmas.List.Sums.{sum_by-set, sum_by-take-le, sum_by_more_le}
use Rattle.cx_base.specs.Memory.{Words}
use Rattle.cx_base.specs.WordLaws.{Words-set}
use Rattle.bank.specs.Meaning.{FitsAccounts, IsBank, accounts_in, amount_of, are_accounts, bank_opening, bank_reads, bank_step, blank, covers, given, accounts_after, is_reading, reply_to, withdrawn, with_amount}
use Rattle.bank.specs.Operations.{op_in, reply_words, words_with}
use Rattle.bank.specs.declared.operations.Op.{Op}
use Rattle.bank.specs.declared.operations.Op.TheVariants.{Transfer, Balance, Audit, Other}
use Rattle.bank.specs.declared.operations.Reply.{Reply}
use Rattle.bank.specs.declared.operations.Reply.TheVariants.{Moved, Overdraft, Value, Missing, NoOperation}

-- a number of 64 bits
abbrev Small : ℕ → Type 0
Small n = n < 2 ^ 64

-- a reply whose number, if it has one, is of 64 bits
abbrev IsSmallReply : Reply → Type 0
IsSmallReply (Overdraft has) = Small has
IsSmallReply (Value has) = Small has
IsSmallReply _ = Unit {0}

module _ (count : ℕ) (image : List ℕ) (long : count < length image) where
  -- there are this many accounts
  pub accounts_long : length (accounts_in count image) ≡ count
  accounts_long = omega (arith, length-take count (drop 1 image), length-drop 1 image)

  -- what an account has is among them
  pub account_at : (account : ℕ) → account < count → slice_index (accounts_in count image) account ≡ amount_of image account
  account_at account there = get_or-take count (drop 1 image) account 0 there ∙ get_or_after_one image account 0 ∙ ap (slice_index image) (omega arith)

  -- to put an amount is to put it among them
  account_put : (account amount : ℕ) → account < count → accounts_in count (with_amount image account amount) ≡ slice_set (accounts_in count image) account amount
  account_put account amount there =
      let one : account + 1 ≡ 1 + account = omega arith in
      ap (λ (k : ℕ). take count (drop 1 (slice_set image k amount))) one ∙ ap (take count) (drop-set-add 1 image account amount) ∙ take-set-lt count (drop 1 image) account amount there

  -- to put an amount changes the sum by what the account gains
  pub sum_put : (account amount : ℕ) → account < count → sum (accounts_in count (with_amount image account amount)) + amount_of image account ≡ sum (accounts_in count image) + amount
  sum_put account amount there =
      let within : account < length (accounts_in count image) = omega (arith, accounts_long) in
      ap (λ (xs : List ℕ). sum xs + amount_of image account) (account_put account amount there)
      ∙ ap (λ (n : ℕ). sum (slice_set (accounts_in count image) account amount) + n) (sym (account_at account there))
      ∙ sum_by-set (λ x. x) (accounts_in count image) account amount 0 within

  -- and an account has no more than all
  pub account_within : (account : ℕ) → account < count → amount_of image account ≤ sum (accounts_in count image)
  account_within account there =
      let within : account < length (accounts_in count image) = omega (arith, accounts_long) in
      omega (arith, account_at account there, sum_by_more_le (λ (x : ℕ). x) (accounts_in count image) account 0 within)

-- a transfer that is covered leaves the sum
pub moved_sum : (count : ℕ) (image : List ℕ) (from to amount : ℕ) → count < length image → from < count → to < count → amount ≤ amount_of image from
    → sum (accounts_in count (given (withdrawn image from amount) to amount)) ≡ sum (accounts_in count image)
moved_sum count image from to amount long f t covered =
    let one = withdrawn image from amount in
    let one_long : count < length one = omega (arith, length-set image (from + 1) (amount_of image from - amount)) in
    let a : sum (accounts_in count one) + amount_of image from ≡ sum (accounts_in count image) + (amount_of image from - amount) = sum_put count image long from (amount_of image from - amount) f in
    let b : sum (accounts_in count (given one to amount)) + amount_of one to ≡ sum (accounts_in count one) + (amount_of one to + amount) = sum_put count one one_long to (amount_of one to + amount) t in
    omega arith

-- a fact of a choice, whose first part may use that the test passed
pub by_test : {A : Type 0} (P : A → Type 0) (b : Bool) (x y : A) → (b ≡ true → P x) → P y → P (cond b x y)
by_test P true x y p q = p refl
by_test P false x y p q = q

-- a test that passed: there are both accounts, and the amount is covered
pub record IsAmountCovered (count : ℕ) (image : List ℕ) (from to amount : ℕ) : Type 0 where
  pub from_is : from < count
  pub to_is : to < count
  pub enough : amount ≤ amount_of image from

pub covered_of : (count : ℕ) (image : List ℕ) (from to amount : ℕ) → (are_accounts count from to && covers image from amount) ≡ true → IsAmountCovered count image from to amount
covered_of count image from to amount passes =
    let p = and_parts (are_accounts count from to) (covers image from amount) passes in
    let q = and_parts (nat_lt from count) (nat_lt to count) p.0 in
    record { from_is = leb-true (suc from) count q.0; to_is = leb-true (suc to) count q.1; enough = leb-true amount (amount_of image from) p.1 }

-- before the first amount is put no account has any
blank_words : (lines : ℕ) → 0 < lines → Words (8 * lines) (blank lines)
blank_words lines some = record {
  long = omega (arith, some, length-replicate {A = ℕ} (8 * lines - 1) 0);
  fit = All-cons Small 1 (replicate (8 * lines - 1) 0) (lit< tt) (All-replicate Small (8 * lines - 1) 0 (lit< tt));
}

-- the opening image is one
pub opens : (lines count total : ℕ) → FitsAccounts lines count total → IsBank lines count total (bank_opening lines total)
opens lines count total fits =
    let words : Words (8 * lines) (blank lines) = blank_words lines (omega (arith, fits.few)) in
    let zeros : List ℕ = replicate (8 * lines - 1) 0 in
    let long : count < length (blank lines) = omega (arith, fits.few, words.long) in
    let none : sum (accounts_in count (blank lines)) ≤ 0 = omega (arith, sum_by-take-le (λ (x : ℕ). x) zeros count, sum_by-replicate (λ (x : ℕ). x) (8 * lines - 1) 0) in
    let put : sum (accounts_in count (with_amount (blank lines) 0 total)) + amount_of (blank lines) 0 ≡ sum (accounts_in count (blank lines)) + total = sum_put count (blank lines) long 0 total (omega (arith, fits.some)) in
    let first : amount_of (blank lines) 0 ≡ 0 = get_or-replicate (8 * lines - 1) 0 0 0 (omega (arith, fits.some, fits.few)) in
    record { words = Words-set (8 * lines) (blank lines) 1 total (omega (arith, fits.small)) words; version = refl; sum_is = omega (arith, none, put, first) }

-- a bank has more words than accounts
pub long_of : (lines count total : ℕ) → FitsAccounts lines count total → (image : List ℕ) → IsBank lines count total image → count < length image
long_of lines count total fits image i = omega (arith, fits.few, i.words.long)

-- what an account has is of 64 bits
amount_small : (lines count total : ℕ) → FitsAccounts lines count total → (image : List ℕ) → IsBank lines count total image → (account : ℕ) → account < count → Small (amount_of image account)
amount_small lines count total fits image i account there = omega (arith, fits.small, i.sum_is, account_within count image (long_of lines count total fits image i) account there)

-- a transfer leaves words of 64 bits, since the sum is as it was
given_words : (lines count total : ℕ) → FitsAccounts lines count total → (image : List ℕ) → IsBank lines count total image → (from to amount : ℕ) → IsAmountCovered count image from to amount → Words (8 * lines) (given (withdrawn image from amount) to amount)
given_words lines count total fits image i from to amount c =
    let long = long_of lines count total fits image i in
    let one = withdrawn image from amount in
    let left = amount_of image from - amount in
    let has : Small (amount_of image from) = amount_small lines count total fits image i from c.from_is in
    let one_words : Words (8 * lines) one = Words-set (8 * lines) image (from + 1) left (omega arith) i.words in
    let next = given one to amount in
    let next_long : count < length next = omega (arith, fits.few, one_words.long, length-set one (to + 1) (amount_of one to + amount)) in
    let same : sum (accounts_in count next) ≡ sum (accounts_in count image) = moved_sum count image from to amount long c.from_is c.to_is c.enough in
    let here : amount_of next to ≡ amount_of one to + amount = get_or-set_same one (to + 1) (amount_of one to + amount) 0 (omega (arith, one_words.long, fits.few, c.to_is)) in
    let within : amount_of next to ≤ sum (accounts_in count next) = account_within count next next_long to c.to_is in
    Words-set (8 * lines) one (to + 1) (amount_of one to + amount) (omega (arith, here, within, same, i.sum_is, fits.small)) one_words

-- a step of an image leaves an image
kept : (lines count total : ℕ) → FitsAccounts lines count total → (image : List ℕ) (op : Op) → IsBank lines count total image → IsBank lines count total (accounts_after count image op)
kept lines count total fits image (Transfer from to amount) i =
    by_test (IsBank lines count total) (are_accounts count from to && covers image from amount) (given (withdrawn image from amount) to amount) image
    (λ passes.
    (let c = covered_of count image from to amount passes in
    let one = withdrawn image from amount in
    record {
      words = given_words lines count total fits image i from to amount c;
      version = get_or-set_other one (to + 1) 0 (amount_of one to + amount) 0 (λ e. omega (arith, e)) ∙ get_or-set_other image (from + 1) 0 (amount_of image from - amount) 0 (λ e. omega (arith, e)) ∙ i.version;
      sum_is = moved_sum count image from to amount (long_of lines count total fits image i) c.from_is c.to_is c.enough ∙ i.sum_is;
    }))
    i
kept lines count total fits image (Balance account) i = i
kept lines count total fits image Audit i = i
kept lines count total fits image Other i = i

-- a step of an image by the words of an operation leaves an image
pub keeps : (lines count total : ℕ) → FitsAccounts lines count total → (image op : List ℕ) → IsBank lines count total image → IsBank lines count total (bank_step count image op).0
keeps lines count total fits image op i = kept lines count total fits image (op_in op) i

-- an image has 8 words in each line, the first of which is the version
pub shape : (lines count total : ℕ) (image : List ℕ) → IsBank lines count total image → Words (8 * lines) image × (slice_index image 0 ≡ 1)
shape lines count total image i = (i.words, i.version)

-- the words of a kind and a number, each of 64 bits, are 144 of 64 bits
words_with_fit : (kind has : ℕ) → Small kind → Small has → Words 144 (words_with kind has 0 0)
unfolding words_with
words_with_fit kind has k h =
    let rest : List ℕ = 0 ∷ 0 ∷ replicate 140 0 in
    let zeros : List ℕ = replicate 140 0 in
    record {
      long = ap (λ n. suc (suc (suc (suc n)))) (length-replicate {A = ℕ} 140 0);
      fit = All-cons Small kind (has ∷ rest) k (All-cons Small has rest h (All-cons Small 0 (0 ∷ zeros) (lit< tt) (All-cons Small 0 zeros (lit< tt) (All-replicate Small 140 0 (lit< tt)))));
    }

-- the words of a reply whose number is of 64 bits are 144 of 64 bits
reply_fits : (reply : Reply) → IsSmallReply reply → Words 144 (reply_words reply)
reply_fits Moved small = words_with_fit 1 0 (lit< tt) (lit< tt)
reply_fits (Overdraft has) small = words_with_fit 2 has (lit< tt) small
reply_fits (Value has) small = words_with_fit 3 has (lit< tt) small
reply_fits Missing small = words_with_fit 4 0 (lit< tt) (lit< tt)
reply_fits NoOperation small = words_with_fit 0 0 (lit< tt) (lit< tt)

-- the reply to an operation on a lawful image has a number of 64 bits
reply_is_small : (lines count total : ℕ) → FitsAccounts lines count total → (image : List ℕ) (op : Op) → IsBank lines count total image → IsSmallReply (reply_to count image op)
reply_is_small lines count total fits image (Transfer from to amount) i =
    by_test IsSmallReply (are_accounts count from to) (cond (covers image from amount) Moved (Overdraft (amount_of image from))) Missing
    (λ passes.
    (let q = and_parts (nat_lt from count) (nat_lt to count) passes in
    by_test IsSmallReply (covers image from amount) Moved (Overdraft (amount_of image from)) (λ _. tt) (amount_small lines count total fits image i from (leb-true (suc from) count q.0))))
    tt
reply_is_small lines count total fits image (Balance account) i =
    by_test IsSmallReply (nat_lt account count) (Value (amount_of image account)) Missing (λ passes. amount_small lines count total fits image i account (leb-true (suc account) count passes)) tt
reply_is_small lines count total fits image Audit i = omega (arith, fits.small, i.sum_is)
reply_is_small lines count total fits image Other i = tt

-- the reply's words of a step of an image are 144 of 64 bits
pub replies : (lines count total : ℕ) → FitsAccounts lines count total → (image op : List ℕ) → IsBank lines count total image → Words 144 (bank_step count image op).1
replies lines count total fits image op i = reply_fits (reply_to count image (op_in op)) (reply_is_small lines count total fits image (op_in op) i)

-- an operation that only reads leaves the image
left_by_reading : (count : ℕ) (image : List ℕ) (op : Op) → IsTrue (is_reading op) → accounts_after count image op ≡ image
left_by_reading count image (Transfer from to amount) reads = cc
left_by_reading count image (Balance account) reads = refl
left_by_reading count image Audit reads = refl
left_by_reading count image Other reads = refl

-- a step by the words of an operation that only reads leaves the image
pub leaves : (lines count total : ℕ) (image op : List ℕ) → IsTrue (bank_reads op) → (bank_step count image op).0 ≡ image
leaves lines count total image op reads = left_by_reading count image (op_in op) reads
