-- The sum of a bank's accounts, and how much one of them has.
use Rattle.std.specs.Prelude.{◌≡◌, ◌+◌, ◌-◌, ◌<◌, ◌≤◌, ◌&&◌, ℕ, List, length, sum, take, refl}
use Rattle.std.proofs.Common.{ap, ◌∙◌, arith}
use Rattle.std.proofs.lemmas.List.{length-set}
use Rattle.std.proofs.lemmas.List.Sums.{sum_by_more, sum_by_more_le}
use Rattle.bank.specs.Meaning.{FitsAccounts, IsBank, accounts_in, amount_of, are_accounts, bank_step, covers, given, accounts_after, withdrawn}
use Rattle.bank.specs.Operations.{op_in}
use Rattle.bank.specs.declared.operations.Op.{Op}
use Rattle.bank.specs.declared.operations.Op.TheVariants.{Transfer, Balance, Audit, Other}
use Rattle.bank.specs.Laws.{accounts_long, account_at, sum_put, account_within, moved_sum, by_test, covered_of, long_of}

-- no operation changes the sum
pub sum_after : (count : ℕ) (image : List ℕ) (op : Op) → count < length image → sum (accounts_in count (accounts_after count image op)) ≡ sum (accounts_in count image)
sum_after count image (Transfer from to amount) long =
    by_test (λ (next : List ℕ). sum (accounts_in count next) ≡ sum (accounts_in count image)) (are_accounts count from to && covers image from amount)
    (given (withdrawn image from amount) to amount) image
    (λ passes. (let c = covered_of count image from to amount passes in moved_sum count image from to amount long c.from_is c.to_is c.enough))
    refl
sum_after count image (Balance account) long = refl
sum_after count image Audit long = refl
sum_after count image Other long = refl

-- and none in words
pub sum_after_words : (count : ℕ) (image op : List ℕ) → count < length image → sum (accounts_in count (bank_step count image op).0) ≡ sum (accounts_in count image)
sum_after_words count image op long = sum_after count image (op_in op) long

-- An account has at most the total, also behind what is taken from another, and then less by that.
pub amount_at_most : (lines count total : ℕ) → FitsAccounts lines count total → (image : List ℕ) → IsBank lines count total image → (account : ℕ) → account < count → amount_of image account < total + 1
amount_at_most lines count total fits image i account there = omega (arith, i.sum_is, account_within count image (long_of lines count total fits image i) account there)

pub taken_at_most : (lines count total : ℕ) → FitsAccounts lines count total → (image : List ℕ) → IsBank lines count total image → (from to amount : ℕ) → from < count → to < count → amount ≤ amount_of image from
    → amount_of (withdrawn image from amount) to < total - amount + 1
taken_at_most lines count total fits image i from to amount f t enough =
    let long = long_of lines count total fits image i in
    let one = withdrawn image from amount in
    let one_long : count < length one = omega (arith, long, length-set image (from + 1) (amount_of image from - amount)) in
    let put : sum (accounts_in count one) + amount_of image from ≡ sum (accounts_in count image) + (amount_of image from - amount) = sum_put count image long from (amount_of image from - amount) f in
    omega (arith, i.sum_is, put, account_within count one one_long to t)

module _ (lines count total : ℕ) (fits : FitsAccounts lines count total) (image : List ℕ) (i : IsBank lines count total image) (account : ℕ) (there : account < count) where
  within : account < length (accounts_in count image)
  within = omega (arith, accounts_long count image (long_of lines count total fits image i))

  -- the accounts up to one, and that one
  pub next_sum : sum (take (account + 1) (accounts_in count image)) ≡ sum (take account (accounts_in count image)) + amount_of image account
  next_sum =
      sum_by_more (λ x. x) (accounts_in count image) account 0 within
      ∙ ap (λ (n : ℕ). sum (take account (accounts_in count image)) + n) (account_at count image (long_of lines count total fits image i) account there)

  pub next_at_most : sum (take account (accounts_in count image)) + amount_of image account ≤ total
  next_at_most =
      omega (arith, i.sum_is, account_at count image (long_of lines count total fits image i) account there, sum_by_more_le (λ (x : ℕ). x) (accounts_in count image) account 0 within)
