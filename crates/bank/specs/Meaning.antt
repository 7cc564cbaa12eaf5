-- What the operations mean, and which images there are.
use Rattle.std.specs.Prelude.{◌≡◌, ◌+◌, ◌-◌, ◌*◌, ◌^◌, ◌<◌, ◌≤◌, ◌&&◌, nat_le, nat_lt, ℕ, Bool, true, false, List, ◌∷◌, drop, replicate, slice_index, slice_set, sum, take, if◌then◌else◌, IsTrue}
use Rattle.cx_base.specs.Memory.{Always, Words}
use Rattle.bank.specs.Operations.{op_in, reply_words}
use Rattle.bank.specs.declared.operations.Op.{Op}
use Rattle.bank.specs.declared.operations.Op.TheVariants.{Transfer, Balance, Audit, Other}
use Rattle.bank.specs.declared.operations.Reply.{Reply}
use Rattle.bank.specs.declared.operations.Reply.TheVariants.{Moved, Overdraft, Value, Missing, NoOperation}
use Rattle.cx_base.specs.declared.memory.Memory.{Ghosts}

-- this many accounts fit this many lines, and what they have together a word
pub record FitsAccounts (lines count total : ℕ) : Type 0 where
  pub some : 1 ≤ count
  pub few : count < 8 * lines
  pub small : total + 1 < 2 ^ 64

-- what the accounts have: this many words after the version
abbrev pub accounts_in : ℕ → List ℕ → List ℕ
accounts_in count image = take count (drop 1 image)

-- an image in this many lines: the version, this many accounts, whose sum is the total, and any words after them
pub record IsBank (lines count total : ℕ) (image : List ℕ) : Type 0 where
  pub words : Words (8 * lines) image
  pub version : slice_index image 0 ≡ 1
  pub sum_is : sum (accounts_in count image) ≡ total

-- a memory of the given number of lines, whose words are an image of a bank of these accounts and this total
pub record HoldsBank {Memory : Type 0} (m : Ghosts Memory) (lines count total : ℕ) (mem : Memory) : Type 0 where
  pub size : m.size mem ≡ 8 * lines
  pub lawful : Always (m.stands mem) (IsBank lines count total)

-- a memory that holds an image of a bank, and may be stored to
pub record MayChangeBank {Memory : Type 0} (m : Ghosts Memory) (lines count total : ℕ) (mem : Memory) : Type 0 where
  pub holds : HoldsBank m lines count total mem
  pub writable : IsTrue (m.writable mem)

-- what an account has
abbrev pub amount_of : List ℕ → ℕ → ℕ
amount_of image account = slice_index image (account + 1)

-- an image in which an account has another amount
abbrev pub with_amount : List ℕ → ℕ → ℕ → List ℕ
with_amount image account amount = slice_set image (account + 1) amount

-- an image in which no account has anything
abbrev pub blank : ℕ → List ℕ
blank lines = 1 ∷ replicate (8 * lines - 1) 0

-- the opening image: account 0 has all
abbrev pub bank_opening : ℕ → ℕ → List ℕ
bank_opening lines total = with_amount (blank lines) 0 total

-- an image after an amount is taken from an account
abbrev pub withdrawn : List ℕ → ℕ → ℕ → List ℕ
withdrawn image from amount = with_amount image from (amount_of image from - amount)

-- an image after an amount is given to an account
abbrev pub given : List ℕ → ℕ → ℕ → List ℕ
given image to amount = with_amount image to (amount_of image to + amount)

-- whether there are both accounts
abbrev pub are_accounts : ℕ → ℕ → ℕ → Bool
are_accounts count from to = nat_lt from count && nat_lt to count

-- whether an account has the amount
abbrev pub covers : List ℕ → ℕ → ℕ → Bool
covers image from amount = nat_le amount (amount_of image from)

-- the reply to an operation
abbrev pub reply_to : ℕ → List ℕ → Op → Reply
reply_to count image (Transfer from to amount) =
    if are_accounts count from to
    then (if covers image from amount then Moved else Overdraft (amount_of image from))
    else Missing
reply_to count image (Balance account) = if nat_lt account count then Value (amount_of image account) else Missing
reply_to count image Audit = Value (sum (accounts_in count image))
reply_to count image Other = NoOperation

-- the image after an operation
abbrev pub accounts_after : ℕ → List ℕ → Op → List ℕ
accounts_after count image (Transfer from to amount) =
    if are_accounts count from to && covers image from amount then given (withdrawn image from amount) to amount else image
accounts_after count image _ = image

-- one step: the image after an operation's words, and the reply's words
abbrev pub bank_step : ℕ → List ℕ → List ℕ → List ℕ × List ℕ
bank_step count image op = (accounts_after count image (op_in op), reply_words (reply_to count image (op_in op)))

-- an operation was done on an image: this is its reply, and this the image after it
pub record StepsAccounts (count : ℕ) (op : Op) (reply : Reply) (before now : List ℕ) : Type 0 where
  pub reply_is : reply ≡ reply_to count before op
  pub after : now ≡ accounts_after count before op

-- whether an operation only reads
abbrev pub is_reading : Op → Bool
is_reading (Balance account) = true
is_reading Audit = true
is_reading _ = false

-- whether what words ask for only reads
abbrev pub bank_reads : List ℕ → Bool
bank_reads op = is_reading (op_in op)
