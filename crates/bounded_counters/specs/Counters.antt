-- Counters below a bound: what each operation means, and the images that stand for them.
use Rattle.std.specs.Prelude.{◌≡◌, ◌+◌, ◌-◌, ◌*◌, ◌<◌, ◌&&◌, nat_lt, ℕ, Bool, true, false, List, ◌∷◌, All, drop, length, replicate, slice_index, slice_set, if◌then◌else◌, IsTrue}
use Rattle.bounded_counters.specs.Operations.{op_in, reply_words}
use Rattle.bounded_counters.specs.declared.operations.Op.{Op}
use Rattle.bounded_counters.specs.declared.operations.Op.TheVariants.{Add, Read, Other}
use Rattle.bounded_counters.specs.declared.operations.Reply.{Reply}
use Rattle.bounded_counters.specs.declared.operations.Reply.TheVariants.{Value, Full, Missing, NoOperation}
use Rattle.cx_base.specs.Memory.{Always}
use Rattle.cx_base.specs.declared.memory.Memory.{Ghosts}

-- whether there is this counter
abbrev pub has_counter : List ℕ → ℕ → Bool
has_counter counters counter = nat_lt counter (length counters)

-- the sum of an addition to a counter, and whether it stays below the bound
abbrev pub sum_at : List ℕ → ℕ → ℕ → ℕ
sum_at counters counter amount = slice_index counters counter + amount

abbrev pub fits : ℕ → List ℕ → ℕ → ℕ → Bool
fits bound counters counter amount = nat_lt (sum_at counters counter amount) bound

-- the reply to an operation
abbrev pub counters_reply : ℕ → List ℕ → Op → Reply
counters_reply bound counters (Add counter amount) =
    if has_counter counters counter
    then (if fits bound counters counter amount then Value (sum_at counters counter amount) else Full)
    else Missing
counters_reply bound counters (Read counter) =
    if has_counter counters counter then Value (slice_index counters counter) else Missing
counters_reply bound counters Other = NoOperation

-- the counters after it
abbrev pub counters_after : ℕ → List ℕ → Op → List ℕ
counters_after bound counters (Add counter amount) =
    if has_counter counters counter && fits bound counters counter amount
    then slice_set counters counter (sum_at counters counter amount)
    else counters
counters_after bound counters _ = counters

-- an image of this many lines: the version, and behind it one word for each counter, which is below the bound
pub record IsCounters (lines bound : ℕ) (image : List ℕ) : Type 0 where
  pub counters : List ℕ
  pub is : image ≡ 1 ∷ counters
  pub long : length image ≡ 8 * lines
  pub bounded : All (λ count. count < bound) counters

-- a memory whose words stand for such an image
pub record HoldsCounters {Memory : Type 0} (m : Ghosts Memory) (lines bound : ℕ) (mem : Memory) : Type 0 where
  pub size : m.size mem ≡ 8 * lines
  pub lawful : Always (m.stands mem) (IsCounters lines bound)

-- a memory that may be stored to, whose words stand for such an image
pub record MayChangeCounters {Memory : Type 0} (m : Ghosts Memory) (lines bound : ℕ) (mem : Memory) : Type 0 where
  pub holds : HoldsCounters m lines bound mem
  pub writable : IsTrue (m.writable mem)

-- every counter is 0
abbrev pub counters_opening : ℕ → List ℕ
counters_opening lines = 1 ∷ replicate (8 * lines - 1) 0

-- one step: the image after an operation's words, and the reply's words
abbrev pub counters_step : ℕ → List ℕ → List ℕ → List ℕ × List ℕ
counters_step bound image op =
    (1 ∷ counters_after bound (drop 1 image) (op_in op), reply_words (counters_reply bound (drop 1 image) (op_in op)))

-- an operation was done on an image: this is its reply, and this the image after it
pub record StepsCounters (bound : ℕ) (op : Op) (reply : Reply) (before now : List ℕ) : Type 0 where
  pub told : reply ≡ counters_reply bound (drop 1 before) op
  pub after : now ≡ 1 ∷ counters_after bound (drop 1 before) op

-- whether an operation, or what words ask for, only reads
abbrev pub is_reading : Op → Bool
is_reading (Read counter) = true
is_reading _ = false

abbrev pub counters_read_only : List ℕ → Bool
counters_read_only op = is_reading (op_in op)
