-- The counters as an object of operations and replies: what they mean over a list of counters, and how they stand in words.
use Rattle.std.specs.Prelude.{◌≡◌, ◌-◌, ◌*◌, ◌^◌, ◌<◌, ℕ, List, ◌∷◌, drop, length, replicate, refl}
use Rattle.std.proofs.Common.{ap, ap₂, sym, ◌∙◌, lit<}
use Rattle.bounded_counters.specs.Counters.{IsCounters, counters_after, counters_opening, counters_read_only, counters_reply, counters_step, is_reading}
use Rattle.bounded_counters.specs.CounterLaws.{words_with_fit}
use Rattle.bounded_counters.specs.Operations.{op_in, op_words, reply_in, reply_words, words_with}
use Rattle.bounded_counters.specs.declared.operations.Op.{Op}
use Rattle.bounded_counters.specs.declared.operations.Op.TheVariants.{Add, Read, Other}
use Rattle.bounded_counters.specs.declared.operations.Reply.{Reply}
use Rattle.bounded_counters.specs.declared.operations.Reply.TheVariants.{Value, Full, Missing, NoOperation}
use Rattle.cx_base.specs.Memory.{Words}
use Rattle.typed_object.specs.Meaning.{Encoding, HasMeaning, Meaning}

-- additions and readings are the operations
abbrev pub IsOp : Op → Type 0
IsOp Other = ⊥
IsOp _ = Unit {0}

-- numbers of 64 bits
abbrev pub IsOpValue : Op → Type 0
IsOpValue (Add counter amount) = (counter < 2 ^ 64) × (amount < 2 ^ 64)
IsOpValue (Read counter) = counter < 2 ^ 64
IsOpValue Other = Unit {0}

abbrev pub counter_encoding : Encoding Op Reply
counter_encoding = record { op_words = op_words; reply_words = reply_words }

-- what the operations mean in this many lines, below a bound
abbrev pub counter_meaning : ℕ → ℕ → Meaning Op Reply (List ℕ)
counter_meaning lines bound = record {
  encoding = counter_encoding;
  is_reading = is_reading;
  reply_to = counters_reply bound;
  store_after = counters_after bound;
  opening = replicate (8 * lines - 1) 0;
  items = λ counters. length counters;
  stands = λ image counters. image ≡ 1 ∷ counters;
  is_op = IsOp;
  is_op_value = IsOpValue;
  is_reply = λ reply. Unit {0};
  is_reply_value = λ reply. Unit {0};
}

-- operations and replies are read back from their words
op_is_read : (op : Op) → IsOp op → op_in (op_words op) ≡ op
unfolding words_with
op_is_read Other is = absurd is
op_is_read _ is = refl

pub reply_is_read : (reply : Reply) → reply_in (reply_words reply) ≡ reply
unfolding words_with
reply_is_read (Value count) = refl
reply_is_read Full = refl
reply_is_read Missing = refl
reply_is_read NoOperation = refl

op_fits : (op : Op) → IsOp op → IsOpValue op → Words 144 (op_words op)
op_fits (Add counter amount) is value = words_with_fit 1 counter amount (lit< tt) value.0 value.1
op_fits (Read counter) is value = words_with_fit 2 counter 0 (lit< tt) value (lit< tt)
op_fits Other is value = absurd is

-- the steps of images are what the operations mean
pub counters_have_meaning : (lines bound : ℕ) → HasMeaning (IsCounters lines bound) (counters_opening lines) (counters_step bound) counters_read_only (counter_meaning lines bound)
counters_have_meaning lines bound = record {
  some = λ image i. (i.counters, i.is);
  fit = op_fits;
  after = λ image store op i stands is value. ap₂ (λ (counters : List ℕ) (o : Op). 1 ∷ counters_after bound counters o) (ap (drop 1) stands) (op_is_read op is);
  answer = λ image store op i stands is value. ap₂ (λ (counters : List ℕ) (o : Op). reply_words (counters_reply bound counters o)) (ap (drop 1) stands) (op_is_read op is);
  replies = λ image store op i stands is value. tt;
  told = λ one other value is same. sym (reply_is_read one) ∙ ap reply_in same ∙ reply_is_read other;
  readings = λ op is value. ap is_reading (op_is_read op is);
  opens = refl;
}
