-- Operations and replies are read back from their words.
use Rattle.std.specs.Prelude.{◌≡◌, refl}
use Rattle.bank.specs.declared.operations.Op.{Op}
use Rattle.bank.specs.declared.operations.Op.TheVariants.{Transfer, Balance, Audit, Other}
use Rattle.bank.specs.declared.operations.Reply.{Reply}
use Rattle.bank.specs.declared.operations.Reply.TheVariants.{Moved, Overdraft, Value, Missing, NoOperation}
use Rattle.bank.specs.Operations.{words_with, op_words, op_in, reply_words, reply_in}

-- both are read back
pub op_is_read : (op : Op) → op_in (op_words op) ≡ op
unfolding words_with
op_is_read (Transfer from to amount) = refl
op_is_read (Balance account) = refl
op_is_read Audit = refl
op_is_read Other = refl

pub reply_is_read : (reply : Reply) → reply_in (reply_words reply) ≡ reply
unfolding words_with
reply_is_read Moved = refl
reply_is_read (Overdraft has) = refl
reply_is_read (Value has) = refl
reply_is_read Missing = refl
reply_is_read NoOperation = refl
