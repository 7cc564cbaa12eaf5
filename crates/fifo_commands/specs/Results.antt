-- What a base has of each client's commands of the lives before it.
use Rattle.std.specs.Prelude.{◌≡◌, ◌==◌, ◌<◌, ℕ, List, [], ◌∷◌, ◌++◌, length, replicate, take, Option, None, Some}
use Rattle.std.specs.List.{filter}
use Rattle.cx_core.specs.Region.{slot_number, slot_reply}
use Rattle.cx_core.specs.declared.entry.Base.{Base}
use Rattle.fifo_object.specs.Words.{reply_words}
use Rattle.fifo_object.specs.declared.operations.FifoReply.{FifoReply}
use Rattle.fifo_commands.specs.declared.record.FifoRecord.{FifoRecord}
use Rattle.life_records.specs.Records.{JournalLine}

-- the kept entries of a client, of all these lives, by ticket
abbrev pub kept_of : ℕ → List FifoRecord → List (JournalLine FifoReply)
kept_of client [] = []
kept_of client (report ∷ records) = filter (λ line. client == line.client) (take report.kept report.journal) ++ kept_of client records

-- the words of a line's reply
abbrev pub words_of_reply : Option FifoReply → List ℕ
words_of_reply None = replicate 144 0
words_of_reply (Some reply) = reply_words reply

-- the words of the last line's reply, and these where there is no line
abbrev pub last_words : List ℕ → List (JournalLine FifoReply) → List ℕ
last_words words [] = words
last_words words (line ∷ journal) = last_words (words_of_reply line.reply) journal

-- For each client the number of its kept entries of all these lives, and the words of the reply to the last of them, and 144 zeros
-- where there is none.
pub record HasResultsOf (records : List FifoRecord) (base : Base) : Type 0 where
  pub numbers : (client : ℕ) → client < 8 → slot_number client base.words ≡ length (kept_of client records)
  pub replies : (client : ℕ) → client < 8 → slot_reply client base.words ≡ last_words (replicate 144 0) (kept_of client records)
