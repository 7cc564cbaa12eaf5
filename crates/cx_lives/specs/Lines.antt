-- The line that is noted of a client's answer.
use Rattle.std.specs.Prelude.{◌≡◌, ℕ, Bool, true, false, [], ◌∷◌, ◌++◌, Some}
use Rattle.cx_core.specs.declared.local.Answer.{Answer}
use Rattle.cx_attempts.specs.declared.lookup.Seen.{Seen}
use Rattle.life_records.specs.Records.{AreOfNoReply, Meaning}
use Rattle.cx_lives.specs.declared.lines.Lines.{Lines}

-- The lines of a client are one entry's more: that of its command of this number, with the reply that has the answer's words.
pub record NotesEntryLine {Op Reply Store : Type 0} (m : Meaning Op Reply Store) (client number : ℕ) (answer : Answer) (before after : Lines Reply) : Type 0 where
  pub reply : Reply
  pub words : m.encoding.reply_words reply ≡ answer.reply
  pub entries_are : after.entries.items ≡ before.entries.items ++ record { ticket = answer.ticket; client = client; command = number; reply = Some reply } ∷ []
  pub reads_are : after.reads.items ≡ before.reads.items

-- the lines of a client, with the line of one read more
pub record NotesRead {Op Reply Store : Type 0} (m : Meaning Op Reply Store) (client number : ℕ) (seen : Seen) (before after : Lines Reply) : Type 0 where
  pub reply : Reply
  pub words : m.encoding.reply_words reply ≡ seen.reply
  pub entries_are : after.entries.items ≡ before.entries.items
  pub reads_are : after.reads.items ≡ before.reads.items ++ record { client = client; command = number; place = seen.place; reply = reply } ∷ []

-- the lines of a client after an entry was answered: its line more where the words are a reply's, and the lines as they were where not
abbrev pub AddsClientEntry : {Op Reply Store : Type 0} → Meaning Op Reply Store → ℕ → ℕ → Answer → Lines Reply → Lines Reply → Bool → Type 0
AddsClientEntry m client number answer before after true = NotesEntryLine m client number answer before after
AddsClientEntry m client number answer before after false = (after ≡ before) × AreOfNoReply m answer.reply

-- the lines of a client after a read was answered: its line more where the words are a reply's, and the lines as they were where not
abbrev pub AddsClientRead : {Op Reply Store : Type 0} → Meaning Op Reply Store → ℕ → ℕ → Seen → Lines Reply → Lines Reply → Bool → Type 0
AddsClientRead m client number seen before after true = NotesRead m client number seen before after
AddsClientRead m client number seen before after false = (after ≡ before) × AreOfNoReply m seen.reply
