-- The text of records of a queue, one record after another.
use Rattle.std.proofs.Common.{◌≡◌, ℕ, ◌+◌, ◌<◌, ◌≤◌, List, ◌++◌, length, get_or, map, take, refl, sym, ap, subst, ◌∙◌, arith}
use Rattle.std.proofs.lemmas.List.{get_or-map, length-map}
use Rattle.life_records.specs.Lives.{NameCommands, NamesCommands}
use Rattle.script_text.specs.Report.{record_text, records_text}
use Rattle.script_text.proofs.Records.{NamesCommands_at, length-lives, records_text-all, records_text-step}
use Rattle.fifo_commands.specs.FifoLives.{uncut}
use Rattle.fifo_commands.specs.Leaving.{with_no_stops}
use Rattle.fifo_commands.specs.declared.record.FifoLife.{FifoLife}
use Rattle.fifo_commands.specs.declared.record.FifoRecord.{FifoRecord}
use Rattle.fifo_commands.specs.Report.{queue_wording}

-- there is one record for each life, and its lines name commands of it
abbrev pub AreNamed : List FifoLife → List FifoRecord → Type 0
AreNamed lives records = NameCommands (map uncut lives) (map with_no_stops records)

pub same_length : (lives : List FifoLife) (records : List FifoRecord) → AreNamed lives records → length lives ≡ length records
same_length lives records named =
    sym (length-map lives uncut) ∙ length-lives (map uncut lives) (map with_no_stops records) named ∙ length-map records with_no_stops

life_at : (lives : List FifoLife) (n : ℕ) (life : FifoLife) → n < length lives → life ≡ get_or lives n life → uncut life ≡ get_or (map uncut lives) n (uncut life)
life_at lives n life within is = ap uncut is ∙ sym (get_or-map uncut lives n life (uncut life) within)

report_at : (records : List FifoRecord) (n : ℕ) (report : FifoRecord) → n < length records → report ≡ get_or records n report → with_no_stops report ≡ get_or (map with_no_stops records) n (with_no_stops report)
report_at records n report within is = ap with_no_stops is ∙ sym (get_or-map with_no_stops records n report (with_no_stops report) within)

inside : (records : List FifoRecord) (n : ℕ) → n < length records → n < length (map with_no_stops records)
inside records n below = omega (arith, below, length-map records with_no_stops)

module _ (lives : List FifoLife) (records : List FifoRecord) (n : ℕ) (life : FifoLife) (report : FifoRecord) (named : AreNamed lives records)
    (below : n < length records) (life_is : life ≡ get_or lives n life) (report_is : report ≡ get_or records n report) where
  within : n < length lives
  within = omega (arith, below, same_length lives records named)

  -- the lines of each record name commands of its life
  pub named_at : NamesCommands (uncut life) (with_no_stops report)
  named_at =
      subst (λ l. NamesCommands l (with_no_stops report)) (sym (life_at lives n life within life_is))
      (subst (λ t. NamesCommands (get_or (map uncut lives) n (uncut life)) t) (sym (report_at records n report below report_is))
      (NamesCommands_at (map uncut lives) (map with_no_stops records) n (uncut life) (with_no_stops report) named (inside records n below)))

  -- a step of the loop that goes through records: this record's text is put at the end
  pub one_more : (before after : List ℕ) → before ≡ records_text queue_wording 0 (take n (map uncut lives)) (take n (map with_no_stops records))
      → after ≡ before ++ record_text queue_wording n (uncut life) (with_no_stops report)
      → after ≡ records_text queue_wording 0 (take (n + 1) (map uncut lives)) (take (n + 1) (map with_no_stops records))
  one_more before after so_far written =
      records_text-step queue_wording (map uncut lives) (map with_no_stops records) n (uncut life) (uncut life) (with_no_stops report) before after
      named (inside records n below) (life_at lives n life within life_is) (report_at records n report below report_is) refl so_far written

-- the text of all records
pub all_texts : (lives : List FifoLife) (records : List FifoRecord) (n : ℕ) → AreNamed lives records → length records ≤ n
    → records_text queue_wording 0 (take n (map uncut lives)) (take n (map with_no_stops records)) ≡ records_text queue_wording 0 (map uncut lives) (map with_no_stops records)
all_texts lives records n named all =
    records_text-all queue_wording (map uncut lives) (map with_no_stops records) n named (omega (arith, all, length-map records with_no_stops))
