-- Lives without cuts are lives of the queue.
use Rattle.std.proofs.Common.{Result, Ok, Err, IfOk, ◌≡◌, ◌+◌, ◌<◌, ◌≤◌, ℕ, List, [], ◌∷◌, ◌++◌, get_or, length, map, take, refl, sym, ap, ap₂, subst, ◌∙◌, arith}
use Rattle.std.proofs.lemmas.List.{get_or-map, length-map}
use Rattle.cx_lives.proofs.Appending.{count_taken, none_lived}
use Rattle.cx_lives.proofs.Taking.{take_next}
use Rattle.table_invariant.specs.Ending.{Ending}
use Rattle.cx_lives.specs.Lives.{AreTold, HaveLived}
use Rattle.cx_lives.specs.declared.lives.Lived.{Lived}
use Rattle.life_records.specs.Lives.{AreLivesFrom, IsLegalLife, ops_of}
use Rattle.life_records.specs.Records.{FullLine, LifeRecord, StopLine}
use Rattle.life_records.specs.Scripts.{command_count}
use Rattle.fifo_object.specs.Queue.{Queue}
use Rattle.fifo_object.specs.declared.operations.FifoReply.{FifoReply}
use Rattle.fifo_object.specs.Fifo.{IsFifo, fifo_reads, fifo_step}
use Rattle.fifo_object.specs.FifoMeaning.{fifo_meaning}
use Rattle.fifo_commands.specs.FifoLives.{AreFifoLivesFrom, uncut}
use Rattle.fifo_commands.specs.Leaving.{with_no_stops, without_cuts}
use Rattle.fifo_commands.specs.declared.record.FifoLife.{FifoLife}
use Rattle.fifo_commands.specs.declared.record.FifoRecord.{FifoRecord}
use Rattle.fifo_commands.proofs.Plainly.{after_is, fifo_life, no_full, no_stop}
use Rattle.fifo_commands.specs.Runs.{HaveFifoLived}
use Rattle.fifo_commands.specs.declared.runs.FifoLived.{FifoLived}

lives_from : (lines place : ℕ) (queue : Queue) (lives : List FifoLife) (records : List (LifeRecord FifoReply)) → AreLivesFrom (fifo_meaning lines) place queue (map uncut lives) records →
    AreFifoLivesFrom lines place queue lives (map without_cuts records)
lives_from lines place queue [] [] are = tt
lives_from lines place queue [] (report ∷ records) are = absurd are
lives_from lines place queue (life ∷ lives) [] are = absurd are
lives_from lines place queue (life ∷ lives) (report ∷ records) are = (
  fifo_life lines place queue life report are.0,
  subst (λ q. AreFifoLivesFrom lines (place + report.kept) q lives (map without_cuts records)) (after_is lines queue (ops_of (uncut life) (take report.kept report.journal)))
      (lives_from lines (place + report.kept) _ lives records are.1),
)

-- a record in which no client was stopped or ran out of free cells
same_record : (lines place : ℕ) (queue : Queue) (life : FifoLife) (report : LifeRecord FifoReply) → IsLegalLife (fifo_meaning lines) place queue (uncut life) report → with_no_stops (without_cuts report) ≡ report
same_record lines place queue life report is =
    let with_both : List StopLine → List FullLine → LifeRecord FifoReply = λ stops fulls. record {
      clients = report.clients;
      from = report.from;
      journal = report.journal;
      reads = report.reads;
      stops = stops;
      fulls = fulls;
      choice = report.choice;
      kept = report.kept;
      items = report.items;
    } in
    ap₂ with_both (sym (no_stop lines place queue life report is)) (sym (no_full lines place queue life report is))

same_records : (lines place : ℕ) (queue : Queue) (lives : List FifoLife) (records : List (LifeRecord FifoReply)) → AreLivesFrom (fifo_meaning lines) place queue (map uncut lives) records →
    map with_no_stops (map without_cuts records) ≡ records
same_records lines place queue [] [] are = refl
same_records lines place queue [] (report ∷ records) are = absurd are
same_records lines place queue (life ∷ lives) [] are = absurd are
same_records lines place queue (life ∷ lives) (report ∷ records) are =
    ap₂ (λ t ts. t ∷ ts) (same_record lines place queue life report are.0) (same_records lines (place + report.kept) _ lives records are.1)

pub lived_is : (lines : ℕ) (lives : List FifoLife) (lived : Lived FifoReply) (left : FifoLived) → HaveLived (fifo_meaning lines) lines 16 (IsFifo lines) (fifo_step lines) fifo_reads (map uncut lives) lived →
    left.records ≡ map without_cuts lived.records → left.trails ≡ lived.trails → HaveFifoLived lines lives left
lived_is lines lives lived left have records trails = record {
  legal = subst (λ rs. AreFifoLivesFrom lines 0 [] lives rs) (sym records) (lives_from lines 0 [] lives lived.records have.legal);
  witness =
      subst (λ ts. AreTold (fifo_meaning lines) lines 16 (IsFifo lines) (fifo_step lines) fifo_reads (map uncut lives) (map with_no_stops left.records) ts) (sym trails)
      (subst (λ rs. AreTold (fifo_meaning lines) lines 16 (IsFifo lines) (fifo_step lines) fifo_reads (map uncut lives) (map with_no_stops rs) lived.trails) (sym records)
      (subst (λ rs. AreTold (fifo_meaning lines) lines 16 (IsFifo lines) (fifo_step lines) fifo_reads (map uncut lives) rs lived.trails) (sym (same_records lines 0 [] lives lived.records have.legal)) have.witness));
}

-- no lives
pub none_lived_of : (lines : ℕ) (records : List FifoRecord) (trails : List Ending) → records ≡ [] → trails ≡ [] → HaveFifoLived lines [] (record { records = records; trails = trails })
none_lived_of lines records trails none empty =
    subst (λ rs. HaveFifoLived lines [] (record { records = rs; trails = trails })) (sym none) (subst (λ ts. HaveFifoLived lines [] (record { records = []; trails = ts })) (sym empty)
    (record { legal = tt; witness = (none_lived (fifo_meaning lines) lines 16 (IsFifo lines) (fifo_step lines) fifo_reads).witness }))

-- ---- a life more of a script

next_is : (lives : List FifoLife) (i : ℕ) (life : FifoLife) → i < length lives → life ≡ get_or lives i life → uncut life ≡ get_or (map uncut lives) i (uncut life)
next_is lives i life within is = ap uncut is ∙ sym (get_or-map uncut lives i life (uncut life) within)

inside : (lives : List FifoLife) (i : ℕ) → i < length lives → i < length (map uncut lives)
inside lives i within = omega (arith, within, length-map lives uncut)

pub room_for : (lives : List FifoLife) (i : ℕ) (life : FifoLife) → i < length lives → life ≡ get_or lives i life → command_count (map uncut lives) ≤ 100000 →
    command_count (take i (map uncut lives)) + length life.commands ≤ 100000
room_for lives i life within is few =
    let counted = count_taken (map uncut lives) i (uncut life) (inside lives i within) (next_is lives i life within is) in
    omega (arith, counted, few)

pub one_more : (lives : List FifoLife) (i : ℕ) (life : FifoLife) → i < length lives → life ≡ get_or lives i life → take i (map uncut lives) ++ uncut life ∷ [] ≡ take (i + 1) (map uncut lives)
one_more lives i life within is = sym (take_next (map uncut lives) i (uncut life) (inside lives i within) (next_is lives i life within is))

-- two facts of an answer give a third
pub both_hold : {X E : Type 0} (r : Result X E) (P Q R : X → Type 0) → ((x : X) → P x → Q x → R x) → IfOk r P → IfOk r Q → IfOk r R
both_hold (Ok x) P Q R w p q = w x p q
both_hold (Err e) P Q R w p q = p
