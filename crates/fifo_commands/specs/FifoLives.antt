-- Legal lives of a queue.
use Rattle.std.specs.Prelude.{◌≡◌, ◌+◌, ◌-◌, ◌<◌, ◌≤◌, ℕ, true, List, [], ◌∷◌, ◌++◌, length, take, All, AllPairs, Contains, slice_get, Some, IfSome, IsSome}
use Rattle.life_records.specs.Lives.{ClientAnswer, Interleaves, IsReadBefore, Names, answers_of, count_to, ops_of}
use Rattle.life_records.specs.Records.{JournalLine, Life, ReadLine}
use Rattle.life_records.specs.Scripts.{named_op, own_ops}
use Rattle.fifo_object.specs.Queue.{Queue, only_reads, queue_after_all, reply_to}
use Rattle.fifo_object.specs.declared.operations.FifoOp.{FifoOp}
use Rattle.fifo_object.specs.declared.operations.FifoReply.{FifoReply}
use Rattle.fifo_commands.specs.declared.record.FifoLife.{FifoLife}
use Rattle.fifo_commands.specs.declared.record.FifoRecord.{FifoRecord}

-- the life with no cuts
abbrev pub uncut : FifoLife → Life FifoOp
uncut life = record { clients = life.clients; choice = life.choice; cuts = []; commands = life.commands }

-- the queue after the first n entries of a life that began with one
abbrev pub queue_at : ℕ → Queue → FifoLife → List (JournalLine FifoReply) → ℕ → Queue
queue_at lines queue life journal n = queue_after_all lines queue (ops_of (uncut life) (take n journal))

-- the reply that a command of a client has on a queue
abbrev pub CommandHasReply : ℕ → Queue → FifoLife → ℕ → ℕ → FifoReply → Type 0
CommandHasReply lines queue life client command reply = IfSome (named_op (uncut life) client command) (λ op. reply ≡ reply_to lines queue op)

-- each command of each client has exactly one line, with a reply
pub record AreCommandsAnswered (life : FifoLife) (report : FifoRecord) : Type 0 where
  pub once : (client command : ℕ) → client < life.clients → 1 ≤ command → command ≤ length (own_ops client life.commands) →
      count_to client command (answers_of report.journal report.reads) ≡ 1
  pub replies : All (λ line. IsSome line.reply) report.journal

-- a read beside the history: its place is in it, and its reply is that of the queue after the entries below its place
pub record IsFifoRead (lines place : ℕ) (queue : Queue) (life : FifoLife) (journal : List (JournalLine FifoReply)) (line : ReadLine FifoReply) : Type 0 where
  pub named : Names (uncut life) line.client line.command
  pub reads : IfSome (named_op (uncut life) line.client line.command) (λ op. only_reads op ≡ true)
  pub from : place ≤ line.place
  pub to : line.place ≤ place + length journal
  pub reply : CommandHasReply lines (queue_at lines queue life journal (line.place - place)) life line.client line.command line.reply

-- a record of a life that begins at a place with a queue
pub record IsFifoLife (lines place : ℕ) (queue : Queue) (life : FifoLife) (report : FifoRecord) : Type 0 where
  pub clients : report.clients ≡ life.clients
  pub choice : report.choice ≡ life.choice
  pub from : report.from ≡ place
  -- one history, that interleaves the clients' commands
  pub tickets : (i : ℕ) (line : JournalLine FifoReply) → slice_get report.journal i ≡ Some line → line.ticket ≡ place + i
  pub interleaved : Interleaves (uncut life) report.journal
  pub reads_in_order : AllPairs IsReadBefore report.reads
  -- each command is answered once
  pub answered : AreCommandsAnswered life report
  -- each reply is the queue's at its place
  pub replies : (i : ℕ) (line : JournalLine FifoReply) → slice_get report.journal i ≡ Some line →
      IfSome line.reply (CommandHasReply lines (queue_at lines queue life report.journal i) life line.client line.command)
  pub legal_reads : All (IsFifoRead lines place queue life report.journal) report.reads
  -- no answer to a client lies below what the client was told before
  pub in_turn : (a b : ClientAnswer) → Contains (answers_of report.journal report.reads) a → Contains (answers_of report.journal report.reads) b →
      a.client ≡ b.client → a.command < b.command → a.next ≤ b.at
  -- what outlives the crash: a prefix of the history that holds everything answered
  pub prefix : report.kept ≤ length report.journal
  pub kept : All (λ a. a.next ≤ place + report.kept) (answers_of report.journal report.reads)
  pub items : report.items ≡ length (queue_at lines queue life report.journal report.kept)

-- records of lives, the first of which begins at a place with a queue, and each next one with what was kept
abbrev pub AreFifoLivesFrom : ℕ → ℕ → Queue → List FifoLife → List FifoRecord → Type 0
AreFifoLivesFrom lines place queue [] [] = Unit {0}
AreFifoLivesFrom lines place queue (life ∷ lives) (report ∷ records) =
    IsFifoLife lines place queue life report
    × AreFifoLivesFrom lines (place + report.kept) (queue_at lines queue life report.journal report.kept) lives records
AreFifoLivesFrom lines place queue [] (report ∷ records) = ⊥
AreFifoLivesFrom lines place queue (life ∷ lives) [] = ⊥

-- the records are of legal lives of a queue, from place 0 and the empty queue on
abbrev pub AreFifoLives : ℕ → List FifoLife → List FifoRecord → Type 0
AreFifoLives lines lives records = AreFifoLivesFrom lines 0 [] lives records

-- the operations of the kept entries of all lives, by ticket
abbrev pub kept_ops : List FifoLife → List FifoRecord → List FifoOp
kept_ops [] records = []
kept_ops (life ∷ lives) [] = []
kept_ops (life ∷ lives) (report ∷ records) = ops_of (uncut life) (take report.kept report.journal) ++ kept_ops lives records

-- the texts that the last of some lives leaves, where the first began with this queue
abbrev pub left_from : ℕ → Queue → List FifoLife → List FifoRecord → Queue
left_from lines queue [] records = queue
left_from lines queue (life ∷ lives) [] = queue
left_from lines queue (life ∷ lives) (report ∷ records) = left_from lines (queue_at lines queue life report.journal report.kept) lives records

-- the texts that the last of some lives leaves, where the first began with the empty queue
abbrev pub items_left : ℕ → List FifoLife → List FifoRecord → Queue
items_left lines lives records = left_from lines [] lives records
