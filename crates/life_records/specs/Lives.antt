-- What may happen: a history that interleaves the clients' commands, a legal life, and legal lives.
use Rattle.std.specs.Prelude.{◌≡◌, ◌≢◌, ◌↔◌, ◌+◌, ◌-◌, ◌^◌, ◌<◌, ◌≤◌, ◌⊎◌, ℕ, Bool, true, ◌&&◌, ◌==◌, nat_le, List, [], ◌∷◌, ◌++◌, length, take, map, filter, count_by, All, AllPairs, Contains, slice_get, Option, None, Some, IsSome, IfSome, is_some}
use Rattle.std.specs.List.{filter_map, list_any}
use Rattle.std.specs.Option.{option_map}
use Rattle.std.specs.List.Sorted.{IsStrictlyIncreasing}
use Rattle.life_records.specs.Scripts.{limit_in, named_op, own_ops}
use Rattle.life_records.specs.Records.{FullLine, JournalLine, Life, Meaning, ReadLine, Script, StopLine}
pub use Rattle.life_records.specs.declared.record.LifeRecord.{LifeRecord}

-- the life has this command of this client
pub record Names {Op : Type 0} (life : Life Op) (client command : ℕ) : Type 0 where
  pub takes_part : client < life.clients
  pub there : IsSome (named_op life client command)

-- the operations of entries, in order
abbrev pub ops_of : {Op Reply : Type 0} → Life Op → List (JournalLine Reply) → List Op
ops_of life journal = filter_map (λ line. named_op life line.client line.command) journal

-- the store after operations
abbrev pub store_after_all : {Op Reply Store : Type 0} → Meaning Op Reply Store → Store → List Op → Store
store_after_all m store [] = store
store_after_all m store (op ∷ ops) = store_after_all m (m.store_after store op) ops

-- the store after the first n entries
abbrev pub store_at : {Op Reply Store : Type 0} → Meaning Op Reply Store → Store → Life Op → List (JournalLine Reply) → ℕ → Store
store_at m store life journal n = store_after_all m store (ops_of life (take n journal))

-- the numbers of a client's commands among the entries, in order
abbrev pub numbers_of : {Reply : Type 0} → ℕ → List (JournalLine Reply) → List ℕ
numbers_of client journal = map (λ line. line.command) (filter (λ line. line.client == client) journal)

-- the history interleaves the clients' linked commands: of each client, those that stand in it stand in script order,
-- each once
pub record Interleaves {Op Reply : Type 0} (life : Life Op) (journal : List (JournalLine Reply)) : Type 0 where
  pub named : All (λ line. Names life line.client line.command) journal
  pub in_order : (client : ℕ) → IsStrictlyIncreasing (numbers_of client journal)

-- An answer that a client was given: to which command, the place where it holds, and the place that no later answer to
-- this client may lie below.
pub record ClientAnswer : Type 0 where
  pub client : ℕ
  pub command : ℕ
  pub at : ℕ
  pub next : ℕ

-- the answer that an entry's line tells, where it has a reply: it holds at its ticket, and later answers hold behind it
abbrev pub journal_answer : {Reply : Type 0} → JournalLine Reply → Option ClientAnswer
journal_answer line =
    option_map (λ _. record { client = line.client; command = line.command; at = line.ticket; next = line.ticket + 1 }) line.reply

-- the answer that a read's line tells: it holds at its place, and later answers hold there or behind it
abbrev pub read_answer : {Reply : Type 0} → ReadLine Reply → ClientAnswer
read_answer line = record { client = line.client; command = line.command; at = line.place; next = line.place }

-- all answers that a record tells: those of its entries that have a reply, then those of its reads
abbrev pub answers_of : {Reply : Type 0} → List (JournalLine Reply) → List (ReadLine Reply) → List ClientAnswer
answers_of journal reads = filter_map journal_answer journal ++ map read_answer reads

-- the answers to one command
abbrev pub count_to : ℕ → ℕ → List ClientAnswer → ℕ
count_to client command answers = count_by (λ a. (a.client == client) && (a.command == command)) answers

-- reads stand by client, and those of one client by command
abbrev pub IsReadBefore : {Reply : Type 0} → ReadLine Reply → ReadLine Reply → Type 0
IsReadBefore a b = (a.client < b.client) ⊎ ((a.client ≡ b.client) × (a.command < b.command))

-- stop lines stand by client, one a client at the most
abbrev pub IsStopBefore : StopLine → StopLine → Type 0
IsStopBefore a b = a.client < b.client

-- full lines stand by client, one a client at the most
abbrev pub IsFullBefore : FullLine → FullLine → Type 0
IsFullBefore a b = a.client < b.client

-- whether a stop line is of this client and this command
abbrev pub is_stop_in : ℕ → ℕ → StopLine → Bool
is_stop_in client command line = (line.client == client) && (line.command == command)

-- whether a full line is of this client and this command
abbrev pub is_full_in : ℕ → ℕ → FullLine → Bool
is_full_in client command line = (line.client == client) && (line.command == command)

-- whether the client was stopped in the command, as one of these lines says
abbrev pub has_stop : ℕ → ℕ → List StopLine → Bool
has_stop client command stops = list_any (is_stop_in client command) stops

-- whether the client ended Full in the command, as one of these lines says
abbrev pub has_full : ℕ → ℕ → List FullLine → Bool
has_full client command fulls = list_any (is_full_in client command) fulls

-- whether the client was stopped, as one of these lines says
abbrev pub is_stopped : ℕ → List StopLine → Bool
is_stopped client stops = list_any (λ line. line.client == client) stops

-- the reply that an operation has in a store
abbrev pub HasReply : {Op Reply Store : Type 0} → Meaning Op Reply Store → Store → Option Op → Reply → Type 0
HasReply m store op reply = IfSome op (λ o. reply ≡ m.reply_to store o)

-- a read beside a history that began at a place with a store: its place is in the history, and its reply is that of the
-- store after the entries below its place
pub record IsLegalRead {Op Reply Store : Type 0} (m : Meaning Op Reply Store) (place : ℕ) (store : Store) (life : Life Op) (journal : List (JournalLine Reply)) (line : ReadLine Reply) : Type 0 where
  pub named : Names life line.client line.command
  pub reads : IfSome (named_op life line.client line.command) (λ op. m.is_reading op ≡ true)
  pub from : place ≤ line.place
  pub to : line.place ≤ place + length journal
  pub reply : HasReply m (store_at m store life journal (line.place - place)) (named_op life line.client line.command) line.reply

-- an entry of a client that was answered this many commands: it is one of them and has a reply; or it is the next one, which was
-- stopped, and has none
abbrev pub IsEndedEntry : {Reply : Type 0} → ℕ → ℕ → List StopLine → JournalLine Reply → Type 0
IsEndedEntry client answered stops line =
    ((1 ≤ line.command) × (line.command ≤ answered) × IsSome line.reply)
    ⊎ ((line.command ≡ answered + 1) × (line.reply ≡ None) × (has_stop client (answered + 1) stops ≡ true))

-- How a client ended. Each of its commands up to a number has exactly one answer, in the history or beside it. They are all
-- that it has, or it was stopped in the next one or ended Full in it. No other command has a line.
pub record HasEnded {Op Reply : Type 0} (life : Life Op) (report : LifeRecord Reply) (client : ℕ) : Type 0 where
  pub answered : ℕ
  pub within : answered ≤ length (own_ops client life.commands)
  pub once : (command : ℕ) → 1 ≤ command → command ≤ answered → count_to client command (answers_of report.journal report.reads) ≡ 1
  pub entries : All (λ line. line.client ≡ client → IsEndedEntry client answered report.stops line) report.journal
  pub reads : All (λ line. line.client ≡ client → (1 ≤ line.command) × (line.command ≤ answered)) report.reads
  pub stops : All (λ line. line.client ≡ client → line.command ≡ answered + 1) report.stops
  pub fulls : All (λ line. line.client ≡ client → line.command ≡ answered + 1) report.fulls
  pub over : (answered ≡ length (own_ops client life.commands)) ⊎ ((has_stop client (answered + 1) report.stops ≡ true) ⊎ (has_full client (answered + 1) report.fulls ≡ true))

-- A client was stopped in a command that it has, at the limit that its cut line gives it.
pub record IsLegalStop {Op : Type 0} (life : Life Op) (line : StopLine) : Type 0 where
  pub named : Names life line.client line.command
  pub steps : line.steps ≡ limit_in line.client life.cuts
  pub limit : line.steps < 2 ^ 64 - 1

-- an answered entry of a client, from a ticket on
abbrev pub is_answered_from : {Reply : Type 0} → ℕ → ℕ → JournalLine Reply → Bool
is_answered_from client ticket line = (line.client == client) && (is_some line.reply && nat_le ticket line.ticket)

-- A client ended Full in a command that it has. Another client, which was stopped, needs a ticket at or below the one named, and all 16
-- cells of the client hold answered entries from that ticket on, one of them at it.
pub record IsLegalFull {Op Reply : Type 0} (life : Life Op) (report : LifeRecord Reply) (line : FullLine) : Type 0 where
  pub named : Names life line.client line.command
  pub other : line.note.holder ≢ line.client
  pub stopped : is_stopped line.note.holder report.stops ≡ true
  pub need : line.note.need ≤ line.note.ticket
  pub cells : 16 ≤ count_by (is_answered_from line.client line.note.ticket) report.journal
  pub least : JournalLine Reply
  pub there : Contains report.journal least
  pub own : least.client ≡ line.client
  pub at : least.ticket ≡ line.note.ticket
  pub answered : IsSome least.reply

-- What happened in a life that began at a place with a store.
pub record IsLegal {Op Reply Store : Type 0} (m : Meaning Op Reply Store) (place : ℕ) (store : Store) (life : Life Op) (report : LifeRecord Reply) : Type 0 where
  -- one history, that interleaves the clients' commands
  pub tickets : (i : ℕ) (line : JournalLine Reply) → slice_get report.journal i ≡ Some line → line.ticket ≡ place + i
  pub interleaved : Interleaves life report.journal
  -- the other lines stand in their order
  pub reads_in_order : AllPairs IsReadBefore report.reads
  pub stops_in_order : AllPairs IsStopBefore report.stops
  pub fulls_in_order : AllPairs IsFullBefore report.fulls
  -- each command is answered once, up to the client's end
  pub ended : (client : ℕ) → client < life.clients → HasEnded life report client
  pub stops : All (IsLegalStop life) report.stops
  pub fulls : All (IsLegalFull life report) report.fulls
  -- each reply is the one-thread store's at its place
  pub replies : (i : ℕ) (line : JournalLine Reply) → slice_get report.journal i ≡ Some line →
      IfSome line.reply (HasReply m (store_at m store life report.journal i) (named_op life line.client line.command))
  pub legal_reads : All (IsLegalRead m place store life report.journal) report.reads
  -- no answer to a client lies below what the client was told before
  pub in_turn : (a b : ClientAnswer) → Contains (answers_of report.journal report.reads) a → Contains (answers_of report.journal report.reads) b →
      a.client ≡ b.client → a.command < b.command → a.next ≤ b.at

-- the command in which a client was stopped has an entry that is kept
pub record IsKeptStop {Reply : Type 0} (place kept : ℕ) (journal : List (JournalLine Reply)) (line : StopLine) : Type 0 where
  pub entry : JournalLine Reply
  pub there : Contains journal entry
  pub client : entry.client ≡ line.client
  pub command : entry.command ≡ line.command
  pub below : entry.ticket < place + kept

-- What survives the crash: a prefix of the history that holds everything answered.
pub record IsPrefixKept {Op Reply Store : Type 0} (m : Meaning Op Reply Store) (place : ℕ) (store : Store) (life : Life Op) (report : LifeRecord Reply) : Type 0 where
  pub prefix : report.kept ≤ length report.journal
  pub answered : All (λ a. a.next ≤ place + report.kept) (answers_of report.journal report.reads)
  pub stops : All (λ line. (line.kept ≡ true) ↔ IsKeptStop place report.kept report.journal line) report.stops
  pub items : report.items ≡ m.items (store_at m store life report.journal report.kept)

-- a record of a life that begins at a place with a store
pub record IsLegalLife {Op Reply Store : Type 0} (m : Meaning Op Reply Store) (place : ℕ) (store : Store) (life : Life Op) (report : LifeRecord Reply) : Type 0 where
  pub clients : report.clients ≡ life.clients
  pub choice : report.choice ≡ life.choice
  pub from : report.from ≡ place
  pub legal : IsLegal m place store life report
  pub kept : IsPrefixKept m place store life report

-- records of lives, the first of which begins at a place with a store, and each next one with what was kept
abbrev pub AreLivesFrom : {Op Reply Store : Type 0} → Meaning Op Reply Store → ℕ → Store → List (Life Op) → List (LifeRecord Reply) → Type 0
AreLivesFrom m place store [] [] = Unit {0}
AreLivesFrom m place store (life ∷ lives) (report ∷ records) =
    IsLegalLife m place store life report
    × AreLivesFrom m (place + report.kept) (store_at m store life report.journal report.kept) lives records
AreLivesFrom m place store _ _ = ⊥

-- the records are legal lives of the script, from place 0 and the opening store on
abbrev pub AreLegalLives : {Op Reply Store : Type 0} → Meaning Op Reply Store → Script Op → List (LifeRecord Reply) → Type 0
AreLegalLives m script records = AreLivesFrom m 0 m.opening script.lives records

-- the lines of a record name commands of the life
pub record NamesCommands {Op Reply : Type 0} (life : Life Op) (report : LifeRecord Reply) : Type 0 where
  pub journal : All (λ line. Names life line.client line.command) report.journal
  pub reads : All (λ line. Names life line.client line.command) report.reads

-- there is a record for each life, and its lines name commands of the life
abbrev pub NameCommands : {Op Reply : Type 0} → List (Life Op) → List (LifeRecord Reply) → Type 0
NameCommands [] [] = Unit {0}
NameCommands (life ∷ lives) (report ∷ records) = NamesCommands life report × NameCommands lives records
NameCommands _ _ = ⊥

-- a number of 64 bits, as each is in a value of the type
abbrev pub FitsWord : ℕ → Type 0
FitsWord n = n < 2 ^ 64

-- the numbers of a record are within 64 bits, as they are in each value of the type
pub record HasNumbers {Reply : Type 0} (report : LifeRecord Reply) : Type 0 where
  pub clients : FitsWord report.clients
  pub from : FitsWord report.from
  pub choice : FitsWord report.choice
  pub kept : FitsWord report.kept
  pub items : FitsWord report.items
  pub entries : FitsWord (length report.journal)
  pub journal : All (λ line. FitsWord line.ticket × FitsWord line.client × FitsWord line.command) report.journal
  pub reads : All (λ line. FitsWord line.client × FitsWord line.command × FitsWord line.place) report.reads
  pub stops : All (λ line. FitsWord line.client × FitsWord line.command × FitsWord line.steps) report.stops
  pub fulls : All (λ line. FitsWord line.client × FitsWord line.command × FitsWord line.note.holder × FitsWord line.note.need × FitsWord line.note.ticket) report.fulls

-- the numbers of all these records are within 64 bits
abbrev pub AreNumbers : {Reply : Type 0} → List (LifeRecord Reply) → Type 0
AreNumbers records = All HasNumbers records
