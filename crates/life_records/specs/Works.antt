-- What one client's lines are to the lists of its caller, and the lines of all clients to those of all.
use Rattle.std.specs.Prelude.{◌≡◌, ◌≢◌, ◌⊎◌, ◌+◌, ◌-◌, ◌^◌, ◌<◌, ◌≤◌, ◌==◌, ℕ, Bool, true, false, List, [], ◌∷◌, ◌++◌, length, filter, slice_get, All, AllPairs, Contains, count_by, Option, None, Some, IsSome, if◌then◌else◌}
use Rattle.std.specs.List.{AllZip}
use Rattle.cx_core.specs.declared.local.Answer.{Answer}
use Rattle.cx_core.specs.declared.local.Linked.{Linked}
use Rattle.cx_core.specs.declared.local.Local.{Local}
use Rattle.cx_core.specs.declared.local.SeenRead.{SeenRead}
use Rattle.cx_core.specs.Merge.{all_own}
use Rattle.cx_core.specs.QueueEvents.{cell_of}
use Rattle.life_records.specs.Records.{Encoding, FullLine, JournalLine, Life, ReadLine, StopLine}
use Rattle.life_records.specs.Lives.{IsFullBefore, IsReadBefore, IsStopBefore}
use Rattle.life_records.specs.Scripts.{named_op, own_ops}

-- the client's command of this number has these words
pub record HasCommandWords {Op Reply : Type 0} (encoding : Encoding Op Reply) (life : Life Op) (client command : ℕ) (words : List ℕ) : Type 0 where
  pub op : Op
  pub named : named_op life client command ≡ Some op
  pub words_are : encoding.op_words op ≡ words

-- no answer has this ticket
abbrev pub NoAnswer : List Answer → ℕ → Type 0
NoAnswer answered ticket = All (λ (a : Answer). a.ticket ≢ ticket) answered

-- the reply is the one whose words were answered at the ticket; without one, nothing was answered there
abbrev pub IsReplyAt : {Op Reply : Type 0} → (encoding : Encoding Op Reply) → List Answer → ℕ → Option Reply → Type 0
IsReplyAt encoding answered ticket None = NoAnswer answered ticket
IsReplyAt encoding answered ticket (Some reply) = Contains answered (record { ticket = ticket; reply = encoding.reply_words reply })

-- whether the client was stopped in this command
abbrev pub stops_in : Option StopLine → ℕ → Bool
stops_in None command = false
stops_in (Some stop) command = stop.command == command

-- the reply of an entry's line: that of the answer at its ticket, and none where the command was stopped
abbrev pub IsLineReply : {Op Reply : Type 0} → (encoding : Encoding Op Reply) → Bool → List Answer → ℕ → Option Reply → Type 0
IsLineReply encoding true answered ticket reply = reply ≡ None
IsLineReply encoding false answered ticket reply = IsReplyAt encoding answered ticket reply

-- the line of a linked entry of a client
pub record IsLineOf {Op Reply : Type 0} (encoding : Encoding Op Reply) (life : Life Op) (client : ℕ) (answered : List Answer) (stop : Option StopLine) (x : Linked) (line : JournalLine Reply) : Type 0 where
  pub ticket : line.ticket ≡ x.ticket
  pub by : x.entry.caller ≡ client
  pub client_is : line.client ≡ client
  pub op : HasCommandWords encoding life client line.command x.entry.op
  pub reply : IsLineReply encoding (stops_in stop line.command) answered line.ticket line.reply

-- the line of a read
pub record IsReadLine {Op Reply : Type 0} (encoding : Encoding Op Reply) (life : Life Op) (client : ℕ) (x : SeenRead) (line : ReadLine Reply) : Type 0 where
  pub place : line.place ≡ x.place
  pub client_is : line.client ≡ client
  pub op : HasCommandWords encoding life client line.command x.op
  pub reply : encoding.reply_words line.reply ≡ x.reply

-- a read of the command in which the client was stopped
pub record IsStoppedRead {Op Reply : Type 0} (encoding : Encoding Op Reply) (life : Life Op) (client : ℕ) (stop : Option StopLine) (x : SeenRead) : Type 0 where
  pub line : StopLine
  pub is : stop ≡ Some line
  pub op : HasCommandWords encoding life client line.command x.op

-- The lines are those of the caller's reads, but for one at the most, after them, whose command was stopped.
pub record AreReadLines {Op Reply : Type 0} (encoding : Encoding Op Reply) (life : Life Op) (client : ℕ) (stop : Option StopLine) (seen : List SeenRead) (lines : List (ReadLine Reply)) : Type 0 where
  pub reported : List SeenRead
  pub left : List SeenRead
  pub are : seen ≡ reported ++ left
  pub lines_are : AllZip (IsReadLine encoding life client) reported lines
  pub few : length left ≤ 1
  pub stopped : All (IsStoppedRead encoding life client stop) left

module _ {Reply : Type 0} where
  -- A read stands between its client's entries: the commands of as many entries as were answered before it come before its command, and those of
  -- all others after it.
  abbrev pub StandsBetween : List (JournalLine Reply) → SeenRead → ReadLine Reply → Type 0
  StandsBetween entries x line =
      ((i : ℕ) (entry : JournalLine Reply) → slice_get entries i ≡ Some entry → i < x.before → entry.command < line.command)
      × ((i : ℕ) (entry : JournalLine Reply) → slice_get entries i ≡ Some entry → x.before ≤ i → line.command < entry.command)

-- entries' lines of one client stand by rising numbers of their commands
abbrev pub IsEntryBefore : {Reply : Type 0} → JournalLine Reply → JournalLine Reply → Type 0
IsEntryBefore a b = a.command < b.command

-- reads' lines of one client stand by rising numbers of their commands
abbrev pub IsSeenBefore : {Reply : Type 0} → ReadLine Reply → ReadLine Reply → Type 0
IsSeenBefore a b = a.command < b.command

module _ {Reply : Type 0} where
  -- how many lines of one client are of this command, of its entries and of its reads
  abbrev pub client_lines : ℕ → List (JournalLine Reply) → List (ReadLine Reply) → ℕ
  client_lines command entries reads = count_by (λ (l : JournalLine Reply). l.command == command) entries + count_by (λ (r : ReadLine Reply). r.command == command) reads

-- an entry of a client that was answered this many commands
abbrev pub IsDoneEntry : {Reply : Type 0} → ℕ → Option StopLine → JournalLine Reply → Type 0
IsDoneEntry done stop line =
    ((1 ≤ line.command) × (line.command ≤ done) × IsSome line.reply)
    ⊎ ((line.command ≡ done + 1) × (line.reply ≡ None) × IsSome stop)

-- The command of this number is under way: it is not answered, so that its caller was answered just those before it; or it is, and a win or
-- a shared right stands that a further step is to end.
abbrev pub IsUnderWay : Local → ℕ → Type 0
IsUnderWay l command = (length l.answered + length l.seen_reads + 1 ≡ command) ⊎ ((l.won ≢ None) ⊎ (l.shared ≢ None))

-- a client that was stopped in the command behind those that it was answered, at its limit, with a further step to be made
pub record IsStopOf {Op : Type 0} (life : Life Op) (client done : ℕ) (l : Local) (line : StopLine) : Type 0 where
  pub client_is : line.client ≡ client
  pub command : line.command ≡ done + 1
  pub within : done < length (own_ops client life.commands)
  pub steps : line.steps ≡ l.limit
  pub reached : l.steps ≡ l.limit
  pub limit : l.limit < 2 ^ 64 - 1
  pub under_way : IsUnderWay l line.command
  pub kept : line.kept ≡ false

-- all 16 cells of a caller hold tickets, and this is the least
pub record HoldsCellsFrom (l : Local) (ticket : ℕ) : Type 0 where
  pub each : (j : ℕ) → j < 16 → (t : ℕ) × ((cell_of l j).ticket ≡ Some t) × (ticket ≤ t)
  pub here : (j : ℕ) × (j < 16) × ((cell_of l j).ticket ≡ Some ticket)

-- A client that ended Full in the command after those that it was answered: another caller, the one that its last scan found to need the
-- least, keeps its cells, which hold entries of its own from the least ticket on. No two of them hold the same.
pub record IsFullOf {Op : Type 0} (life : Life Op) (client done : ℕ) (l : Local) (line : FullLine) : Type 0 where
  pub client_is : line.client ≡ client
  pub command : line.command ≡ done + 1
  pub within : done < length (own_ops client life.commands)
  pub other : line.note.holder ≢ client
  pub need : line.note.need ≤ line.note.ticket
  pub seen : l.seen_need ≡ Some (record { need = line.note.need; caller = line.note.holder })
  pub cells : HoldsCellsFrom l line.note.ticket
  pub own : (j t : ℕ) → (cell_of l j).ticket ≡ Some t → (i : ℕ) × (x : Linked) × (slice_get l.own i ≡ Some x) × (x.ticket ≡ t)
  pub apart : (j k t : ℕ) → (cell_of l j).ticket ≡ Some t → (cell_of l k).ticket ≡ Some t → j ≡ k

-- how a client ended: all its commands are answered, or it was stopped, or it ended Full
abbrev pub IsEnd : {Op : Type 0} → Life Op → ℕ → ℕ → Local → Option StopLine → Option FullLine → Type 0
IsEnd life client done l None None = done ≡ length (own_ops client life.commands)
IsEnd life client done l (Some line) None = IsStopOf life client done l line
IsEnd life client done l None (Some line) = IsFullOf life client done l line
IsEnd life client done l (Some stop) (Some full) = ⊥

-- What a client's lines are to its caller's lists.
pub record IsWork {Op Reply : Type 0} (encoding : Encoding Op Reply) (life : Life Op) (client : ℕ) (l : Local) (entries : List (JournalLine Reply)) (reads : List (ReadLine Reply)) (stop : Option StopLine)
    (full : Option FullLine) : Type 0 where
  pub by : l.number ≡ client
  pub entry_lines : AllZip (IsLineOf encoding life client l.answered stop) l.own entries
  pub read_lines : AreReadLines encoding life client stop l.seen_reads reads
  pub between : AllZip (StandsBetween entries) read_lines.reported reads
  pub entries_in_turn : AllPairs IsEntryBefore entries
  pub reads_in_turn : AllPairs IsSeenBefore reads
  pub done : ℕ
  pub within : done ≤ length (own_ops client life.commands)
  pub once : (command : ℕ) → 1 ≤ command → command ≤ done → client_lines command entries reads ≡ 1
  pub entries_done : All (IsDoneEntry done stop) entries
  pub reads_done : All (λ (line : ReadLine Reply). (1 ≤ line.command) × (line.command ≤ done)) reads
  pub ends : IsEnd life client done l stop full

-- whether an entry's line is of this client
abbrev pub by_entry : {Reply : Type 0} → ℕ → JournalLine Reply → Bool
by_entry client line = line.client == client

-- whether a read's line is of this client
abbrev pub by_read : {Reply : Type 0} → ℕ → ReadLine Reply → Bool
by_read client line = line.client == client

-- the first item of a client
abbrev pub first_of : {X : Type 0} → (X → ℕ) → ℕ → List X → Option X
first_of of client [] = None
first_of of client (x ∷ xs) = if of x == client then Some x else first_of of client xs

-- the stop line of a client, where it has one
abbrev pub stop_of : ℕ → List StopLine → Option StopLine
stop_of client stops = first_of (λ (line : StopLine). line.client) client stops

-- the full line of a client, where it has one
abbrev pub full_of : ℕ → List FullLine → Option FullLine
full_of client fulls = first_of (λ (line : FullLine). line.client) client fulls

-- Of each caller the lines are those of its lists, and there are no others.
pub record AreWorks {Op Reply : Type 0} (encoding : Encoding Op Reply) (life : Life Op) (locals : List Local) (entries : List (JournalLine Reply)) (reads : List (ReadLine Reply)) (stops : List StopLine)
    (fulls : List FullLine) : Type 0 where
  pub each : (i : ℕ) (l : Local) → slice_get locals i ≡ Some l →
      IsWork encoding life i l (filter (by_entry i) entries) (filter (by_read i) reads) (stop_of i stops) (full_of i fulls)
  pub of_entries : All (λ (line : JournalLine Reply). line.client < length locals) entries
  pub of_reads : All (λ (line : ReadLine Reply). line.client < length locals) reads
  pub of_stops : All (λ (line : StopLine). line.client < length locals) stops
  pub of_fulls : All (λ (line : FullLine). line.client < length locals) fulls
  pub long : length entries ≡ length (all_own locals)
  pub reads_in_order : AllPairs IsReadBefore reads
  pub stops_in_order : AllPairs IsStopBefore stops
  pub fulls_in_order : AllPairs IsFullBefore fulls
