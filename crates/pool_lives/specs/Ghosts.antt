-- The lists that a caller of its own would have of a client's calls.
use Rattle.std.specs.Prelude.{◌≡◌, ◌+◌, ◌-◌, ◌≤◌, ◌^◌, ℕ, List, [], ◌∷◌, Some, map, slice_get}
use Rattle.cx_core.specs.State.{opening_local}
use Rattle.cx_core.specs.declared.local.Answer.{Answer}
use Rattle.cx_core.specs.declared.local.Linked.{Linked}
use Rattle.cx_core.specs.declared.local.Local.{Local}
use Rattle.cx_core.specs.declared.local.SeenRead.{SeenRead}
use Rattle.seat_pool.specs.declared.hand.AnsweredCall.{AnsweredCall}
use Rattle.client_pool.specs.Clients.{entries_called, next_place_of, answer_place_of}
use Rattle.client_pool.specs.declared.call.Call.{Call}
use Rattle.client_pool.specs.declared.call.Call.TheVariants.{Entry, Look}

-- the entry of an answered call, as if the client had entered it itself
abbrev pub as_own : ℕ → AnsweredCall → Linked
as_own client answered = record { ticket = answered.entry.ticket; entry = record answered.entry.entry { caller = client } }

-- the answer of an answered call
abbrev pub answer_of : AnsweredCall → Answer
answer_of answered = answered.answer

-- the reads among a client's calls, each with the number of entries that its client was answered before it
abbrev pub seen_from : ℕ → List Call → List SeenRead
seen_from before [] = []
seen_from before (Entry answered ∷ calls) = seen_from (before + 1) calls
seen_from before (Look read ∷ calls) = record { place = read.place; op = read.op; reply = read.reply; before = before } ∷ seen_from before calls

-- the lists that a caller of a client's own would have after these calls
abbrev pub local_of : ℕ → List Call → Local
local_of client calls = record (opening_local 1 0 client) {
  limit = 2 ^ 64 - 1;
  own = map (as_own client) (entries_called calls);
  answered = map answer_of (entries_called calls);
  seen_reads = seen_from 0 calls;
}

-- for each client from `client` on, the lists that a caller of its own would have with the client's calls
abbrev pub locals_from : ℕ → List (List Call) → List Local
locals_from client [] = []
locals_from client (calls ∷ rest) = local_of client calls ∷ locals_from (client + 1) rest

-- the call that answered a command: its answer holds at `at`, and no later answer holds below `next`
pub record IsCallAt (calls : List Call) (command at next : ℕ) : Type 0 where
  pub some : 1 ≤ command
  pub call : Call
  pub there : slice_get calls (command - 1) ≡ Some call
  pub place : answer_place_of call ≡ at
  pub behind : next_place_of call ≡ next
