-- What a raise of DUR answers, as its caller knows it by what it noted, and what the raise leaves of the caller's seat.
use Rattle.std.specs.Prelude.{false, ◌≡◌, ◌+◌, ◌<◌, ◌≤◌, ◌⊎◌, ℕ, max, Bool, List, [], ◌∷◌, ◌++◌, length, map, slice_index, Option, Some, None}
use Rattle.std.specs.Option.{option_map}
use Rattle.atomic_table.specs.Table.{Me}
use Rattle.cx_base.specs.Codes.{root_place_of}
use Rattle.cx_core.specs.declared.entry.Base.{Base}
use Rattle.cx_core.specs.declared.kinds.Kind.TheVariants.{Raise}
use Rattle.cx_core.specs.declared.local.Answer.{Answer}
use Rattle.cx_core.specs.declared.local.Linked.{Linked}
use Rattle.cx_core.specs.declared.local.Local.{Local}
use Rattle.cx_core.specs.declared.local.SeenRead.{SeenRead}
use Rattle.cx_core.specs.Region.{object_part, slot_reply}
use Rattle.cx_core.specs.RootEvents.{CanRaise, raised_floor, unanswered}
use Rattle.cx_core.specs.State.{Instance, one_more}
use Rattle.table_invariant.specs.declared.rule.Known.{Known}
use Rattle.table_invariant.specs.declared.rule.Times.{Times}
use Rattle.table_invariant.specs.Fitting.{FitsKnown, IsReplayedToPlace, ReadFits, loaded_of}
use Rattle.table_invariant.specs.Learns.{LearnsInAnyState}
use Rattle.table_invariant.specs.Rule.{IsBehindNotes, IsLawfulLocal}
use Rattle.table_invariant.specs.Running.{IsSeatOf, Running, instance_at}
use Rattle.table_invariant.specs.Seats.{IsAtLimit, IsWithinLimit, Seated, place_noted}

-- Entries that the caller has lead whatever fits what is noted of the replica held exclusively, or held so last, to a place above a ticket, and
-- it has this reply in the caller's slot. So this is the reply to the caller's last entry, where that has the ticket.
pub record TellsReply (lines : ℕ) (lawful : List ℕ → Type 0) (base : Base) (step : List ℕ → List ℕ → List ℕ × List ℕ) (known : Known) (ticket : ℕ) (reply : List ℕ) : Type 0 where
  pub replayed : IsReplayedToPlace lines lawful base step known
  pub above : ticket < place_noted 0 known.accesses
  pub slot : (first now : List ℕ) → FitsKnown lines lawful base step known first now → slot_reply known.local.number now ≡ reply

-- an entry with a ticket below a place is answered, with the reply that whatever fits tells
pub record TellsAnswer (lines : ℕ) (lawful : List ℕ → Type 0) (base : Base) (step : List ℕ → List ℕ → List ℕ × List ℕ) (known : Known) (place ticket : ℕ) (answers : List Answer) : Type 0 where
  pub below : ticket < place
  pub reply : List ℕ
  pub tells : TellsReply lines lawful base step known ticket reply
  pub are : answers ≡ record { ticket = ticket; reply = reply } ∷ []

-- what a raise to a place answers of an own entry: nothing where there is none, or where its ticket is not below the place
abbrev pub AnswersOf : ℕ → (List ℕ → Type 0) → Base → (List ℕ → List ℕ → List ℕ × List ℕ) → Known → ℕ → Option Linked → List Answer → Type 0
AnswersOf lines lawful base step known place None answers = answers ≡ []
AnswersOf lines lawful base step known place (Some x) answers = ((place ≤ x.ticket) × (answers ≡ [])) ⊎ TellsAnswer lines lawful base step known place x.ticket answers

-- what a raise to a place is known to answer of the caller's unanswered entry
abbrev pub TellsAnswers : ℕ → (List ℕ → Type 0) → Base → (List ℕ → List ℕ → List ℕ × List ℕ) → Known → ℕ → List Answer → Type 0
TellsAnswers lines lawful base step known place answers = AnswersOf lines lawful base step known place (unanswered known.local) answers

-- whatever fits what was loaded of the replica held shared has this reply to an operation
abbrev pub TellsRead : ℕ → (List ℕ → Type 0) → Base → (List ℕ → List ℕ → List ℕ × List ℕ) → Known → List ℕ → List ℕ → Type 0
TellsRead lines lawful base step known op reply = (first now : List ℕ) → ReadFits lines lawful base (loaded_of known.local.shared) first now → (step (object_part now) op).1 ≡ reply

-- of a read, which is an operation and its reply, whatever fits tells that reply; where no read is given, nothing is asked
abbrev pub TellsReads : ℕ → (List ℕ → Type 0) → Base → (List ℕ → List ℕ → List ℕ × List ℕ) → Known → Option (List ℕ × List ℕ) → Type 0
TellsReads lines lawful base step known None = Unit {0}
TellsReads lines lawful base step known (Some read) = TellsRead lines lawful base step known read.0 read.1

-- the operation of a read, if one is given with its reply
abbrev pub read_op_in : Option (List ℕ × List ℕ) → Option (List ℕ)
read_op_in read = option_map (λ (x : List ℕ × List ℕ). x.0) read

-- a read as it is answered at a place, where this number of its caller's entries is answered
abbrev pub read_at : ℕ → ℕ → Option (List ℕ × List ℕ) → List SeenRead
read_at place answered None = []
read_at place answered (Some read) = record { place = place; op = read.0; reply = read.1; before = answered } ∷ []

-- a local state after a raise of DUR by a code that answers these entries and reads
abbrev pub answered_local : Instance → ℕ → List Answer → List SeenRead → Local → Local
answered_local instance code answers reads l = record l {
  answered = l.answered ++ answers;
  seen_reads = l.seen_reads ++ reads;
  raised = max l.raised code;
  floor = raised_floor l.floor (root_place_of instance.callers code) answers reads;
  fresh = false;
  steps = one_more l.steps;
}

-- the times of a caller's operations after a raise that answers these entries and reads
abbrev pub times_raised : List Answer → List SeenRead → Known → Times
times_raised answers reads known = record known.times {
  answered = known.times.answered ++ map (λ (_ : Answer). one_more known.local.steps) answers;
  reads = known.times.reads ++ map (λ (_ : SeenRead). (known.times.loaded, one_more known.local.steps)) reads;
}

-- what its caller then knows: nothing is noted, and no replica is accessed
abbrev pub known_raised : Instance → ℕ → List Answer → List SeenRead → Known → Known
known_raised instance code answers reads known = record known { local = answered_local instance code answers reads known.local; times = times_raised answers reads known }

-- what the caller of a raise then knows, where the reads answered are the one of a read that is given, or none where none is given
abbrev pub known_answered : Instance → ℕ → List Answer → Option (List ℕ × List ℕ) → Known → Known
known_answered instance code answers read known =
    known_raised instance code answers (read_at (root_place_of instance.callers code) (length known.local.answered + length answers) read) known

-- what a raise teaches is known by what the caller noted
abbrev pub IsRaiseLearned : Instance → ℕ → List Answer → Option (List ℕ × List ℕ) → Known → ℕ → Type 0
IsRaiseLearned instance code answers read known word =
    (words : List ℕ) → LearnsInAnyState instance words (Raise code (read_op_in read)) known word (max (slice_index words word) code) (known_answered instance code answers read known)

-- what a raise teaches: what the caller then knows, what the lawful state says of the caller's local state by itself, before and after, and what is
-- behind the notes
pub record TeachesRaised (instance : Instance) (code : ℕ) (answers : List Answer) (read : Option (List ℕ × List ℕ)) (known : Known) (after : Me ℕ (List Known)) : Type 0 where
  pub knows : after ≡ (known_answered instance code answers read known ∷ [], [])
  pub lawful : IsLawfulLocal instance known.local
  pub lawful_after : IsLawfulLocal instance (known_answered instance code answers read known).local
  pub behind : IsBehindNotes instance (known_answered instance code answers read known)

-- DUR was raised by a code, which was allowed, also by the limit: the caller's unanswered entry has these answers, and where a read
-- is given it is answered at the code's place.
pub record Raises {O : Type 0} (r : Running O) (step : O → List ℕ → List ℕ → List ℕ × List ℕ) (reads : O → List ℕ → Bool) (code : ℕ) (answers : List Answer) (read : Option (List ℕ × List ℕ)) (before after : Seated) : Type 0 where
  pub allowed : ¬ IsAtLimit before.known.local
  pub guard : CanRaise (instance_at r step reads) code (read_op_in read) before.known.local
  pub made : after ≡ record before { known = known_answered (instance_at r step reads) code answers read before.known }
  pub lawful : IsLawfulLocal (instance_at r step reads) before.known.local
  pub lawful_after : IsLawfulLocal (instance_at r step reads) after.known.local
  pub within : IsWithinLimit after.known.local
  pub seat : IsSeatOf r after
