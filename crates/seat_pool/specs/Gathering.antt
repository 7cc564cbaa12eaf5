-- The callers of a service are gathered from the passes that hold them.
use Rattle.std.specs.Prelude.{◌≡◌, ◌+◌, ◌<◌, ◌≤◌, ℕ, zero, suc, List, [], ◌∷◌, ◌++◌, All, Option, Some, None, length, map, slice_index_or, vec_capacity}
use Rattle.std.specs.Global.{Vec}
use Rattle.std.specs.List.{range_with_len}
use Rattle.atomic_table.specs.Seated.{TableId}
use Rattle.crossbeam_queue.specs.Passes.{view}
use Rattle.cx_core.specs.declared.local.SeenRead.{SeenRead}
use Rattle.table_invariant.specs.Running.{Running}
use Rattle.table_invariant.specs.Seats.{Seated}
use Rattle.cx_service.specs.Callers.{IsCallerOf, IsLinkedOf, IsStoppedOf}
use Rattle.cx_service.specs.Closes.{seat_of}
use Rattle.cx_service.specs.declared.close.Handed.{Handed}
use Rattle.cx_service.specs.declared.close.Handed.TheVariants.{Idle, Linked, Stopped}
use Rattle.seat_pool.specs.Pooling.{IsHomeOf, all_parts, calls_of, calls_weigh, numbers_weigh, reads_weigh, total_weight}
use Rattle.seat_pool.specs.declared.hand.LenderPass.{LenderPass}
use Rattle.seat_pool.specs.declared.hand.AnsweredCall.{AnsweredCall}
use Rattle.seat_pool.specs.declared.lent.Lent.{Lent}

-- a caller of the service, in whatever state it is
abbrev pub IsHandedOf : {O : Type 0} → Running O → Handed → Type 0
IsHandedOf r (Idle seat) = IsCallerOf r seat
IsHandedOf r (Linked seat) = IsLinkedOf r seat
IsHandedOf r (Stopped stopped) = IsStoppedOf r stopped.seat

-- the number of a caller, in whatever state it is
abbrev pub handed_number : Handed → ℕ
handed_number g = (seat_of g).known.local.number

-- the weight of the answered calls of a caller
abbrev pub handed_calls : (AnsweredCall → ℕ) → Handed → ℕ
handed_calls h g = total_weight h (calls_of (seat_of g))

-- the weight of the reads that a caller made beside the queue
abbrev pub handed_reads : (SeenRead → ℕ) → Handed → ℕ
handed_reads h g = total_weight h (seat_of g).known.local.seen_reads

-- the weight of a caller where it is stopped
abbrev pub if_stopped : (ℕ → ℕ) → Handed → ℕ
if_stopped h (Idle seat) = 0
if_stopped h (Linked seat) = 0
if_stopped h (Stopped stopped) = h stopped.seat.known.local.number

-- What is gathered are the callers that a pass holds, each once, in whatever state they are now. Each has the answered calls that it had when it was taken, and
-- a stopped one at most one more, which was told to nobody; and it has the reads that it had.
pub record Gathers {O : Type 0} (r : Running O) (held : List Seated) (gathered : List Handed) : Type 0 where
  pub of : All (IsHandedOf r) gathered
  pub numbers : (h : ℕ → ℕ) → total_weight (λ (g : Handed). h (handed_number g)) gathered ≡ numbers_weigh h held
  pub untold : List AnsweredCall
  pub calls : (h : AnsweredCall → ℕ) → total_weight (handed_calls h) gathered ≡ calls_weigh h held + total_weight h untold
  pub few : (h : ℕ → ℕ) → total_weight (λ (t : AnsweredCall). h t.caller) untold ≤ total_weight (if_stopped h) gathered
  pub reads : (h : SeenRead → ℕ) → reads_weigh h held ≤ total_weight (handed_reads h) gathered

-- A caller that was taken out of the queue, now: one of the service in no call, of this number and limit, with no call answered since and the
-- reads that it had.
pub record StaysIdle {O : Type 0} (r : Running O) (taken now : Seated) : Type 0 where
  pub caller : IsCallerOf r now
  pub number : now.known.local.number ≡ taken.known.local.number
  pub limit : now.known.local.limit ≡ taken.known.local.limit
  pub calls : calls_of now ≡ calls_of taken
  pub more : List SeenRead
  pub reads : now.known.local.seen_reads ≡ taken.known.local.seen_reads ++ more

-- what a client keeps, in a list
abbrev pub kept_list : Option Handed → List Handed
kept_list None = []
kept_list (Some g) = g ∷ []

-- what was lent from the queue with this table to a client: a pass with one part, and the caller that it keeps
pub record IsLentOf {O : Type 0} (r : Running O) (table : TableId) (lent : Lent) : Type 0 where
  pub pass : (lent.pass.table_id ≡ table) × (lent.pass.me.1 ≡ [])
  pub parts : (view lent.pass).parts ≡ 1
  pub placed : (view lent.pass).placed ≡ []
  pub kept : Gathers r (view lent.pass).held (kept_list lent.kept)

-- the weight of the calls that were told to a client
abbrev pub lent_calls : (AnsweredCall → ℕ) → Lent → ℕ
lent_calls h lent = total_weight h (view lent.pass).told_calls

-- the weight of the reads that a client was shown
abbrev pub lent_reads : (SeenRead → ℕ) → Lent → ℕ
lent_reads h lent = total_weight h (view lent.pass).shown

-- the weight of the caller that a client keeps, where it keeps one
abbrev pub lent_kept : (Handed → ℕ) → Lent → ℕ
lent_kept f lent = total_weight f (kept_list lent.kept)

-- two lists have the same callers, in whatever order
abbrev pub AreSame : List Handed → List Handed → Type 0
AreSame xs ys = (f : Handed → ℕ) → total_weight f xs ≡ total_weight f ys

-- What a pass with every part knows while it takes callers out of the queue: beside those that it holds, nothing changes.
pub record IsGathering {O : Type 0} (r : Running O) (before v : LenderPass) (gathered : List Handed) : Type 0 where
  pub home : IsHomeOf r v.home
  pub parts : v.parts ≡ all_parts
  pub placed : v.placed ≡ before.placed
  pub told_calls : v.told_calls ≡ before.told_calls
  pub shown : v.shown ≡ before.shown
  pub gathers : Gathers r v.held gathered

-- 1 at one number, and 0 at others
abbrev pub one_at : ℕ → ℕ → ℕ
one_at zero zero = 1
one_at zero (suc n) = 0
one_at (suc wanted) zero = 0
one_at (suc wanted) (suc n) = one_at wanted n

-- the caller at this place has this number
pub record IsNumberAt (gathered : List Handed) (place wanted : ℕ) : Type 0 where
  pub within : place < length gathered
  pub number : (d : Handed) → handed_number (slice_index_or gathered place d) ≡ wanted

-- the loop over the gathered callers whose first ones have been put in order
pub record IsOrdering {O : Type 0} (r : Running O) (all gathered out : List Handed) : Type 0 where
  pub left : All (IsHandedOf r) gathered
  pub done : All (IsHandedOf r) out
  pub numbers : map (λ (g : Handed). handed_number g) out ≡ range_with_len 0 (length out)
  pub same : (f : Handed → ℕ) → total_weight f out + total_weight f gathered ≡ total_weight f all

-- nothing stands in it, and it has room for this many
abbrev pub IsRoomFor : {X : Type 0} → ℕ → Vec X → Type 0
IsRoomFor count room = (room.items ≡ []) × (count ≤ vec_capacity room)

-- the pool's own pass, beside this many that were lent of it: it placed all callers, and holds none
pub record IsRestOf {O : Type 0} (r : Running O) (v : LenderPass) (lent : ℕ) : Type 0 where
  pub home : IsHomeOf r v.home
  pub some : 0 < v.parts
  pub parts : v.parts + lent ≡ all_parts
  pub placed : v.placed ≡ range_with_len 0 r.callers
  pub held : v.held ≡ []
  pub told_calls : v.told_calls ≡ []
  pub shown : v.shown ≡ []

-- The answered calls of the callers are those that clients' passes know of, each once, and at most one further of each stopped caller. The reads that
-- these passes know of are among theirs. The callers that clients keep are among them, and the others are in no call.
pub record AreCallsTold {O : Type 0} (r : Running O) (lents : List Lent) (handed : List Handed) : Type 0 where
  pub of : All (IsHandedOf r) handed
  pub untold : List AnsweredCall
  pub calls : (h : AnsweredCall → ℕ) → total_weight (handed_calls h) handed ≡ total_weight (lent_calls h) lents + total_weight h untold
  pub few : (h : ℕ → ℕ) → total_weight (λ (t : AnsweredCall). h t.caller) untold ≤ total_weight (if_stopped h) handed
  pub reads : (h : SeenRead → ℕ) → total_weight (lent_reads h) lents ≤ total_weight (handed_reads h) handed
  pub kept : (f : Handed → ℕ) → total_weight (lent_kept f) lents ≤ total_weight f handed
  pub others : (f : Handed → ℕ) → ((s : Seated) → f (Idle s) ≡ 0) → total_weight f handed ≡ total_weight (lent_kept f) lents

-- the loop over what was lent, some of which was taken in
pub record IsTakingIn {O : Type 0} (r : Running O) (table : TableId) (all : List Lent) (v : LenderPass) (rest : List Lent) (gathered : List Handed) : Type 0 where
  pub home : IsHomeOf r v.home
  pub some : 0 < v.parts
  pub parts : v.parts + length rest ≡ all_parts
  pub placed : v.placed ≡ range_with_len 0 r.callers
  pub told_calls : (h : AnsweredCall → ℕ) → total_weight h v.told_calls + total_weight (lent_calls h) rest ≡ total_weight (lent_calls h) all
  pub shown : (h : SeenRead → ℕ) → total_weight h v.shown + total_weight (lent_reads h) rest ≡ total_weight (lent_reads h) all
  pub kept : (f : Handed → ℕ) → total_weight f gathered + total_weight (lent_kept f) rest ≡ total_weight (lent_kept f) all
  pub lents : All (IsLentOf r table) rest
  pub gathers : Gathers r v.held gathered
