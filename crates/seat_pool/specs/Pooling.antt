-- The rule of a queue that lends the callers of one service: where each caller is, and which pass knows of each of its answered calls.
use Rattle.std.specs.Prelude.{◌≡◌, ◌+◌, ◌-◌, ◌<◌, ◌≤◌, ◌⊎◌, ℕ, List, [], ◌∷◌, ◌++◌, All, Option, Some, None, drop, length, slice_get}
use mathlib.Core.Option.{some}
use lib.ListN.{get_elem?}
use Rattle.cx_core.specs.declared.local.Answer.{Answer}
use Rattle.cx_core.specs.declared.local.Linked.{Linked}
use Rattle.cx_core.specs.declared.local.SeenRead.{SeenRead}
use Rattle.table_invariant.specs.Running.{Running}
use Rattle.table_invariant.specs.Seats.{Seated}
use Rattle.cx_service.specs.Callers.{IsCallerOf}
use Rattle.seat_pool.specs.declared.hand.LenderPass.{LenderPass}
use Rattle.seat_pool.specs.declared.hand.ServiceView.{ServiceView}
use Rattle.seat_pool.specs.declared.hand.Returned.{Returned}
use Rattle.seat_pool.specs.declared.hand.AnsweredCall.{AnsweredCall}

-- a service as far as its callers show it: its table, its number of callers and its base, and in the place of its object their limits
abbrev pub Shown : Type 0
Shown = Running (List ℕ)

-- the service that a pass knows, as far as its callers show it
abbrev pub shown_by : ServiceView → Shown
shown_by home = record { table = home.first.table; callers = home.callers; lines = 0; base = home.base; object = home.limits }

-- the limit of caller c is item c of the limits
abbrev pub HasLimit : List ℕ → Seated → Type 0
HasLimit limits x = slice_get limits x.known.local.number ≡ Some x.known.local.limit

-- a caller of the service, with its limit
abbrev pub IsLentBy : Shown → Seated → Type 0
IsLentBy service x = IsCallerOf service x × HasLimit service.object x

-- two running tables have one table, number of callers and base
pub record IsSameTable {O P : Type 0} (q : Running O) (r : Running P) : Type 0 where
  pub table : q.table ≡ r.table
  pub callers : q.callers ≡ r.callers
  pub base : q.base ≡ r.base

-- the sum of a weight of each
abbrev pub total_weight : {A : Type 0} → (A → ℕ) → List A → ℕ
total_weight f [] = 0
total_weight f (x ∷ xs) = f x + total_weight f xs

-- the calls of a caller that are answered: its entries, in order, with their answers
abbrev pub calls_from : ℕ → List Linked → List Answer → List AnsweredCall
calls_from n [] answers = []
calls_from n (x ∷ own) [] = []
calls_from n (x ∷ own) (a ∷ answers) = record { caller = n; entry = x; answer = a } ∷ calls_from n own answers

-- the answered calls of a caller
abbrev pub calls_of : Seated → List AnsweredCall
calls_of x = calls_from x.known.local.number x.known.local.own x.known.local.answered

-- the weight of callers, by their numbers
abbrev pub numbers_weigh : (ℕ → ℕ) → List Seated → ℕ
numbers_weigh h xs = total_weight (λ (x : Seated). h x.known.local.number) xs

-- the weight of the answered calls of callers
abbrev pub calls_weigh : (AnsweredCall → ℕ) → List Seated → ℕ
calls_weigh h xs = total_weight (λ (x : Seated). total_weight h (calls_of x)) xs

-- the weight of the reads of callers
abbrev pub reads_weigh : (SeenRead → ℕ) → List Seated → ℕ
reads_weigh h xs = total_weight (λ (x : Seated). total_weight h x.known.local.seen_reads) xs

-- what a pass knows and holds, by its parts
abbrev pub hand : Option ServiceView → ℕ → List ℕ → List Seated → List AnsweredCall → List SeenRead → List Returned → LenderPass
hand home parts placed held told_calls shown returned = record { home = home; parts = parts; placed = placed; held = held; told_calls = told_calls; shown = shown; returned = returned }

-- the parts of the right to know the whole
abbrev pub all_parts : ℕ
all_parts = 1024

-- a pass with no part has done nothing
abbrev pub nothing : LenderPass
nothing = hand None 0 [] [] [] [] []

-- the pass of a queue that is new
abbrev pub fresh : LenderPass
fresh = hand None all_parts [] [] [] [] []

-- the first pass of a queue once it knows the service: it has every part, and no caller is placed yet
abbrev pub opened_pass : ServiceView → LenderPass
opened_pass home = hand (Some home) all_parts [] [] [] [] []

-- a caller was put into the queue for the first time
abbrev pub with_placed : LenderPass → Seated → LenderPass
with_placed v x = hand v.home v.parts (v.placed ++ x.known.local.number ∷ []) v.held v.told_calls v.shown v.returned

-- a caller was taken out: it is held, as it was then
abbrev pub with_taken : LenderPass → Seated → LenderPass
with_taken v x = hand v.home v.parts v.placed (x ∷ v.held) v.told_calls v.shown v.returned

-- The first of the callers held was given back: the pass learns of the calls and the reads that the caller has more than when it was taken, and keeps the
-- caller as it was then and as it is now.
abbrev pub given_from : LenderPass → List Seated → Seated → LenderPass
given_from v [] x = v
given_from v (y ∷ rest) x =
    hand v.home v.parts v.placed rest (v.told_calls ++ drop (length (calls_of y)) (calls_of x)) (v.shown ++ drop (length y.known.local.seen_reads) x.known.local.seen_reads)
    (v.returned ++ record { taken = y; back = x } ∷ [])

-- the first of the callers that a pass holds was given back, and is this one now
abbrev pub with_given : LenderPass → Seated → LenderPass
with_given v x = given_from v v.held x

-- The caller `x` is `y` later: it has the number and the limit of `y`, and its calls and reads are those of `y` with further ones behind.
pub record GoesOnCalling (y x : Seated) : Type 0 where
  pub number : x.known.local.number ≡ y.known.local.number
  pub limit : x.known.local.limit ≡ y.known.local.limit
  pub calls : calls_of x ≡ calls_of y ++ drop (length (calls_of y)) (calls_of x)
  pub reads : x.known.local.seen_reads ≡ y.known.local.seen_reads ++ drop (length y.known.local.seen_reads) x.known.local.seen_reads

-- the caller is the one that a pass holds first, and may have made further calls and reads since it was taken
abbrev pub IsFirstOf : List Seated → Seated → Type 0
IsFirstOf [] x = ⊥
IsFirstOf (y ∷ rest) x = GoesOnCalling y x

-- a pass without one of its parts
abbrev pub cut_left : LenderPass → LenderPass
cut_left v = hand v.home (v.parts - 1) v.placed v.held v.told_calls v.shown v.returned

-- the pass of one part that is made of another: it knows the same service, and nothing else
abbrev pub cut_right : LenderPass → LenderPass
cut_right v = hand v.home 1 [] [] [] [] []

-- what two passes know and hold, in one
abbrev pub both : LenderPass → LenderPass → LenderPass
both v w = hand v.home (v.parts + w.parts) (v.placed ++ w.placed) (v.held ++ w.held) (v.told_calls ++ w.told_calls) (v.shown ++ w.shown) (v.returned ++ w.returned)

-- a pass with this many parts knows this service; one that knows none has no part
abbrev pub FitsHome : Shown → ℕ → Option ServiceView → Type 0
FitsHome r parts None = parts ≡ 0
FitsHome r parts (Some home) = shown_by home ≡ r

-- a pass placed no caller, holds none, and was told no call and shown no read
pub record IsPassIdle (v : LenderPass) : Type 0 where
  pub placed : v.placed ≡ []
  pub held : v.held ≡ []
  pub told_calls : v.told_calls ≡ []
  pub shown : v.shown ≡ []

-- a pass with a part knows this service, and one without a part has done nothing
pub record FitsHand (r : Shown) (v : LenderPass) : Type 0 where
  pub home : FitsHome r v.parts v.home
  pub idle : v.parts ≡ 0 → IsPassIdle v

-- The queue holds callers of one service, which each pass with a part knows. However callers are weighed, those that were placed are those that
-- passes hold and those in the queue. However calls are weighed, those that were told are the answered calls of the callers, held (as they
-- were when they were taken) or in the queue; and however reads are weighed, those that were shown are among theirs.
pub record KeepsCallers (items : List Seated) (views : List LenderPass) : Type 0 where
  pub service : Shown
  pub items_are : All (IsLentBy service) items
  pub views_are : (pass : ℕ) (v : LenderPass) → get_elem? views pass ≡ some v → FitsHand service v
  pub parts : total_weight (λ (v : LenderPass). v.parts) views ≡ all_parts
  pub room : total_weight (λ (v : LenderPass). length v.placed) views ≤ service.callers
  pub callers : (h : ℕ → ℕ) → total_weight (λ (v : LenderPass). total_weight h v.placed) views ≡ total_weight (λ (v : LenderPass). numbers_weigh h v.held) views + numbers_weigh h items
  pub calls : (h : AnsweredCall → ℕ) → total_weight (λ (v : LenderPass). total_weight h v.told_calls) views ≡ total_weight (λ (v : LenderPass). calls_weigh h v.held) views + calls_weigh h items
  pub reads : (h : SeenRead → ℕ) → total_weight (λ (v : LenderPass). total_weight h v.shown) views ≤ total_weight (λ (v : LenderPass). reads_weigh h v.held) views + reads_weigh h items

-- the callers are kept, or the queue is new
abbrev pub Pools : List Seated → List LenderPass → Type 0
Pools items views = ((items ≡ []) × (views ≡ fresh ∷ [])) ⊎ KeepsCallers items views

-- the pass knows that it is of this service's queue
abbrev pub IsHomeOf : {O : Type 0} → Running O → Option ServiceView → Type 0
IsHomeOf r None = ⊥
IsHomeOf r (Some home) = IsSameTable (shown_by home) r

-- how many callers the service has that the pass knows
abbrev pub callers_at : Option ServiceView → ℕ
callers_at None = 0
callers_at (Some home) = home.callers

-- the limits of the callers that the pass knows
abbrev pub limits_at : Option ServiceView → List ℕ
limits_at None = []
limits_at (Some home) = home.limits

-- a caller is one of the service that a pass knows, with the limit that the pass knows of it
abbrev pub IsCallerAt : Option ServiceView → Seated → Type 0
IsCallerAt None x = ⊥
IsCallerAt (Some home) x = IsLentBy (shown_by home) x

-- a caller of the service that the pass knows was taken out, and the pass held fewer callers than the service has
abbrev pub IsCallerTaken : LenderPass → Seated → LenderPass → Type 0
IsCallerTaken v x w = IsCallerAt v.home x × (w ≡ with_taken v x) × (length v.held < callers_at v.home)

-- All that was placed is with this pass or in the queue, the calls told to it are theirs, and the reads shown to it are among theirs.
pub record IsPassWhole (v : LenderPass) (items : List Seated) : Type 0 where
  pub callers : (h : ℕ → ℕ) → total_weight h v.placed ≡ numbers_weigh h v.held + numbers_weigh h items
  pub calls : (h : AnsweredCall → ℕ) → total_weight h v.told_calls ≡ calls_weigh h v.held + calls_weigh h items
  pub reads : (h : SeenRead → ℕ) → total_weight h v.shown ≤ reads_weigh h v.held + reads_weigh h items

-- what a pass learns of the queue: there is room in it for what the pass holds, and a pass with every part learns the whole
pub record TellsRoom (v : LenderPass) (items : List Seated) : Type 0 where
  pub room : length v.held + length items ≤ callers_at v.home
  pub whole : v.parts ≡ all_parts → IsPassWhole v items

-- what the first pass knows before any caller is placed
pub record IsPassOpened {O : Type 0} (r : Running O) (limits : List ℕ) (v : LenderPass) : Type 0 where
  pub home : IsHomeOf r v.home
  pub limits_are : limits_at v.home ≡ limits
  pub parts : v.parts ≡ all_parts
  pub placed : v.placed ≡ []
  pub held : v.held ≡ []
  pub told_calls : v.told_calls ≡ []
  pub shown : v.shown ≡ []

-- the calls that a pass was told, once it gave this caller back
abbrev pub told_calls_after_giving : LenderPass → Seated → List AnsweredCall
told_calls_after_giving v x = (with_given v x).told_calls

-- the answered call of the caller of this number, with its entry and its answer
abbrev pub call_with : ℕ → Linked → Answer → AnsweredCall
call_with n entry answer = record { caller = n; entry = entry; answer = answer }
