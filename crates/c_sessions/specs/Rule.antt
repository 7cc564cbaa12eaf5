-- The rule of the queue in which the callers of one service are handed in.
use Rattle.std.specs.Prelude.{◌≡◌, ◌+◌, ◌⊎◌, ℕ, List, [], ◌∷◌, ◌++◌, All, Option, Some, None, drop, take}
use Rattle.std.specs.Arc.{arc_value}
use Rattle.std.specs.List.{range_with_len}
use mathlib.Core.Option.{some}
use lib.ListN.{get_elem?}
use Rattle.table_invariant.specs.Running.{Running}
use Rattle.cx_service.specs.declared.close.Handed.{Handed}
use Rattle.seat_pool.specs.Gathering.{IsHandedOf, handed_number, kept_list}
use Rattle.seat_pool.specs.Pooling.{total_weight}
use Rattle.c_sessions.specs.declared.rule.HandedIn.{HandedIn}
use Rattle.c_sessions.specs.declared.rule.Knows.{Knows}

-- the number of a caller that is handed in, if there is one
abbrev pub numbers_in : Option Handed → List ℕ
numbers_in None = []
numbers_in (Some g) = handed_number g ∷ []

-- a share of the service that a pass knows, with a caller of that service
pub record IsHandedInAt {O : Type 0} (home : Option (Running O)) (x : HandedIn O) : Type 0 where
  pub share : home ≡ Some (arc_value x.service)
  pub caller : Handed
  pub is : x.handed ≡ Some caller
  pub handed : IsHandedOf (arc_value x.service) caller

-- a pass that put no share into the new queue, by the service that it knows, the callers that it is to hand in, those that it handed in, and those that it took
-- out
abbrev pub knows : {O : Type 0} → Option (Running O) → List ℕ → List Handed → List Handed → Knows O
knows home due given taken = record { offered = None; home = home; due = due; given = given; taken = taken }

-- the pass of a queue that is new
abbrev pub new_pass : {O : Type 0} → Knows O
new_pass = knows None [] [] []

-- the first pass once it put a share of this service into the new queue
abbrev pub offering : {O : Type 0} → Running O → Knows O
offering r = record { offered = Some r; home = None; due = []; given = []; taken = [] }

-- how many callers the service has that a pass knows
abbrev pub callers_known : {O : Type 0} → Option (Running O) → ℕ
callers_known None = 0
callers_known (Some r) = r.callers

-- a pass that knows the service and is to hand in all its callers
abbrev pub pass_of_all : {O : Type 0} → Option (Running O) → Knows O
pass_of_all home = knows home (range_with_len 0 (callers_known home)) [] []

-- a pass without the first caller that it was to hand in
abbrev pub without_first_due : {O : Type 0} → Knows O → Knows O
without_first_due v = knows v.home (drop 1 v.due) v.given v.taken

-- the pass that is made of another, for the first caller that that one was to hand in
abbrev pub first_due : {O : Type 0} → Knows O → Knows O
first_due v = knows v.home (take 1 v.due) [] []

-- the caller of a pass was put into the queue, as it was then
abbrev pub pass_with_given : {O : Type 0} → Knows O → HandedIn O → Knows O
pass_with_given v x = knows v.home [] (kept_list x.handed ++ v.given) v.taken

-- a caller was taken out, as it was then
abbrev pub pass_with_taken : {O : Type 0} → Knows O → HandedIn O → Knows O
pass_with_taken v x = knows v.home v.due v.given (kept_list x.handed ++ v.taken)

-- the weight of the callers in the queue, as they are
abbrev pub callers_weigh : {O : Type 0} → (Handed → ℕ) → List (HandedIn O) → ℕ
callers_weigh {O = O} f items = total_weight (λ (x : HandedIn O). total_weight f (kept_list x.handed)) items

-- a weight of callers by their numbers
abbrev pub by_number : (ℕ → ℕ) → Handed → ℕ
by_number h g = h (handed_number g)

-- the weight of the callers that are with a pass, by their numbers
abbrev pub pass_weighs : {O : Type 0} → (ℕ → ℕ) → Knows O → ℕ
pass_weighs h v = total_weight h v.due + total_weight (by_number h) v.taken

-- What lies in the queue are callers of one service, each with its share of it, and each pass knows which service that is. However callers are
-- weighed by their numbers, those that are with passes and those in the queue are all callers of the service, each once. However they are weighed as they are,
-- with all that they made and were answered, those that passes put into the queue are those that passes took out and those that lie there.
pub record KeepsSessions {O : Type 0} (items : List (HandedIn O)) (views : List (Knows O)) : Type 0 where
  pub service : Running O
  pub each : All (IsHandedInAt (Some service)) items
  pub known : (pass : ℕ) (v : Knows O) → get_elem? views pass ≡ some v → v.home ≡ Some service
  pub callers : (h : ℕ → ℕ) → total_weight (pass_weighs h) views + callers_weigh (by_number h) items ≡ total_weight h (range_with_len 0 service.callers)
  pub accounts : (f : Handed → ℕ) → total_weight (λ (v : Knows O). total_weight f v.given) views ≡ total_weight (λ (v : Knows O). total_weight f v.taken) views + callers_weigh f items

-- what lies in the queue is the share alone by which its only pass learns the service
pub record IsOpening {O : Type 0} (items : List (HandedIn O)) (views : List (Knows O)) : Type 0 where
  pub share : HandedIn O
  pub items_are : items ≡ share ∷ []
  pub views_are : views ≡ offering (arc_value share.service) ∷ []

-- the queue is new, or what lies in it is the share alone by which its only pass learns the service
abbrev pub IsNewQueue : {O : Type 0} → List (HandedIn O) → List (Knows O) → Type 0
IsNewQueue items views = ((items ≡ []) × (views ≡ new_pass ∷ [])) ⊎ IsOpening items views

-- the rule's accounts hold of the queue, or it is new
abbrev pub KeepsOrIsNew : {O : Type 0} → List (HandedIn O) → List (Knows O) → Type 0
KeepsOrIsNew items views = IsNewQueue items views ⊎ KeepsSessions items views

-- What a pass learns of the queue: each caller of the service is with it, in the queue, or with other passes, once. And what it put into the queue and others did is
-- what it took out, what others did, and what lies there.
pub record TellsCallers {O : Type 0} (v : Knows O) (items : List (HandedIn O)) : Type 0 where
  pub due : List ℕ
  pub given : List Handed
  pub taken : List Handed
  pub callers : (h : ℕ → ℕ) → pass_weighs h v + callers_weigh (by_number h) items + (total_weight h due + total_weight (by_number h) taken) ≡ total_weight h (range_with_len 0 (callers_known v.home))
  pub accounts : (f : Handed → ℕ) → total_weight f v.given + total_weight f given ≡ total_weight f v.taken + total_weight f taken + callers_weigh f items

-- what a pass knows of all callers, where those that lie in the queue count among those that it did not take out
pub record TellsAll {O : Type 0} (v : Knows O) : Type 0 where
  pub due : List ℕ
  pub given : List Handed
  pub left : List Handed
  pub callers : (h : ℕ → ℕ) → pass_weighs h v + (total_weight h due + total_weight (by_number h) left) ≡ total_weight h (range_with_len 0 (callers_known v.home))
  pub accounts : (f : Handed → ℕ) → total_weight f v.given + total_weight f given ≡ total_weight f v.taken + total_weight f left
