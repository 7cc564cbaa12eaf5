-- The results of workers: their clients are at their ends, or are left.
use Rattle.std.specs.Prelude.{◌≡◌, ◌+◌, ◌<◌, ◌≤◌, ℕ, List, [], ◌∷◌, ◌++◌, length, take, IfOk, Result, Ok, slice_index_or}
use Rattle.std.specs.declared.alloc.AllocError.{AllocError}
use Rattle.table_invariant.specs.Running.{Running}
use Rattle.life_records.specs.Works.{IsFullOf}
use Rattle.life_records.specs.Scripts.{own_ops}
use Rattle.life_records.specs.Records.{FullLine, Life, Meaning, StopLine}
use Rattle.cx_lives.specs.Ends.{IsWorkOf, full_in, stop_in}
use Rattle.cx_lives.specs.Serving.{IsServed}
use Rattle.cx_lives.specs.declared.work.Left.{Left}
use Rattle.cx_lives.specs.declared.work.WorkerOutcome.{WorkerOutcome}
use Rattle.cx_lives.specs.declared.work.WorkerOutcome.TheVariants.{Done, Full}

-- a client that is left: it was answered its own among the script's first commands, up to the one at which it was left
pub record IsClientLeft {O Op Reply Store : Type 0} (m : Meaning Op Reply Store) (life : Life Op) (r : Running O) (client : ℕ) (left : Left Reply) : Type 0 where
  pub served : IsServed m life r client left.number left.progress
  pub count : left.number ≡ length (own_ops client (take left.at life.commands))
  pub few : left.number ≤ left.at

-- A client is left in a command in which it would end Full, with this line.
pub record IsFullLeft {O Op Reply Store : Type 0} (m : Meaning Op Reply Store) (life : Life Op) (r : Running O) (client : ℕ) (left : Left Reply) (line : FullLine) : Type 0 where
  pub left_is : IsClientLeft m life r client left
  pub full : IsFullOf life client left.number left.progress.caller.known.local line

-- the result of a worker whose client ended Full in no command yet
abbrev pub ServedOf : {O Op Reply Store : Type 0} → (m : Meaning Op Reply Store) → Life Op → Running O → ℕ → WorkerOutcome Reply → Type 0
ServedOf m life r client (Done work) = IsWorkOf m life r client work × (full_in work.end ≡ [])
ServedOf m life r client (Full left line) = IsFullLeft m life r client left line

module _ {Worker Done : Type 0} where
  -- item i is the result of worker i, or that ran out of memory
  abbrev pub AreResultsOf : (Worker → Done → Type 0) → List Worker → List (Result Done AllocError) → Type 0
  AreResultsOf IsOf workers works = (i : ℕ) (d : Result Done AllocError) (e : Worker) → i < length workers → IfOk (slice_index_or works i d) (IsOf (slice_index_or workers i e))

-- the results of the workers of this client and of the clients after it, each where it found memory
abbrev pub AreResultsFrom : {Done : Type 0} → (ℕ → Done → Type 0) → ℕ → List (Result Done AllocError) → Type 0
AreResultsFrom IsOf client [] = Unit {0}
AreResultsFrom IsOf client (work ∷ works) = IfOk work (IsOf client) × AreResultsFrom IsOf (client + 1) works

-- the stop line in a worker's result, where its client was stopped
abbrev pub stop_of_worker : {Reply : Type 0} → Result (WorkerOutcome Reply) AllocError → List StopLine
stop_of_worker (Ok (Done work)) = stop_in work.end
stop_of_worker _ = []

-- the stop lines in the results of workers, in order
abbrev pub stops_left : {Reply : Type 0} → List (Result (WorkerOutcome Reply) AllocError) → List StopLine
stops_left [] = []
stops_left (work ∷ works) = stop_of_worker work ++ stops_left works
