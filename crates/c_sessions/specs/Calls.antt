-- The result of a call: the service's answer, by what was asked.
use Rattle.std.specs.Prelude.{◌≡◌, ◌+◌, ◌⊎◌, ℕ, Bool, true, false, List}
use Rattle.table_invariant.specs.Running.{Running}
use Rattle.table_invariant.specs.Seats.{Seated}
use Rattle.cx_core.specs.declared.local.FullNote.{FullNote}
use Rattle.cx_service.specs.declared.close.Handed.{Handed}
use Rattle.cx_service.specs.declared.close.Handed.TheVariants.{Idle, Linked, Stopped}
use Rattle.cx_service.specs.declared.drive.Driven.TheVariants.{Done as DrivenDone, Pending as DrivenPending, Halted as DrivenHalted}
use Rattle.cx_service.specs.declared.lookup.ReadTried.TheVariants.{Read, Pending as ReadPending, Halted as ReadHalted}
use Rattle.cx_service.specs.declared.submit.Submitted.TheVariants.{Linked as Entered, Again as EnteredAgain, Full as EnteredFull, Worn as EnteredWorn, Halted as EnteredHalted}
use Rattle.cx_service.specs.Drives.{Drives}
use Rattle.cx_service.specs.Lookups.{Looks}
use Rattle.cx_service.specs.Submits.{Submits}
use Rattle.seat_pool.specs.Gathering.{IsHandedOf}
use Rattle.c_sessions.specs.declared.steps.Called.{Called}
use Rattle.c_sessions.specs.declared.steps.Called.TheVariants.{Done, Pending, Again, Full, Worn, Stopped as CalledStopped, OutOfTurn}

-- a call gives back a caller of this service, in whichever state, and this was done
pub record HandsBack {O : Type 0} (r : Running O) (handed : Handed) (Done : Type 0) : Type 0 where
  pub of : IsHandedOf r handed
  pub done : Done

-- the session's place after a call: the answer's place where the call is done, and `before` where it is not
abbrev pub place_after : Called → ℕ → ℕ
place_after (Done place) before = place
place_after called before = before

-- driving a linked entry in this many attempts has this result, with this reply where it is done, and the place after the entry
abbrev pub DrivesTo : {O : Type 0} → Running O → ℕ → Seated → Called → Handed → List ℕ → Type 0
DrivesTo r tries before (Done place) (Idle after) reply = (ticket : ℕ) × (place ≡ ticket + 1) × Drives r tries reply before (DrivenDone after ticket)
DrivesTo r tries before Pending (Linked after) reply = Drives r tries reply before (DrivenPending after)
DrivesTo r tries before CalledStopped (Stopped after) reply = Drives r tries reply before (DrivenHalted after)
DrivesTo r tries before called after reply = ⊥

-- a read beside the queue has this result, with its place where it is done
abbrev pub LooksTo : {O : Type 0} → Running O → List ℕ → ℕ → Seated → Called → Handed → List ℕ → Type 0
LooksTo r op tries before (Done place) (Idle after) reply = Looks r op tries reply before (Read after place)
LooksTo r op tries before Again (Idle after) reply = Looks r op tries reply before (ReadPending after)
LooksTo r op tries before CalledStopped (Stopped after) reply = Looks r op tries reply before (ReadHalted after)
LooksTo r op tries before called after reply = ⊥

-- an operation is not entered into the queue
abbrev pub EntersNot : {O : Type 0} → Running O → List ℕ → ℕ → Seated → Called → Handed → Type 0
EntersNot r op tries before Again (Idle after) = Submits r op tries before (EnteredAgain after)
EntersNot r op tries before Full (Idle after) = (note : FullNote) × Submits r op tries before (EnteredFull after note)
EntersNot r op tries before Worn (Idle after) = Submits r op tries before (EnteredWorn after)
EntersNot r op tries before CalledStopped (Stopped after) = Submits r op tries before (EnteredHalted after)
EntersNot r op tries before called after = ⊥

-- an operation is entered into the queue, and its entry is driven to this result
pub record EntersAndDrives {O : Type 0} (r : Running O) (op : List ℕ) (tries : ℕ) (before : Seated) (called : Called) (after : Handed) (reply : List ℕ) : Type 0 where
  pub linked : Seated
  pub entered : Submits r op tries before (Entered linked)
  pub driven : DrivesTo r tries linked called after reply

-- entering an operation into the queue and driving it has this result
abbrev pub EntersTo : {O : Type 0} → Running O → List ℕ → ℕ → Seated → Called → Handed → List ℕ → Type 0
EntersTo r op tries before called after reply = EntersAndDrives r op tries before called after reply ⊎ EntersNot r op tries before called after

-- an operation that only reads is read beside the queue, and each other is entered
abbrev pub AsksBy : {O : Type 0} → Bool → Running O → List ℕ → ℕ → Seated → Called → Handed → List ℕ → Type 0
AsksBy true r op tries before called after reply = LooksTo r op tries before called after reply
AsksBy false r op tries before called after reply = EntersTo r op tries before called after reply

-- a call of a caller with no call under way: read beside the queue where the operation only reads, else entered
abbrev pub Calls : {O : Type 0} → (O → List ℕ → Bool) → Running O → List ℕ → ℕ → Seated → Called → Handed → List ℕ → Type 0
Calls reads r op tries before called after reply = AsksBy (reads r.object op) r op tries before called after reply

-- a call of a caller in any state: out of turn where an entry is linked or the caller is stopped, and then nothing is changed
abbrev pub CallsFrom : {O : Type 0} → (O → List ℕ → Bool) → Running O → List ℕ → ℕ → Handed → Called → Handed → List ℕ → Type 0
CallsFrom reads r op tries (Idle before) called after reply = Calls reads r op tries before called after reply
CallsFrom reads r op tries before called after reply = (called ≡ OutOfTurn) × (after ≡ before)

-- finishing the linked entry of a caller in any state: out of turn where no entry is linked, and then nothing is changed
abbrev pub FinishesFrom : {O : Type 0} → Running O → ℕ → Handed → Called → Handed → List ℕ → Type 0
FinishesFrom r tries (Linked before) called after reply = DrivesTo r tries before called after reply
FinishesFrom r tries before called after reply = (called ≡ OutOfTurn) × (after ≡ before)
