-- The result of submitting an operation.
use Rattle.std.specs.Prelude.{◌≡◌, ◌≢◌, ◌+◌, ◌*◌, ◌^◌, ◌<◌, ◌≤◌, ◌⊎◌, false, ℕ, min, List, [], ◌∷◌, ◌++◌, length, slice_index, Some, None, Result, Ok, Err}
use Rattle.cx_base.specs.Codes.{root_place_of}
use Rattle.cx_core.specs.declared.local.Linked.{Linked as OwnEntry}
use Rattle.cx_core.specs.declared.local.Local.{Local}
use Rattle.cx_core.specs.Layout.{max_word}
use Rattle.cx_core.specs.QueueEvents.{IsIdle, cell_of, next_number}
use Rattle.cx_core.specs.State.{one_more}
use Rattle.cx_table.specs.Seats.{HasMadeSteps}
use Rattle.table_invariant.specs.Running.{Running}
use Rattle.table_invariant.specs.Seats.{IsAtLimit, Seated, images_of, unanswered_ticket}
use Rattle.table_invariant.specs.declared.rule.Times.{Times}
use Rattle.table_invariant.specs.Timing.{BeginsIn}
use Rattle.cx_core.specs.declared.local.FullNote.{FullNote}
use Rattle.cx_service.specs.declared.submit.Submitted.{Submitted}
use Rattle.cx_service.specs.declared.submit.Submitted.TheVariants.{Linked, Again, Full, Worn, Halted}
use Rattle.cx_service.specs.Callers.{IsCallerOf, IsLinkedOf, IsStoppedOf, StoppedSeat}
use Rattle.mutation_queue.specs.Cells.{IsInUse, writes}
use Rattle.mutation_queue.specs.Collecting.{except_collected}
use Rattle.cx_attempts.specs.Attempts.{StepsOn}
use Rattle.mutation_queue.specs.declared.links.LinkTried.{LinkTried}
use Rattle.mutation_queue.specs.Links.{EndsBy, HaltsTry, LosesTries}
use Rattle.mutation_queue.specs.declared.links.LinkTried.TheVariants.{Linked as TriedLinked, Again as TriedAgain, Worn as TriedWorn}

-- each cell holds a ticket at or above the greatest FREE found
abbrev pub AreInUse : Local → Type 0
AreInUse l = (j : ℕ) → j < 16 → IsInUse l j

-- Nothing was looked for: no greater FREE was found, and no scan was made.
pub record LooksForNothing (before after : Seated) : Type 0 where
  pub free : after.known.local.seen_free ≡ before.known.local.seen_free
  pub scans : after.known.local.scans ≡ before.known.local.scans

-- what is known of when a caller's entries and reads were answered is as it was
pub record KeepsEnds (before after : Times) : Type 0 where
  pub answered : after.answered ≡ before.answered
  pub reads : after.reads ≡ before.reads

-- what each answer of a submit leaves as it was, a front and a code found in CUR that do not fall, and at most this many steps; where a cell was
-- idle, none was looked for
pub record SubmitKeeps (most : ℕ) (before after : Seated) : Type 0 where
  pub number : after.known.local.number ≡ before.known.local.number
  pub limit : after.known.local.limit ≡ before.known.local.limit
  pub answered : after.known.local.answered ≡ before.known.local.answered
  pub reads : after.known.local.seen_reads ≡ before.known.local.seen_reads
  pub met : after.known.local.met ≡ before.known.local.met
  pub sets : after.known.sets ≡ before.known.sets
  pub front : before.known.local.front ≤ after.known.local.front
  pub cur : before.known.local.seen_cur ≤ after.known.local.seen_cur
  pub steps : after.known.local.steps ≤ before.known.local.steps + most
  pub idle : (j : ℕ) → j < 16 → IsIdle before.known.local j → LooksForNothing before after
  pub times : KeepsEnds before.known.times after.known.times
  pub images : images_of after.known ≡ images_of before.known

-- the caller's next entry, with this operation and this ticket
abbrev pub next_entry : {O : Type 0} → Running O → Local → List ℕ → ℕ → OwnEntry
next_entry r l op ticket = record { ticket = ticket; entry = record { caller = l.number; number = next_number r.base l; op = op } }

-- The entry is linked, and no other: the caller has one entry more, of this operation, at the ticket that it lends. It was linked by a step
-- of this call.
pub record SubmitLinked {O : Type 0} (r : Running O) (op : List ℕ) (most : ℕ) (before after : Seated) : Type 0 where
  pub caller : IsLinkedOf r after
  pub keeps : SubmitKeeps most before after
  pub allowed : ¬ IsAtLimit before.known.local
  pub scans : before.known.local.scans ≤ after.known.local.scans
  pub ticket : ℕ
  pub lends : unanswered_ticket after.known.local ≡ Some ticket
  pub own : after.known.local.own ≡ before.known.local.own ++ next_entry r before.known.local op ticket ∷ []
  pub from : before.known.local.front ≤ ticket
  pub front : after.known.local.front ≡ ticket + 1
  pub begun : BeginsIn before.known.local.steps before.known.times.linked after.known.times.linked
  pub since : StepsOn before after

-- The result of tries to link an entry, one after another: it was written into a cell before, after this many steps, by one for the first
-- word and for each other that differed.
pub record TriesOf {O : Type 0} (r : Running O) (n : ℕ) (come_to : Seated → Seated → Type 0) (before after : Seated) : Type 0 where
  pub cell : ℕ
  pub from : Seated
  pub number : slice_index (cell_of from.known.local cell).words 0 ≡ next_number r.base before.known.local
  pub since : HasMadeSteps (before.known.local.steps + n + writes before.known.local cell (cell_of from.known.local cell).words) from
  pub made : come_to from after

-- Nothing was linked, this many tries were lost, and tickets are left.
pub record SubmitAgain {O : Type 0} (r : Running O) (tries most : ℕ) (before after : Seated) : Type 0 where
  pub caller : IsCallerOf r after
  pub keeps : SubmitKeeps most before after
  pub allowed : ¬ IsAtLimit before.known.local
  pub scans : before.known.local.scans ≤ after.known.local.scans
  pub own : after.known.local.own ≡ before.known.local.own
  pub front : before.known.local.front + tries ≤ after.known.local.front
  pub cur : root_place_of r.callers after.known.local.seen_cur + tries ≤ after.known.local.front
  pub left : after.known.local.front < 2 ^ 40
  pub linked : after.known.times.linked ≡ before.known.times.linked
  pub since : StepsOn before after

-- all 16 cells hold tickets, and this is the least
pub record HoldsFrom (l : Local) (ticket : ℕ) : Type 0 where
  pub each : (j : ℕ) → j < 16 → (t : ℕ) × ((cell_of l j).ticket ≡ Some t) × (ticket ≤ t)
  pub here : (j : ℕ) × (j < 16) × ((cell_of l j).ticket ≡ Some ticket)

-- Another caller keeps this one's cells: the need is the least that the last scan found, the holder the least caller that had it,
-- and the need is at most the least ticket of the 16 cells.
pub record NamesHolder (callers : ℕ) (l : Local) (note : FullNote) : Type 0 where
  pub holder : note.holder < callers
  pub other : note.holder ≢ l.number
  pub seen : l.seen_need ≡ Some (record { need = note.need; caller = note.holder })
  pub need : note.need ≤ note.ticket
  pub cells : HoldsFrom l note.ticket

-- No cell is idle after FREE was loaded and a scan made in this call: another caller's need keeps them. The caller linked at least 16
-- entries in this service.
pub record SubmitFull {O : Type 0} (r : Running O) (most : ℕ) (before after : Seated) (note : FullNote) : Type 0 where
  pub caller : IsCallerOf r after
  pub keeps : SubmitKeeps most before after
  pub allowed : ¬ IsAtLimit before.known.local
  pub own : after.known.local.own ≡ before.known.local.own
  pub scans : after.known.local.scans ≡ one_more before.known.local.scans
  pub steps : after.known.local.steps ≡ min (before.known.local.steps + (r.callers + 4)) max_word
  pub full : 16 ≤ length before.known.local.own
  pub names : NamesHolder r.callers after.known.local note
  pub linked : after.known.times.linked ≡ before.known.times.linked

-- A cell is idle, and there is no further ticket. At least this many steps were made.
pub record SubmitWorn {O : Type 0} (r : Running O) (least most : ℕ) (before after : Seated) : Type 0 where
  pub caller : IsCallerOf r after
  pub keeps : SubmitKeeps most before after
  pub allowed : ¬ IsAtLimit before.known.local
  pub scans : before.known.local.scans ≤ after.known.local.scans
  pub own : after.known.local.own ≡ before.known.local.own
  pub front : after.known.local.front ≡ 2 ^ 40
  pub steps : HasMadeSteps (before.known.local.steps + least) after
  pub idle : (j : ℕ) × (j < 16) × IsIdle after.known.local j
  pub linked : after.known.times.linked ≡ before.known.times.linked

-- A further step was to be made and the steps equal the limit. Nothing was linked, and no step is taken back.
pub record SubmitHalted {O : Type 0} (r : Running O) (most : ℕ) (before : Seated) (after : StoppedSeat) : Type 0 where
  pub caller : IsStoppedOf r after.seat
  pub linked : after.linked ≡ None
  pub keeps : SubmitKeeps most before after.seat
  pub own : after.seat.known.local.own ≡ before.known.local.own
  pub none : unanswered_ticket after.seat.known.local ≡ None
  pub times : after.seat.known.times.linked ≡ before.known.times.linked
  pub since : StepsOn before after.seat

-- A cell was looked for by this many steps: by none where one was idle, by one where FREE was loaded alone, and by the scan's too where one
-- was made.
abbrev pub LooksBy : ℕ → ℕ → Seated → Seated → Type 0
LooksBy callers n before after =
    ((n ≡ 0) × ((j : ℕ) × (j < 16) × IsIdle before.known.local j))
    ⊎ (((n ≡ 1) × AreInUse before.known.local × (after.known.local.scans ≡ before.known.local.scans))
    ⊎ ((n ≡ callers + 4) × AreInUse before.known.local × (after.known.local.scans ≡ one_more before.known.local.scans)))

-- A step is due in looking for a cell: no cell is idle and no scan has ended, or one has, by this many steps in all, and FREE is still to be
-- loaded.
abbrev pub IsLooking : ℕ → Seated → Seated → Type 0
IsLooking n before after =
    (AreInUse after.known.local × (after.known.local.scans ≡ before.known.local.scans))
    ⊎ ((after.known.local.scans ≡ one_more before.known.local.scans) × (after.known.local.steps ≡ min (before.known.local.steps + n) max_word))

-- A step is due in entering an operation in an idle cell, after this many others: CUR is to be loaded, or the entry to be written there, and
-- the limit is less than what that needs. No other cell was written.
pub record IsWriting {O : Type 0} (r : Running O) (op : List ℕ) (n : ℕ) (before after : Seated) : Type 0 where
  pub cell : ℕ
  pub within : cell < 16
  pub idle : IsIdle after.known.local cell
  pub short : after.known.local.limit < before.known.local.steps + n + writes before.known.local cell (next_number r.base before.known.local ∷ op)
  pub others : (k : ℕ) → k ≢ cell → cell_of after.known.local k ≡ cell_of before.known.local k

-- A step is due to a submit in trying to link: fewer tries were lost than this number, and a ticket is left.
abbrev pub IsTrying : {O : Type 0} → Running O → ℕ → ℕ → Seated → Seated → Type 0
IsTrying r tries n before after = TriesOf r n (EndsBy r.callers tries (HaltsTry r.callers)) before after

-- the step limit was reached in one of this many tries to link an operation in an idle cell, or before them
abbrev pub HaltsInCell : {O : Type 0} → Running O → List ℕ → ℕ → ℕ → Seated → StoppedSeat → Type 0
HaltsInCell r op tries most before after = SubmitHalted r most before after × (IsWriting r op 1 before after.seat ⊎ IsTrying r tries 1 before after.seat)

-- the step limit was reached in one of this many tries, or before them
abbrev pub HaltsEntering : {O : Type 0} → Running O → List ℕ → ℕ → ℕ → Seated → StoppedSeat → Type 0
HaltsEntering r op tries most before after =
    SubmitHalted r most before after
    × (IsLooking (r.callers + 3) before after.seat
    ⊎ ((n : ℕ) × LooksBy r.callers n before after.seat × (IsWriting r op (n + 1) before after.seat ⊎ IsTrying r tries (n + 1) before after.seat)))

-- each of the given number of tries, after the given number of steps, found another's link
abbrev pub FindsLinks : {O : Type 0} → Running O → ℕ → ℕ → Seated → Seated → Type 0
FindsLinks r tries n before after = TriesOf r n (LosesTries r.callers tries) before after

-- an operation that was announced, after the given number of steps and by one or more, and tried to be linked, in at most the other number
abbrev pub EntersIn : {O : Type 0} → ℕ → ℕ → Running O → List ℕ → ℕ → Seated → Seated → LinkTried → Type 0
EntersIn n most r op tries before after (TriedLinked ticket) = SubmitLinked r op most before after
EntersIn n most r op tries before after TriedAgain = SubmitAgain r tries most before after × FindsLinks r tries n before after
EntersIn n most r op tries before after TriedWorn = SubmitWorn r (n + 1) most before after

-- the result of entering an operation in an idle cell, in at most this many steps
abbrev pub EntersOperation : {O : Type 0} → ℕ → Running O → List ℕ → ℕ → Seated → Submitted → Type 0
EntersOperation most r op tries before (Linked after) = SubmitLinked r op most before after
EntersOperation most r op tries before (Again after) = SubmitAgain r tries most before after × FindsLinks r tries 1 before after
EntersOperation most r op tries before (Full after note) = ⊥
EntersOperation most r op tries before (Worn after) = SubmitWorn r 2 most before after
EntersOperation most r op tries before (Halted after) = HaltsInCell r op tries most before after

-- a submit that makes at most this many steps
abbrev pub SubmitsIn : {O : Type 0} → ℕ → Running O → List ℕ → ℕ → Seated → Submitted → Type 0
SubmitsIn most r op tries before (Linked after) = SubmitLinked r op most before after
SubmitsIn most r op tries before (Again after) = SubmitAgain r tries most before after × (n : ℕ) × LooksBy r.callers n before after × FindsLinks r tries (n + 1) before after
SubmitsIn most r op tries before (Full after note) = SubmitFull r most before after note
SubmitsIn most r op tries before (Worn after) = SubmitWorn r 2 most before after
SubmitsIn most r op tries before (Halted after) = HaltsEntering r op tries most before after

-- the result of a submit of this operation by a caller
abbrev pub Submits : {O : Type 0} → Running O → List ℕ → ℕ → Seated → Submitted → Type 0
Submits r op tries before submitted = SubmitsIn (200 + r.callers + 3 * tries) r op tries before submitted

-- A cell was looked for, in at most this many steps: nothing is changed but what was found of FREE and of the callers' needs, a scan
-- under way, whether what was seen of CUR is fresh, and the counts of steps and scans.
pub record LooksForCell (most : ℕ) (before after : Seated) : Type 0 where
  pub same : except_collected after ≡ except_collected before
  pub steps : after.known.local.steps ≤ before.known.local.steps + most

-- no scan is under way, what was seen of CUR is not fresh, and no step is taken back
pub record EndsLooking (before after : Seated) : Type 0 where
  pub scan : after.known.local.scan ≡ None
  pub fresh : after.known.local.fresh ≡ false
  pub scans : before.known.local.scans ≤ after.known.local.scans
  pub since : StepsOn before after

-- the step limit was reached in looking for a cell, where none was idle; the search takes one step more than this number, and none is taken back
pub record HaltsLooking (n : ℕ) (before after : Seated) : Type 0 where
  pub limit : IsAtLimit after.known.local
  pub used : AreInUse before.known.local
  pub looking : IsLooking n before after
  pub since : StepsOn before after

-- no cell is idle, though the cells that no caller needs were opened again, by this many steps
pub record FindsNone (callers n : ℕ) (before after : Seated) (note : FullNote) : Type 0 where
  pub ends : EndsLooking before after
  pub used : AreInUse before.known.local
  pub scans : after.known.local.scans ≡ one_more before.known.local.scans
  pub count : after.known.local.steps ≡ min (before.known.local.steps + n) max_word
  pub allowed : ¬ IsAtLimit before.known.local
  pub names : NamesHolder callers after.known.local note

-- an idle cell, for which no step was made where one was idle at first
pub record FindsIdle (callers : ℕ) (before after : Seated) (cell : ℕ) : Type 0 where
  pub ends : EndsLooking before after
  pub stood : AreInUse before.known.local ⊎ (after ≡ before)
  pub within : cell < 16
  pub idle : IsIdle after.known.local cell
  pub took : ℕ
  pub looked : LooksBy callers took before after
  pub least : HasMadeSteps (before.known.local.steps + took) after
  pub most : after.known.local.steps ≤ before.known.local.steps + took

-- an idle cell, behind a scan
pub record FindsFreed (callers : ℕ) (before after : Seated) (cell : ℕ) : Type 0 where
  pub ends : EndsLooking before after
  pub within : cell < 16
  pub idle : IsIdle after.known.local cell
  pub scans : after.known.local.scans ≡ one_more before.known.local.scans
  pub count : after.known.local.steps ≡ min (before.known.local.steps + callers + 3) max_word

-- the result of a scan where all cells are in use
abbrev pub FindsAgain : ℕ → Seated → Seated → Result ℕ FullNote → Type 0
FindsAgain callers before after (Ok cell) = FindsFreed callers before after cell
FindsAgain callers before after (Err note) = FindsNone callers (callers + 3) before after note

-- the result of looking for an idle cell
abbrev pub FindsCell : ℕ → Seated → Seated → Result ℕ FullNote → Type 0
FindsCell callers before after (Ok cell) = FindsIdle callers before after cell
FindsCell callers before after (Err note) = FindsNone callers (callers + 4) before after note

-- the tickets of a caller's 16 cells, which all hold one, with the least first
pub record AreTickets (l : Local) (tickets : List ℕ) : Type 0 where
  pub each : (i : ℕ) → i < 16 → (j : ℕ) × (j < 16) × ((cell_of l j).ticket ≡ Some (slice_index tickets i))
  pub least : HoldsFrom l (slice_index tickets 0)
