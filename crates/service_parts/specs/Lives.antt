-- A service that opened from a lawful base, and what it left when it was closed.
use Rattle.std.specs.Prelude.{◌≡◌, ◌≤◌, ℕ, List, length}
use Rattle.cx_core.specs.declared.entry.Base.{Base}
use Rattle.cx_core.specs.Base.{LawfulBase}
use Rattle.table_invariant.specs.Running.{Running, instance_at}
use Rattle.table_invariant.specs.Seats.{Seated}
use Rattle.cx_table.specs.declared.remains.Remains.{Remains}
use Rattle.cx_table.specs.Remains.{ClosingWitness}
use Rattle.cx_service.specs.ClosedOrder.{IsLinearizedBy}
use Rattle.recovery.specs.Kept.{IsKeptBy, IsOpened}
use Rattle.service_parts.specs.Callers.{AreAllCallers, AreNew, TellsEach}
use Rattle.cx_base.specs.declared.object.Object.{Ghosts}

-- what a service may start with: an object of 64 to 16,384 lines, and a base that is lawful for it
pub record MayServe {O : Type 0} (o : Ghosts O) (object : O) (base : Base) : Type 0 where
  pub enough : 64 ≤ o.line_count object
  pub small : o.line_count object ≤ 16384
  pub lawful : LawfulBase (o.line_count object) (o.lawful object) base

-- a service is of this object, of this many callers, and opened from this base, which is lawful
pub record IsOpen {O : Type 0} (o : Ghosts O) (object : O) (callers : ℕ) (base : Base) (table : Running O) : Type 0 where
  pub object_is : table.object ≡ object
  pub callers_are : table.callers ≡ callers
  pub base_is : table.base ≡ base
  pub opened : IsOpened o.line_count o.lawful table

-- a service is open in this way, and these are its callers: as many as were asked for, from caller 0 on, none of which has made a step
pub record IsOpenWith {O : Type 0} (o : Ghosts O) (object : O) (count_asked : ℕ) (base : Base) (table : Running O) (seats : List Seated) : Type 0 where
  pub service : IsOpen o object count_asked base table
  pub callers : AreAllCallers table seats
  pub count : length seats ≡ count_asked
  pub new : AreNew table count_asked seats

-- What a service of this object left when it was closed, which opened from a lawful base. By the order of all callers' steps its history is a
-- linearization of their calls.
pub record IsLeftBy {O : Type 0} (o : Ghosts O) (object : O) (r : Remains) : Type 0 where
  pub table : Running O
  pub seats : List Seated
  pub object_is : table.object ≡ object
  pub opened : IsOpened o.line_count o.lawful table
  pub leaves : ClosingWitness table (instance_at table o.step o.only_reads) seats r
  pub order : IsLinearizedBy leaves

-- what a service of this object left when it was closed, which had this many callers and opened from this base
pub record IsServiceFrom {O : Type 0} (o : Ghosts O) (object : O) (callers : ℕ) (base : Base) (r : Remains) : Type 0 where
  pub left : IsLeftBy o object r
  pub callers_are : left.table.callers ≡ callers
  pub base_is : left.table.base ≡ base

-- What a service of this object left when it was closed, which had this many callers and opened from this base; and what is said of each worker's output is
-- so of its caller, of caller 0 first, by its seat as it was before any step and as it was handed in.
pub record IsServedBy {O T : Type 0} (o : Ghosts O) (object : O) (callers : ℕ) (base : Base) (tells : Running O → Seated → Seated → T → Type 0) (r : Remains) (outputs : List T) : Type 0 where
  pub served : IsServiceFrom o object callers base r
  pub new : List Seated
  pub are_new : AreNew served.left.table callers new
  pub tells_so : TellsEach (tells served.left.table) new served.left.seats outputs

-- What is recovered by choice from what a service left when it was closed: the object after a prefix of its history, which has all that was answered.
abbrev pub IsKeptOf : {O : Type 0} {o : Ghosts O} {object : O} {r : Remains} → IsLeftBy o object r → ℕ → Base → Type 0
IsKeptOf {o = o} {r = r} left choice base = IsKeptBy o.line_count o.lawful o.step left.table left.seats r choice base
