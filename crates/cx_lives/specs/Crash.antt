-- What a crash leaves of a service that was closed, and what is recovered from it.
use Rattle.std.specs.Prelude.{◌≡◌, ◌-◌, ◌%◌, ℕ, List, length, map, slice_index}
use Rattle.cx_base.specs.Codes.{root_place_of}
use Rattle.cx_base.specs.OldFormat.{no_old_format}
use Rattle.cx_base.specs.declared.object.Object.{Ghosts}
use Rattle.cx_core.specs.Base.{LawfulBase}
use Rattle.cx_core.specs.Crash.{IsKept}
use Rattle.cx_core.specs.Lawful.{Lawful}
use Rattle.cx_core.specs.Region.{object_part}
use Rattle.cx_core.specs.Shown.{shown}
use Rattle.cx_core.specs.State.{Instance, State}
use Rattle.cx_core.specs.declared.entry.Base.{Base}
use Rattle.cx_core.specs.declared.entry.Image.{Image}
use Rattle.table_invariant.specs.Running.{Running, instance_at}
use Rattle.table_invariant.specs.Seats.{Seated}
use Rattle.cx_service.specs.Starts.{AreFewLines}
use Rattle.cx_table.specs.Remains.{ClosingWitness}
use Rattle.cx_table.specs.declared.remains.Remains.{Remains}
use Rattle.life_records.specs.Meanings.{object_instance}
use Rattle.life_records.specs.Records.{Meaning}
use Rattle.recovery.specs.Crashes.{AreRemainsWhole, IsLeftOf}
use Rattle.recovery.specs.Images.{IsReadable}
use Rattle.recovery.specs.Recovery.{IsRecovered}
use Rattle.cx_lives.specs.Life.{IsServiceOf}
use Rattle.cx_lives.specs.declared.crash.Crashed.{Crashed}

-- A service of this object, which opened from this base, was closed with some seats and left this.
pub record HasClosed {O : Type 0} (o : Ghosts O) (object : O) (base : Base) (remains : Remains) : Type 0 where
  pub lines : AreFewLines (o.line_count object)
  pub lawful : LawfulBase (o.line_count object) (o.lawful object) base
  pub callers : ℕ
  pub service : Running O
  pub is : IsServiceOf object (o.line_count object) callers base service
  pub seats : List Seated
  pub leaves : ClosingWitness service (instance_at service o.step o.only_reads) seats remains

-- a lawful state has the history and the callers of what was left, and this base was kept of it
pub record KeepsState (instance : Instance) (remains : Remains) (next : Base) : Type 0 where
  pub s : State
  pub law : Lawful instance s
  pub history : law.history ≡ remains.trail.history
  pub shows : map shown s.locals ≡ remains.trail.locals
  pub kept : IsKept instance law.history s next

-- What the crash leaves by a choice, and what is recovered from that image. The choice takes the code whose place ends what is kept, from the codes
-- with which the service ended, in rising order.
pub record HasCrashed {O : Type 0} (o : Ghosts O) (object : O) (base : Base) (choice : ℕ) (remains : Remains) (image : Image) (next : Base) : Type 0 where
  pub whole : AreRemainsWhole remains
  pub left : IsLeftOf remains choice image
  pub readable : IsReadable (o.line_count object) image
  -- the image is of the object's own version, and recovered as it is
  pub recovered : IsRecovered (o.version_number object) (o.lawful object) no_old_format image next
  pub lawful : LawfulBase (o.line_count object) (o.lawful object) next
  pub place : next.place ≡ root_place_of remains.callers (slice_index remains.trail.chain (choice % length remains.trail.chain))
  pub keeps : KeepsState (object_instance (o.step object) (o.only_reads object) remains.callers base) remains next

-- a life ends in a crash with this image and base, with the number of entries that the base keeps, and of the items of the store that it stands for
pub record EndsInCrash {O Op Reply Store : Type 0} (o : Ghosts O) (m : Meaning Op Reply Store) (object : O) (base : Base) (choice : ℕ) (remains : Remains) (crashed : Crashed) : Type 0 where
  pub crash : HasCrashed o object base choice remains crashed.image crashed.next
  pub kept_is : crashed.kept ≡ crashed.next.place - base.place
  pub items_are : (store : Store) → m.stands (object_part crashed.next.words) store → crashed.items ≡ m.items store
