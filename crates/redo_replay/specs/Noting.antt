-- A replica held exclusively whose stores are noted.
use Rattle.std.specs.Prelude.{◌≡◌, ◌<◌, ℕ, List}
use Rattle.cx_base.specs.declared.object.Object.{Ghosts}
use Rattle.cx_base.specs.Memory.{Becomes}
use Rattle.cx_core.specs.declared.entry.Entry.{Entry}
use Rattle.table_invariant.specs.declared.rule.Known.{Known}
use Rattle.table_invariant.specs.Running.{Running}
use Rattle.table_invariant.specs.Seats.{Seated}
use Rattle.cx_table.specs.Right.{Right}
use Rattle.redo_set.specs.Sets.{AreWithin, put_over}
use Rattle.replica.specs.Held.{IsHeld}
use Rattle.replica.specs.Regions.{HasPlace}
use Rattle.replica.specs.Replays.{CanStep}

-- a set holds what was stored since: whatever may be there now is its pairs put over what may have been there
pub record Notes {Key : Type 0} (began now : Key → List ℕ → Type 0) (size : ℕ) (set : List ℕ) : Type 0 where
  pub within : AreWithin size set
  pub leads : Becomes began now (λ before after. after ≡ put_over set before)

-- what no access of a noting region changes
pub record NotingFixed (Name Table : Type 0) : Type 0 where
  pub name : Name
  pub set : Name
  pub table : Table
  pub held : Right
  pub rest : Seated

-- a noting begins with what the seat knows, which is this, and the place was loaded or stored
pub record BeginsNoting (known : Known) (seat : Seated) : Type 0 where
  pub same : known ≡ seat.known
  pub place : HasPlace seat.known.accesses

-- a noting region is over this table, seat and right
pub record IsNotingOf {Table : Type 0} (t t' : Table) (s s' : Seated) (h h' : Right) : Type 0 where
  pub table : t' ≡ t
  pub seat : s' ≡ s
  pub held : h' ≡ h

-- the full step of an entry can be done on the replica held
pub record CanNote {O : Type 0} (o : Ghosts O) (r : Running O) (held : Right) (entry : Entry) (seat : Seated) : Type 0 where
  pub is_held : IsHeld (o.line_count r.object) r (o.lawful r.object) (o.step r.object) seat held
  pub can : CanStep o r seat
  pub caller : entry.caller < 8
