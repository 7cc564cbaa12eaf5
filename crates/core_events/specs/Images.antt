-- What the executable full images stand on.
use Rattle.std.specs.Prelude.{◌≡◌, ◌^◌, ◌<◌, ℕ, List, Some, length, slice_get}
use Rattle.cx_base.specs.declared.object.Object.{Ghosts}
use Rattle.cx_core.specs.declared.entry.Base.{Base}
use Rattle.cx_core.specs.declared.entry.Entry.{Entry}
use Rattle.cx_core.specs.declared.local.Linked.{Linked}
use Rattle.cx_core.specs.declared.local.Local.{Local}
use Rattle.cx_core.specs.Base.{LawfulBase}
use Rattle.cx_core.specs.Region.{object_part, region_words}
use Rattle.cx_core.specs.State.{HasEntries}

-- the entries are of callers that there may be
abbrev pub OfCallers : List Entry → Type 0
OfCallers entries = (i : ℕ) (entry : Entry) → slice_get entries i ≡ Some entry → entry.caller < 8

-- linked entries have tickets below 2^40
abbrev pub HasTickets : List Linked → Type 0
HasTickets own = (i : ℕ) (x : Linked) → slice_get own i ≡ Some x → x.ticket < 2 ^ 40

-- the base is a lawful one of the object, and the callers' entries may stand behind it
pub record CanReplayHistory {O : Type 0} (o : Ghosts O) (object : O) (from : Base) (locals : List Local) : Type 0 where
  pub base : LawfulBase (o.line_count object) (o.lawful object) from
  pub entries : HasEntries locals

-- the words of a region with a lawful object part
pub record IsRegion (lines : ℕ) (lawful : List ℕ → Type 0) (region : List ℕ) : Type 0 where
  pub long : length region ≡ region_words lines
  pub object : lawful (object_part region)
