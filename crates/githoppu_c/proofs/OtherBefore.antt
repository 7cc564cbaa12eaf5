-- What the image of a program's object comes to does not depend on which other program's images the object takes over.
use Rattle.std.proofs.Common.{◌≡◌, List, Option, Result, Err, Ok, true, ℕ}
use Rattle.std.specs.Prelude.{MatchResult}
use Rattle.cx_core.specs.State.{Instance}
use Rattle.cx_core.specs.declared.entry.Base.{Base}
use Rattle.table_invariant.specs.Running.{IsTableWithinLimits, Running}
use Rattle.table_invariant.specs.Seats.{Seated}
use Rattle.cx_table.specs.Remains.{ClosingWitness}
use Rattle.cx_table.specs.declared.remains.Remains.{Remains}
use Rattle.program_object.specs.Meaning.{is_other}
use Rattle.program_object.specs.contracts.object.ProgramObjectObject.TheImpl.{ghosts as program_ghosts}
use Rattle.program_object.specs.declared.object.ProgramObject.{ProgramObject}
use Rattle.recovery.specs.Kept.{IsKeptBy, IsOpened}
use Rattle.c_images.specs.declared.reader.WordsFault.{WordsFault}

-- the service `r` with another object in its place, and all else as it is
abbrev pub of_object : {O : Type 0} → Running O → O → Running O
of_object r object = record { table = r.table; callers = r.callers; lines = r.lines; base = r.base; object = object }

-- what a closed service leaves is also what it would leave with another object in its place, since it names none
pub leaves_of : {O : Type 0} (r : Running O) (object : O) (instance : Instance) (seats : List Seated) (left : Remains) → ClosingWitness r instance seats left → ClosingWitness (of_object r object) instance seats left
leaves_of r object instance seats left l = record {
  callers = l.callers;
  lines = l.lines;
  first = l.first;
  published = l.published;
  of = l.of;
  base = l.base;
  locals = l.locals;
  words = l.words;
  whole = l.whole;
  shows = l.shows;
  state = l.state;
  reached = l.reached;
  history = l.history;
  merged = l.merged;
  chain = l.chain;
  volatile = l.volatile;
  durable = l.durable;
  dirty = l.dirty;
  notes = l.notes;
  times = l.times;
  images = l.images;
}

module _ (before : Option ℕ) (r : Running ProgramObject) (other : is_other before r.object.version ≡ true) where
  -- a service of the same program's object, which takes over the images of this other program
  abbrev pub with_before : Running ProgramObject
  with_before =
      let o = r.object in
      of_object r (record { lines = o.lines; version = o.version; fuel = o.fuel; before = before; program = o.program; some = o.some; few = o.few; small = o.small; other = other })

  -- the service that takes over the other program's images is opened as `r` is
  pub opened_with : IsOpened program_ghosts.line_count program_ghosts.lawful r → IsOpened program_ghosts.line_count program_ghosts.lawful with_before
  opened_with is = record { lines = is.lines; enough = is.enough; small = is.small; base = is.base }

  -- the service that takes over the other program's images is within the limits, as `r` is
  pub running_with : IsTableWithinLimits program_ghosts.line_count program_ghosts.lawful r → IsTableWithinLimits program_ghosts.line_count program_ghosts.lawful with_before
  running_with is = record { some = is.some; few = is.few; lines = is.lines; enough = is.enough; small = is.small; base = is.base; words = is.words; slots = is.slots }

  module _ (seats : List Seated) (left : Remains) (choice : ℕ) where
    -- a base is one that a crash, by `choice`, keeps of this service
    abbrev pub kept_in : Running ProgramObject → Base → Type 0
    kept_in table = IsKeptBy program_ghosts.line_count program_ghosts.lawful program_ghosts.step table seats left choice

    -- a base that a crash keeps of the service that takes over the other program's images is one that it keeps of `r`
    pub kept_with : (faulty : WordsFault → Type 0) (answer : Result Base WordsFault) → MatchResult answer (kept_in with_before) faulty → MatchResult answer (kept_in r) faulty
    kept_with faulty (Ok base) k = record { place = k.place; from = k.from; to = k.to; words = k.words; answered = k.answered; reads = k.reads; again = k.again }
    kept_with faulty (Err fault) k = k
