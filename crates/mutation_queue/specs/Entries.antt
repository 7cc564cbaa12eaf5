-- An entry that is read, word after word.
use Rattle.std.specs.Prelude.{◌≡◌, ◌+◌, ◌<◌, ◌≤◌, ◌^◌, ◌⊎◌, ℕ, zero, suc, List, [], ◌∷◌, ◌++◌, length, Option}
use Rattle.cx_base.specs.declared.object.Object.{Ghosts}
use Rattle.cx_core.specs.declared.entry.Entry.{Entry}
use Rattle.cx_core.specs.declared.local.Local.{Local}
use Rattle.cx_core.specs.declared.local.SeenSlot.{SeenSlot}
use Rattle.cx_core.specs.History.{IsLawfulEntry}
use Rattle.cx_core.specs.QueueEvents.{ShowsTicket}
use Rattle.cx_core.specs.RingEvents.{Protects}
use Rattle.cx_core.specs.State.{one_more}
use Rattle.cx_core.specs.Layout.{max_word}
use Rattle.table_invariant.specs.declared.rule.Noted.{Noted}
use Rattle.table_invariant.specs.Fitting.{Fitting, IsNoted}
use Rattle.cx_table.specs.Running.{IsSeatOf, Running}
use Rattle.cx_table.specs.Seats.{IsAtLimit, Seated}

-- the notes of words of the entry with a ticket, from an index on
abbrev pub notes_of : ℕ → ℕ → ℕ → List ℕ → List Noted
notes_of caller ticket i [] = []
notes_of caller ticket i (w ∷ words) = record { ticket = ticket; caller = caller; index = i; word = w } ∷ notes_of caller ticket (i + 1) words

-- a count of steps after this number of further ones; it stays at 2^64 - 1
abbrev pub steps_after : ℕ → ℕ → ℕ
steps_after zero steps = steps
steps_after (suc n) steps = one_more (steps_after n steps)

-- the seat after the first words of an entry were read, one step each: they are noted, and nothing else changes
abbrev pub with_read : ℕ → ℕ → List ℕ → Seated → Seated
with_read caller ticket words s = record s {
  known = record s.known {
    local = record s.known.local { steps = steps_after (length words) s.known.local.steps };
    noted = s.known.noted ++ notes_of caller ticket 0 words;
  };
}

-- the seat after one look at a slot, where the front is not raised
abbrev pub with_look : Option SeenSlot → Seated → Seated
with_look seen s = record s { known = record s.known { local = record s.known.local { seen_slot = seen; steps = one_more s.known.local.steps } } }

-- the limit is reached after this number of further steps; 2^64 - 1 is no limit
abbrev pub EndsAfter : ℕ → Local → Type 0
EndsAfter n l = (l.steps + n ≡ l.limit) × (l.limit < max_word)

-- the entry with a ticket may be read: it is linked, and a protection keeps it
pub record MayRead {O : Type 0} (r : Running O) (ticket : ℕ) (seat : Seated) : Type 0 where
  pub of : IsSeatOf r seat
  pub linked : ticket < seat.known.local.front
  pub protected : Protects ticket seat.known.local.protection

-- an entry that may be read and is not below the base
pub record MayReplay {O : Type 0} (r : Running O) (ticket : ℕ) (seat : Seated) : Type 0 where
  pub may : MayRead r ticket seat
  pub later : r.base.place ≤ ticket

-- one look at the ticket's slot, which the limit allowed, shows the ticket in a cell
pub record LoadsLink {O : Type 0} (r : Running O) (ticket cell : ℕ) (before after : Seated) : Type 0 where
  pub of : IsSeatOf r after
  pub allowed : ¬ IsAtLimit before.known.local
  pub seat : after ≡ with_look after.known.local.seen_slot before
  pub shows : ShowsTicket r.callers after.known.local.seen_slot ticket cell
  pub few : cell < 128
  pub small : ticket < 2 ^ 40

-- the words of an entry were read, all within the limit, and what is noted fits what is there
pub record ReadsWords {O : Type 0} (o : Ghosts O) (r : Running O) (caller ticket : ℕ) (words : List ℕ) (before after : Seated) : Type 0 where
  pub seat : after ≡ with_read caller ticket words before
  pub fits : Fitting r.lines (o.lawful r.object) r.base (o.step r.object) after.known
  pub within : (n : ℕ) → n < 145 → EndsAfter n before.known.local → ⊥

-- the limit was reached before all words were read
pub record HaltsAmong (caller ticket : ℕ) (before after : Seated) : Type 0 where
  pub words : List ℕ
  pub fewer : length words < 145
  pub seat : after ≡ with_read caller ticket words before
  pub limit : EndsAfter (length words) before.known.local

-- The entry of this caller was read: these are its words, its number first, and each is noted with the ticket. Beside the
-- steps and the slot last looked at nothing else is changed, and the 146 steps were within the limit.
pub record ReadsEntry (caller ticket : ℕ) (words : List ℕ) (before after : Seated) : Type 0 where
  pub seat : after ≡ with_read caller ticket words (with_look after.known.local.seen_slot before)
  pub long : length words ≡ 145
  pub within : (n : ℕ) → n < 146 → EndsAfter n before.known.local → ⊥

-- an entry is noted whole with a ticket, and it is one that may come there
pub record IsNotedEntry (ticket : ℕ) (seat : Seated) (entry : Entry) : Type 0 where
  pub noted : IsNoted seat.known.noted ticket entry
  pub lawful : IsLawfulEntry ticket entry
  pub small : ticket < 2 ^ 40

-- the entry of this caller with these words, its number first, is noted whole with a ticket and may come there, and what is noted fits what is there
pub record NotesEntry {O : Type 0} (o : Ghosts O) (r : Running O) (caller ticket : ℕ) (words : List ℕ) (seat : Seated) : Type 0 where
  pub each : (entry : Entry) → entry.caller ≡ caller → entry.number ∷ entry.op ≡ words → IsNotedEntry ticket seat entry
  pub fits : Fitting r.lines (o.lawful r.object) r.base (o.step r.object) seat.known

-- The entry of this caller was read, with these words, and what is noted tells that it may come at its ticket.
pub record ReadsLinked {O : Type 0} (o : Ghosts O) (r : Running O) (caller ticket : ℕ) (found : List ℕ) (before after : Seated) : Type 0 where
  pub words : ReadsEntry caller ticket found before after
  pub notes : NotesEntry o r caller ticket found after

-- The limit was reached before the entry was read: at the look, or among the words, of which those read are noted.
pub record HaltsReading (ticket : ℕ) (before after : Seated) : Type 0 where
  pub made : ℕ
  pub fewer : made < 146
  pub limit : EndsAfter made before.known.local
  pub ended : IsAtLimit after.known.local
  pub seat : (after ≡ before) ⊎ ((caller : ℕ) × (words : List ℕ) × (after ≡ with_read caller ticket words (with_look after.known.local.seen_slot before)))
