-- The outcomes of tries to link an entry.
use Rattle.std.specs.Prelude.{◌≡◌, ◌+◌, ◌%◌, ◌^◌, ◌<◌, ◌≤◌, ◌⊎◌, ℕ, zero, suc, [], ◌∷◌, ◌++◌, length, slice_set, Option, Some, None}
use Rattle.cx_base.specs.Codes.{link_ticket_of, root_place_of}
use Rattle.cx_core.specs.Layout.{cell_count}
use Rattle.cx_core.specs.QueueEvents.{ShowsOpen, cell_of, entry_in, linked, lost, raised_front}
use Rattle.cx_core.specs.State.{one_more}
use Rattle.cx_table.specs.Running.{IsSeatOf, Running}
use Rattle.table_invariant.specs.Timing.{BeginsIn}
use Rattle.cx_table.specs.Seats.{IsAtLimit, Seated, StepsOn}
use Rattle.mutation_queue.specs.Cells.{IsAnnounced}
use Rattle.mutation_queue.specs.declared.links.LinkTried.{LinkTried}
use Rattle.mutation_queue.specs.declared.links.LinkTried.TheVariants.{Again, Linked, Worn}

-- the entry that was announced in a cell may be linked: each entry of the caller before it is answered
pub record MayLink {O : Type 0} (r : Running O) (cell : ℕ) (seat : Seated) : Type 0 where
  pub of : IsSeatOf r seat
  pub few : cell < 16
  pub announced : IsAnnounced r.base cell seat
  pub answered : length seat.known.local.answered ≡ length seat.known.local.own

-- a seat but for its front, the slot last looked at and its steps
abbrev pub except_front : Seated → Seated
except_front s = record s { known = record s.known { local = record s.known.local { front = 0; seen_slot = None; steps = 0 } } }

-- a seat but for these, its linked entries, when they were linked, and its cells
abbrev pub except_linked : Seated → Seated
except_linked s = record s { known = record s.known { local = record s.known.local { front = 0; seen_slot = None; steps = 0; own = []; cells = [] }; times = record s.known.times { linked = [] } } }

-- nothing was linked: only the front rose, and steps were made
pub record LinksNone (before after : Seated) : Type 0 where
  pub same : except_front after ≡ except_front before
  pub front : before.known.local.front ≤ after.known.local.front
  pub since : StepsOn before after

-- the entry in the cell was linked with a ticket, and no other
pub record LinksAt (cell ticket : ℕ) (before after : Seated) : Type 0 where
  pub same : except_linked after ≡ except_linked before
  pub own : after.known.local.own ≡ before.known.local.own ++ record { ticket = ticket; entry = entry_in before.known.local cell } ∷ []
  pub cells : after.known.local.cells ≡ slice_set before.known.local.cells cell (record (cell_of before.known.local cell) { ticket = Some ticket })
  pub front : after.known.local.front ≡ ticket + 1
  pub from : before.known.local.front ≤ ticket
  pub linked : BeginsIn before.known.local.steps before.known.times.linked after.known.times.linked

-- the seat after a look at the front's slot that found this word
abbrev pub with_front : ℕ → ℕ → Seated → Seated
with_front callers found s = record s {
  known = record s.known {
    local = record s.known.local {
      front = raised_front callers s.known.local.front found;
      seen_slot = Some (record { slot = s.known.local.front % cell_count callers; word = found });
      steps = one_more s.known.local.steps;
    };
  };
}

-- the seat after a compare-exchange at the front that was lost to this word
abbrev pub with_loss : ℕ → ℕ → Seated → Seated
with_loss callers found s = record s { known = record s.known { local = lost callers s.known.local found } }

-- the seat after a compare-exchange at the front that won, with the entry in this cell
abbrev pub with_win : ℕ → Seated → Seated
with_win cell s = record s { known = record s.known { local = linked s.known.local cell; times = record s.known.times { linked = s.known.times.linked ++ s.known.local.steps ∷ [] } } }

-- One step, which the limit allowed, found another's link: a word that names a ticket from the front on.
pub record FindsLink (callers : ℕ) (step : ℕ → Seated → Seated) (before after : Seated) : Type 0 where
  pub allowed : ¬ IsAtLimit before.known.local
  pub found : ℕ
  pub seat : after ≡ step found before
  pub some : 0 < found
  pub past : before.known.local.front ≤ link_ticket_of callers found

-- One look at the front's slot, which the limit allowed, found it open for the front.
pub record FindsOpen (callers : ℕ) (before after : Seated) : Type 0 where
  pub allowed : ¬ IsAtLimit before.known.local
  pub found : ℕ
  pub seat : after ≡ with_front callers found before
  pub shows : ShowsOpen callers after.known.local.seen_slot after.known.local.front

-- One try was lost: the look found another's link, or the slot open and the compare-exchange found another's link.
abbrev pub LosesTry : ℕ → Seated → Seated → Type 0
LosesTry callers before after =
    FindsLink callers (with_front callers) before after
    ⊎ ((mid : Seated) × FindsOpen callers before mid × FindsLink callers (with_loss callers) mid after)

-- this number of tries was lost, one after another
abbrev pub LosesTries : ℕ → ℕ → Seated → Seated → Type 0
LosesTries callers zero before after = after ≡ before
LosesTries callers (suc n) before after = (mid : Seated) × LosesTries callers n before mid × LosesTry callers mid after

-- One try was won: the look found the slot open, and the compare-exchange, which the limit allowed, linked the entry in the cell.
pub record WinsTry (callers cell : ℕ) (before after : Seated) : Type 0 where
  pub mid : Seated
  pub finds : FindsOpen callers before mid
  pub allowed : ¬ IsAtLimit mid.known.local
  pub seat : after ≡ with_win cell mid

-- A try that the limit ended: before its look, or before the compare-exchange.
abbrev pub HaltsTry : ℕ → Seated → Seated → Type 0
HaltsTry callers before after = (after ≡ before) ⊎ FindsOpen callers before after

-- Fewer tries than this number were lost, where tickets were left, and then came a last one, of the given kind.
pub record EndsBy (callers tries : ℕ) (try : Seated → Seated → Type 0) (before after : Seated) : Type 0 where
  pub count : ℕ
  pub fewer : count < tries
  pub mid : Seated
  pub lost : LosesTries callers count before mid
  pub left : mid.known.local.front < 2 ^ 40
  pub last : try mid after

-- the outcome of tries, try by try
abbrev pub MakesTries : ℕ → ℕ → ℕ → Seated → Seated → LinkTried → Type 0
MakesTries callers cell tries before after (Linked ticket) = EndsBy callers tries (WinsTry callers cell) before after
MakesTries callers cell tries before after Again = LosesTries callers tries before after
MakesTries callers cell tries before after Worn = (count : ℕ) × (count ≤ tries) × LosesTries callers count before after

-- The limit ended a further try: nothing was linked, fewer tries than this number were lost, and tickets are left.
abbrev pub HaltsTries : ℕ → ℕ → Seated → Seated → Type 0
HaltsTries callers tries before after = LinksNone before after × IsAtLimit after.known.local × EndsBy callers tries (HaltsTry callers) before after

-- each of the tries found another's link, and tickets are left
pub record LinksAgain (callers tries : ℕ) (before after : Seated) : Type 0 where
  pub lost : LosesTries callers tries before after
  pub none : LinksNone before after
  pub front : before.known.local.front + tries ≤ after.known.local.front
  pub cur : root_place_of callers before.known.local.seen_cur + tries ≤ after.known.local.front
  pub left : after.known.local.front < 2 ^ 40

-- no entry was linked, and there is no further ticket
pub record IsWorn (before after : Seated) : Type 0 where
  pub none : LinksNone before after
  pub front : after.known.local.front ≡ 2 ^ 40

-- what up to `tries` tries to link the entry in a cell leave: it was linked, each try was lost, or there is no further ticket
abbrev pub Tried : ℕ → ℕ → ℕ → Seated → Seated → LinkTried → Type 0
Tried callers cell tries before after (Linked ticket) = LinksAt cell ticket before after
Tried callers cell tries before after Again = LinksAgain callers tries before after
Tried callers cell tries before after Worn = IsWorn before after

-- a try that was lost: nothing was linked, and another's link was found at the front or beyond
pub record LinksPast (callers : ℕ) (before after : Seated) : Type 0 where
  pub none : LinksNone before after
  pub front : before.known.local.front < after.known.local.front
  pub cur : root_place_of callers before.known.local.seen_cur ≤ before.known.local.front

-- what one try to link the entry in a cell leaves: it was linked, or another's link was found
abbrev pub TriedOnce : ℕ → ℕ → Seated → Seated → Option ℕ → Type 0
TriedOnce callers cell before after (Some ticket) = LinksAt cell ticket before after × WinsTry callers cell before after
TriedOnce callers cell before after None = LinksPast callers before after × LosesTry callers before after
