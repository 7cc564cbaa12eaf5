-- What a step has to know of the history before it is made.
use Rattle.std.specs.Prelude.{◌≡◌, ◌+◌, ◌<◌, ◌↔◌, ℕ, Bool, IsTrue, List, Option, None, Some, length}
use Rattle.std.specs.Option.{option_to_list}
use Rattle.core_events.specs.declared.replies.Acknowledged.{Acknowledged}
use Rattle.core_events.specs.declared.events.HistoryFacts.{HistoryFacts}
use Rattle.cx_base.specs.Codes.{root_place_of}
use Rattle.cx_base.specs.declared.object.Object.{Ghosts}
use Rattle.cx_core.specs.Base.{LawfulBase}
use Rattle.cx_core.specs.declared.kinds.Kind.{Kind}
use Rattle.cx_core.specs.declared.kinds.Kind.TheVariants.{Downgrade, ReleaseExclusive, Raise, Offer, NoteGap}
use Rattle.cx_core.specs.declared.local.Local.{Local}
use Rattle.cx_core.specs.Events.{TellsFull}
use Rattle.cx_core.specs.Gaps.{CanNoteGap}
use Rattle.cx_core.specs.QueueEvents.{cell_of}
use Rattle.cx_core.specs.RootEvents.{CanRaise, answers_below, reads_at, unanswered}
use Rattle.cx_core.specs.SetEvents.{CanOffer, offer_of}
use Rattle.cx_core.specs.State.{Core, Instance, Scene}

-- a core has a caller of this number, and a base that is a lawful one of the object
pub record HasBaseAndCaller {O : Type 0} (o : Ghosts O) (object : O) (core : Core) (number : ℕ) : Type 0 where
  pub base : LawfulBase (o.line_count object) (o.lawful object) core.base
  pub caller : number < length core.state.locals

-- Of a raise by a code, with a read or none, that a caller makes: none where it is not allowed, and else what it answers, the entry and the read.
abbrev pub TellsRaise : Option Acknowledged → Instance → Scene → ℕ → Option (List ℕ) → Local → Type 0
TellsRaise None instance scene code read l = ¬ CanRaise instance code read l
TellsRaise (Some answers) instance scene code read l =
    let below = answers_below instance scene.history (root_place_of instance.callers code) (unanswered l) in
    CanRaise instance code read l
    × (option_to_list answers.entry ≡ below)
    × (option_to_list answers.read ≡ reads_at instance scene.history (root_place_of instance.callers code) (length l.answered + length below) read)

-- of an offer of the set in a caller's cell, the offer word where it is allowed
abbrev pub TellsOfferWord : Option ℕ → Instance → Scene → ℕ → Local → Type 0
TellsOfferWord None instance scene j l = ¬ CanOffer instance scene.history l j
TellsOfferWord (Some word) instance scene j l = CanOffer instance scene.history l j × (word ≡ offer_of (cell_of l j).ticket (cell_of l j).offer)

-- of a note of a word in a slot of the ring of gaps, whether it is allowed
abbrev pub AllowsGapNote : Bool → Instance → Scene → ℕ → ℕ → ℕ → Type 0
AllowsGapNote gap instance scene s i v = IsTrue gap ↔ CanNoteGap instance scene.history s i v

-- These facts are what a step of a kind has to know of the history: of one that ends an exclusive right, whether the words held are the full image
-- after their place; of a raise `TellsRaise`, of an offer `TellsOfferWord`, of a note of a gap `AllowsGapNote`; of any other nothing.
abbrev pub Tells : HistoryFacts → Instance → Scene → Kind → Local → Type 0
Tells facts instance scene (Downgrade r) l = TellsFull facts.full instance scene (Downgrade r) l
Tells facts instance scene (ReleaseExclusive r) l = TellsFull facts.full instance scene (ReleaseExclusive r) l
Tells facts instance scene (Raise code read) l = TellsRaise facts.answers instance scene code read l
Tells facts instance scene (Offer j) l = TellsOfferWord facts.offer instance scene j l
Tells facts instance scene (NoteGap s i v) l = AllowsGapNote facts.gap instance scene s i v
Tells facts instance scene _ l = Unit {0}
