-- The lawful state, by its parts. Between any two steps of any callers the state of a service is lawful.
use Rattle.std.specs.Prelude.{◌≡◌, ◌≢◌, ◌+◌, ◌*◌, ◌%◌, ◌^◌, ◌<◌, ◌≤◌, ◌⊎◌, ℕ, All, List, ◌∷◌, length, map, take, slice_get, slice_index, Some}
use Rattle.cx_base.specs.Codes.{link_code_of, link_ticket_of, root_place_of}
use Rattle.cx_base.specs.Memory.{Words}
use Rattle.cx_core.specs.declared.entry.Entry.{Entry}
use Rattle.cx_core.specs.declared.local.Answer.{Answer}
use Rattle.cx_core.specs.declared.local.Cell.{Cell}
use Rattle.cx_core.specs.declared.local.Linked.{Linked}
use Rattle.cx_core.specs.declared.local.Local.{Local}
use Rattle.cx_core.specs.declared.local.SeenOffer.{SeenOffer}
use Rattle.cx_core.specs.declared.local.SeenSlot.{SeenSlot}
use Rattle.cx_core.specs.declared.local.WonCode.{WonCode}
use Rattle.cx_core.specs.Gaps.{Gaps}
use Rattle.cx_core.specs.LawfulAnswers.{Answers}
use Rattle.cx_core.specs.LawfulLocks.{Locks}
use Rattle.cx_core.specs.LawfulRegions.{Regions}
use Rattle.cx_core.specs.LawfulRing.{Ring}
use Rattle.cx_core.specs.LawfulRoot.{Root}
use Rattle.cx_core.specs.Merge.{IsHistory, IsLinked}
use Rattle.cx_core.specs.WriteSet.{IsWriteSetOf}
use Rattle.cx_core.specs.Layout.{cell_count, dur_at, low_at, free_at, link_at, cell_at, offer_at, set_at, word_count}
use Rattle.cx_core.specs.Region.{slot_number}
use Rattle.cx_core.specs.State.{Instance, State, EachLocal}

-- a cell has 145 words of 64 bits, and its write set 513
pub record CellShape (cell : Cell) : Type 0 where
  pub words : length cell.words ≡ 145
  pub fit : All (λ w. w < 2 ^ 64) cell.words
  pub set : length cell.set ≡ 513

-- a caller's local state has the caller's number and 16 cells
pub record LocalShape (caller : ℕ) (l : Local) : Type 0 where
  pub number : l.number ≡ caller
  pub cells : length l.cells ≡ 16
  pub each : (j : ℕ) (cell : Cell) → slice_get l.cells j ≡ Some cell → CellShape cell

-- Shape: there are 1 to 8 callers, a local state for each, and as many words as the table has
pub record Shape (instance : Instance) (words : List ℕ) (locals : List Local) : Type 0 where
  pub some : 1 ≤ instance.callers
  pub few : instance.callers ≤ 8
  pub long : length words ≡ word_count instance.callers (length instance.base.words)
  pub count : length locals ≡ instance.callers
  pub each : EachLocal locals LocalShape

-- the tickets and numbers of a caller: its numbers go up by 1 from its number in the base, its operations are words, and its
-- entries are answered in order, at most the last one not yet
pub record OwnTickets (instance : Instance) (caller : ℕ) (l : Local) : Type 0 where
  pub numbers : (i : ℕ) (x : Linked) → slice_get l.own i ≡ Some x → x.entry.number ≡ slot_number caller instance.base.words + i + 1
  pub ops : (i : ℕ) (x : Linked) → slice_get l.own i ≡ Some x → Words 144 x.entry.op
  pub answered : map (λ (x : Answer). x.ticket) l.answered ≡ take (length l.answered) (map (λ (x : Linked). x.ticket) l.own)
  pub one : length l.own ≤ length l.answered + 1

-- Tickets: the own lists have the tickets from the base's place on, each once and below 2^40
pub record Tickets (instance : Instance) (history : List Entry) (locals : List Local) : Type 0 where
  pub merged : IsHistory instance.base.place history locals
  pub below : instance.base.place + length history ≤ 2 ^ 40
  pub each : EachLocal locals (OwnTickets instance)

-- a ticket is linked, has this link slot, and is the greatest such
pub record IsGreatest (instance : Instance) (history : List Entry) (slot ticket : ℕ) (entry : Entry) : Type 0 where
  pub linked : IsLinked instance.base.place history ticket entry
  pub at : ticket % cell_count instance.callers ≡ slot
  pub greatest : (other : ℕ) (e : Entry) → IsLinked instance.base.place history other e → other % cell_count instance.callers ≡ slot → other ≤ ticket

-- a link word is 0 where no linked ticket has its slot. Else it is the link code of the greatest one, with some cell of
-- that ticket's caller.
pub data LinkWord (instance : Instance) (history : List Entry) (slot word : ℕ) : Type 0 where
  Never : ((other : ℕ) (e : Entry) → IsLinked instance.base.place history other e → other % cell_count instance.callers ≢ slot) → word ≡ 0 → LinkWord instance history slot word
  Names : (ticket : ℕ) (entry : Entry) (j : ℕ) → IsGreatest instance history slot ticket entry → j < 16 → word ≡ link_code_of instance.callers ticket (16 * entry.caller + j) → LinkWord instance history slot word

-- Links: each link word is 0, or the link code of the greatest linked ticket that has its slot
pub record Links (instance : Instance) (history : List Entry) (words : List ℕ) : Type 0 where
  pub each : (slot : ℕ) → slot < cell_count instance.callers → LinkWord instance history slot (slice_index words (link_at instance.callers slot))

-- a caller's local state names this ticket for its cell j
pub record NamesCell (locals : List Local) (caller j ticket : ℕ) (cell : Cell) : Type 0 where
  pub local : Local
  pub of_caller : slice_get locals caller ≡ Some local
  pub at : slice_get local.cells j ≡ Some cell
  pub named : cell.ticket ≡ Some ticket

-- a live ticket still stands in its link slot, with a cell that holds its entry, and its caller names it for that cell.
-- So no two live tickets share a cell. Where the cell is offered with it, the cell's set is a write set of it.
pub record IsLive (instance : Instance) (history : List Entry) (words : List ℕ) (locals : List Local) (ticket : ℕ) (entry : Entry) : Type 0 where
  pub j : ℕ
  pub cell : Cell
  pub names : NamesCell locals entry.caller j ticket cell
  pub link : slice_index words (link_at instance.callers (ticket % cell_count instance.callers)) ≡ link_code_of instance.callers ticket (16 * entry.caller + j)
  pub holds : cell.words ≡ entry.number ∷ entry.op
  pub offered : cell.offer ≡ ticket + 1 → IsWriteSetOf instance history ticket cell.set

-- the words of a cell, of its set and its offer word are as its caller's local state says
pub record IsShown (callers : ℕ) (words : List ℕ) (k : ℕ) (cell : Cell) : Type 0 where
  pub entry : (i : ℕ) → i < 145 → slice_index words (cell_at callers k i) ≡ slice_index cell.words i
  pub pairs : (i : ℕ) → i < 513 → slice_index words (set_at callers k i) ≡ slice_index cell.set i
  pub offer : slice_index words (offer_at callers k) ≡ cell.offer

-- what a caller has seen of an offer with a ticket: the cell named is offered with it
pub record IsOffered (locals : List Local) (k ticket : ℕ) : Type 0 where
  pub caller : ℕ
  pub j : ℕ
  pub cell : Cell
  pub is : k ≡ 16 * caller + j
  pub names : NamesCell locals caller j ticket cell
  pub offer : cell.offer ≡ ticket + 1

-- each cell of a caller is shown
abbrev pub ShowsCells : Instance → List ℕ → ℕ → Local → Type 0
ShowsCells instance words caller l = (j : ℕ) (cell : Cell) → slice_get l.cells j ≡ Some cell → IsShown instance.callers words (16 * caller + j) cell

-- where the word in a link slot that was seen has a ticket at or above FREE, the slot still has that word; and any word that was
-- seen there stands until a later ticket is linked in its place
pub record SeenStands (instance : Instance) (words : List ℕ) (seen : SeenSlot) : Type 0 where
  pub slot : seen.slot < cell_count instance.callers
  pub later : 0 < seen.word →
      (slice_index words (link_at instance.callers seen.slot) ≡ seen.word)
      ⊎ ((0 < slice_index words (link_at instance.callers seen.slot)) × (link_ticket_of instance.callers seen.word < link_ticket_of instance.callers (slice_index words (link_at instance.callers seen.slot))))
  pub stands : 0 < seen.word → slice_index words free_at ≤ link_ticket_of instance.callers seen.word → slice_index words (link_at instance.callers seen.slot) ≡ seen.word

-- the slot that a caller last looked at, if any, is still as it was seen, up to a later link
abbrev pub SlotStands : Instance → List ℕ → Local → Type 0
SlotStands instance words l = (seen : SeenSlot) → l.seen_slot ≡ Some seen → SeenStands instance words seen

-- where the offer word that was seen is an offer of a ticket at or above FREE, the cell is offered with it
abbrev pub OfferStands : List ℕ → List Local → Local → Type 0
OfferStands words locals l = (seen : SeenOffer) → l.seen_offer ≡ Some seen → slice_index words free_at ≤ seen.ticket → seen.word ≡ seen.ticket + 1 → IsOffered locals seen.cell seen.ticket

-- each offer word of a caller's cells that is not 0 is a linked ticket plus 1
abbrev pub OffersLinked : Instance → List Entry → Local → Type 0
OffersLinked instance history l =
    (j : ℕ) (cell : Cell) → slice_get l.cells j ≡ Some cell → 0 < cell.offer →
    (ticket : ℕ) × (entry : Entry) × IsLinked instance.base.place history ticket entry × (cell.offer ≡ ticket + 1)

-- Cells: each live ticket is held, which is a linked ticket at or above FREE, and what is shown, seen and offered is so
pub record Cells (instance : Instance) (history : List Entry) (words : List ℕ) (locals : List Local) : Type 0 where
  pub live : (ticket : ℕ) (entry : Entry) → IsLinked instance.base.place history ticket entry → slice_index words free_at ≤ ticket → IsLive instance history words locals ticket entry
  pub shown : EachLocal locals (ShowsCells instance words)
  pub seen : EachLocal locals (λ _ l. SlotStands instance words l)
  pub seen_offers : EachLocal locals (λ _ l. OfferStands words locals l)
  pub offers : EachLocal locals (λ _ l. OffersLinked instance history l)

-- what a caller has seen is not ahead of what is there
pub record IsBehind (instance : Instance) (history : List Entry) (words : List ℕ) (l : Local) : Type 0 where
  -- each ticket from the base's place to below the front is linked
  pub from : instance.base.place ≤ l.front
  pub to : l.front ≤ instance.base.place + length history
  pub floor : l.floor ≤ l.front
  pub cur : root_place_of instance.callers l.seen_cur ≤ l.front
  pub free : l.seen_free ≤ slice_index words free_at
  pub low : l.seen_low ≤ slice_index words low_at
  pub raised : l.raised ≤ slice_index words dur_at
  pub floor_dur : l.floor ≤ root_place_of instance.callers (slice_index words dur_at)
  pub floor_cur : l.floor ≤ root_place_of instance.callers l.seen_cur
  pub won : (won : WonCode) → l.won ≡ Some won → won.code ≤ l.seen_cur

-- Fronts: what each caller has seen is not ahead of what is there
pub record Fronts (instance : Instance) (history : List Entry) (words : List ℕ) (locals : List Local) : Type 0 where
  pub each : EachLocal locals (λ _ l. IsBehind instance history words l)

-- the lawful state
pub record Lawful (instance : Instance) (s : State) : Type 0 where
  pub history : List Entry
  pub shape : Shape instance s.words s.locals
  pub tickets : Tickets instance history s.locals
  pub links : Links instance history s.words
  pub cells : Cells instance history s.words s.locals
  pub fronts : Fronts instance history s.words s.locals
  pub locks : Locks instance.callers s.words s.locals
  pub regions : Regions instance history s.words s.locals
  pub root : Root instance s.words s.locals
  pub ring : Ring instance s.words s.locals
  pub answers : Answers instance history s.words s.locals
  pub gaps : Gaps instance history s.words
