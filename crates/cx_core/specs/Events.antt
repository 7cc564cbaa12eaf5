-- The kinds of step: when a step is allowed, the word that it is on, what the word becomes, and the caller's local state
-- afterwards.
use Rattle.std.specs.Prelude.{◌≡◌, ◌+◌, ◌-◌, ◌*◌, ◌%◌, ◌^◌, ◌<◌, ◌≤◌, ◌==◌, ◌↔◌, ℕ, max, nat_lt, Bool, IsTrue, true, false, if◌then◌else◌, List, [], ◌∷◌, length, slice_get, slice_index, slice_set, Some, None}
use Rattle.std.specs.Option.{option_map}
use Rattle.cx_core.specs.declared.kinds.Event.{Event}
use Rattle.cx_core.specs.declared.kinds.Kind.{Kind}
use Rattle.cx_core.specs.declared.kinds.Kind.TheVariants.{WriteCell, Link, Look, ReadCell, LoadFree, TryExclusive, TryShared, BackOff, Downgrade, ReleaseExclusive, LoadWord, StoreWord, Persist, LoadCur, Publish, Raise, Retire, Protect, Confirm, Unprotect, CloseLow, Scan, OpenFree, WriteSet, Offer, LoadOffer, ReadSet, NoteGap, LoadGap}
use Rattle.cx_core.specs.declared.local.Local.{Local}
use Rattle.cx_core.specs.declared.local.Protection.TheVariants.{Unprotected}
use Rattle.cx_core.specs.Gaps.{CanNoteGap}
use Rattle.cx_core.specs.History.{IsFull}
use Rattle.cx_base.specs.Codes.{root_replica_of}
use Rattle.cx_core.specs.Layout.{cell_count, cell_at, cur_at, dur_at, free_at, gap_at, gap_slots, link_at, lock_at, low_at, max_word, need_at, offer_at, per_at, set_at, vol_at}
use Rattle.cx_core.specs.LockEvents.{CanBackOff, CanGiveUp, CanTryExclusive, CanTryShared, backed_off, downgraded_to, exclusive_mark, minus, passing, plus, refused_by, shared_by, taken}
use Rattle.cx_core.specs.Merge.{scene_of}
use Rattle.cx_core.specs.QueueEvents.{CanLink, IsIdle, ShowsTicket, cell_of, exchanged, linked, lost, raised_front, seen_word, written}
use Rattle.cx_core.specs.RegionEvents.{CanLoadAs, CanPersist, CanStore, loaded_by, persisted, stored_into}
use Rattle.cx_core.specs.Rights.{held_words}
use Rattle.cx_core.specs.RingEvents.{CanClose, IsNext, IsProtected, IsStated, IsUnprotected, Protects, bound_in, closing, confirmed, opened, scanned, stated}
use Rattle.cx_core.specs.RootEvents.{CanPublish, CanRaise, CanRetire, before_in, code_in, loaded_cur, outrun, published, raised_by}
use Rattle.cx_core.specs.SetEvents.{CanOffer, CanWriteSet, ShowsOffer, offer_of, with_offer, with_set}
use Rattle.cx_core.specs.State.{Instance, Scene, State, one_more}

-- when a step is allowed
abbrev pub Guard : Instance → Scene → Kind → Local → Type 0
Guard instance scene (WriteCell j i v) l = (j < 16) × (i < 145) × IsIdle l j × (v < 2 ^ 64)
Guard instance scene (Link j) l = CanLink instance.callers instance.base l j
Guard instance scene (Look s) l = s < cell_count instance.callers
Guard instance scene (ReadCell t k i) l = (t < l.front) × (i < 145) × ShowsTicket instance.callers l.seen_slot t k × Protects t l.protection
Guard instance scene LoadFree l = Unit {0}
Guard instance scene (TryExclusive r) l = CanTryExclusive instance.callers r l
Guard instance scene (TryShared r) l = CanTryShared instance.callers r l
Guard instance scene (BackOff r) l = CanBackOff instance.callers r l
Guard instance scene (Downgrade r) l = CanGiveUp instance scene r l
Guard instance scene (ReleaseExclusive r) l = CanGiveUp instance scene r l
Guard instance scene (LoadWord r i refused) l = CanLoadAs refused instance.callers (length instance.base.words) scene.words r i l
Guard instance scene (StoreWord r i v) l = CanStore instance.callers (length instance.base.words) r i l
Guard instance scene (Persist r i) l = CanPersist instance.callers (length instance.base.words) r i l
Guard instance scene LoadCur l = Unit {0}
Guard instance scene Publish l = CanPublish instance.callers l
Guard instance scene (Raise code read) l = CanRaise instance code read l
Guard instance scene Retire l = CanRetire l.raised l.won
Guard instance scene (Protect p) l = (p ≤ 2 ^ 40) × IsUnprotected l.protection
Guard instance scene Confirm l = IsStated l.protection
Guard instance scene Unprotect l = IsProtected l.protection
Guard instance scene (CloseLow target) l = CanClose instance.callers target l
Guard instance scene (Scan d) l = (d < instance.callers) × IsNext d l.scan
Guard instance scene OpenFree l = IsNext instance.callers l.scan
Guard instance scene (WriteSet j i v) l = CanWriteSet l j × (i < 513) × (v < 2 ^ 64)
Guard instance scene (Offer j) l = CanOffer instance scene.history l j
Guard instance scene (LoadOffer k t) l = (t < l.front) × ShowsTicket instance.callers l.seen_slot t k × Protects t l.protection
Guard instance scene (ReadSet k t i) l = (t < l.front) × (i < 513) × ShowsTicket instance.callers l.seen_slot t k × Protects t l.protection × ShowsOffer l.seen_offer k t
Guard instance scene (NoteGap s i v) l = CanNoteGap instance scene.history s i v
Guard instance scene (LoadGap s i) l = (s < gap_slots instance.callers) × (i < 16)

-- the word that a step is on
abbrev pub step_word : Instance → Kind → Local → ℕ
step_word instance (WriteCell j i v) l = cell_at instance.callers (16 * l.number + j) i
step_word instance (Link j) l = link_at instance.callers (l.front % cell_count instance.callers)
step_word instance (Look s) l = link_at instance.callers s
step_word instance (ReadCell t k i) l = cell_at instance.callers k i
step_word instance LoadFree l = free_at
step_word instance (TryExclusive r) l = lock_at instance.callers r
step_word instance (TryShared r) l = lock_at instance.callers r
step_word instance (BackOff r) l = lock_at instance.callers r
step_word instance (Downgrade r) l = lock_at instance.callers r
step_word instance (ReleaseExclusive r) l = lock_at instance.callers r
step_word instance (LoadWord r i refused) l = vol_at instance.callers (length instance.base.words) r i
step_word instance (StoreWord r i v) l = vol_at instance.callers (length instance.base.words) r i
step_word instance (Persist r i) l = per_at instance.callers (length instance.base.words) r i
step_word instance LoadCur l = cur_at
step_word instance Publish l = cur_at
step_word instance (Raise code read) l = dur_at
step_word instance Retire l = lock_at instance.callers (root_replica_of instance.callers (before_in l.won))
step_word instance (Protect p) l = need_at l.number
step_word instance Confirm l = low_at
step_word instance Unprotect l = need_at l.number
step_word instance (CloseLow target) l = low_at
step_word instance (Scan d) l = need_at d
step_word instance OpenFree l = free_at
step_word instance (WriteSet j i v) l = set_at instance.callers (16 * l.number + j) i
step_word instance (Offer j) l = offer_at instance.callers (16 * l.number + j)
step_word instance (LoadOffer k t) l = offer_at instance.callers k
step_word instance (ReadSet k t i) l = set_at instance.callers k i
step_word instance (NoteGap s i v) l = gap_at instance.callers s i
step_word instance (LoadGap s i) l = gap_at instance.callers s i

-- what the word becomes, given the word found
abbrev pub new_word : Instance → Kind → Local → ℕ → ℕ
new_word instance (WriteCell j i v) l found = v
new_word instance (Link j) l found = exchanged instance.callers l j found
new_word instance (Look s) l found = found
new_word instance (ReadCell t k i) l found = found
new_word instance LoadFree l found = found
new_word instance (TryExclusive r) l found = if found == 0 then exclusive_mark else found
new_word instance (TryShared r) l found = plus found 1
new_word instance (BackOff r) l found = minus found 1
new_word instance (Downgrade r) l found = minus found (exclusive_mark - 1)
new_word instance (ReleaseExclusive r) l found = minus found exclusive_mark
new_word instance (LoadWord r i refused) l found = found
new_word instance (StoreWord r i v) l found = v
new_word instance (Persist r i) l found = slice_index (held_words l.exclusive) i
new_word instance LoadCur l found = found
new_word instance Publish l found = if found == l.seen_cur then code_in instance.callers l.downgraded else found
new_word instance (Raise code read) l found = max found code
new_word instance Retire l found = minus found 1
new_word instance (Protect p) l found = p
new_word instance Confirm l found = found
new_word instance Unprotect l found = max_word
new_word instance (CloseLow target) l found = max found target
new_word instance (Scan d) l found = found
new_word instance OpenFree l found = max found (bound_in l.scan)
new_word instance (WriteSet j i v) l found = v
new_word instance (Offer j) l found = offer_of (cell_of l j).ticket (cell_of l j).offer
new_word instance (LoadOffer k t) l found = found
new_word instance (ReadSet k t i) l found = found
new_word instance (NoteGap s i v) l found = v
new_word instance (LoadGap s i) l found = found

-- the caller's local state afterwards, given the word found
abbrev pub next : Instance → Scene → Kind → Local → ℕ → Local
next instance scene (WriteCell j i v) l found = record l { cells = written l j i v; fresh = false; steps = one_more l.steps }
next instance scene (Link j) l found = if found == seen_word l.seen_slot then linked l j else lost instance.callers l found
next instance scene (Look s) l found = record l {
  seen_slot = Some (record { slot = s; word = found });
  front = raised_front instance.callers l.front found;
  steps = one_more l.steps;
}
next instance scene (ReadCell t k i) l found = record l { steps = one_more l.steps }
next instance scene LoadFree l found = record l { seen_free = max l.seen_free found; steps = one_more l.steps }
next instance scene (TryExclusive r) l found = if found == 0 then taken instance scene r l else refused_by instance.callers r l found
next instance scene (TryShared r) l found = if nat_lt found exclusive_mark then shared_by r l found else passing instance.callers r l found
next instance scene (BackOff r) l found = backed_off r l
next instance scene (Downgrade r) l found = downgraded_to r l
next instance scene (ReleaseExclusive r) l found = record l { exclusive = None; steps = one_more l.steps }
next instance scene (LoadWord r i refused) l found = loaded_by r i refused l found
next instance scene (StoreWord r i v) l found = record l { exclusive = option_map (stored_into i v) l.exclusive; steps = one_more l.steps }
next instance scene (Persist r i) l found = record l { exclusive = option_map (persisted i) l.exclusive; steps = one_more l.steps }
next instance scene LoadCur l found = loaded_cur instance.callers l found
next instance scene Publish l found = if found == l.seen_cur then published instance.callers l else outrun instance.callers l found
next instance scene (Raise code read) l found = raised_by instance scene code read l
next instance scene Retire l found = record l { won = None; steps = one_more l.steps }
next instance scene (Protect p) l found = stated p l
next instance scene Confirm l found = confirmed instance.callers l found
next instance scene Unprotect l found = record l { protection = Unprotected; steps = one_more l.steps }
next instance scene (CloseLow target) l found = closing target l
next instance scene (Scan d) l found = scanned d l found
next instance scene OpenFree l found = opened l found
next instance scene (WriteSet j i v) l found = record l { cells = with_set l j i v; steps = one_more l.steps }
next instance scene (Offer j) l found = record l { cells = with_offer l j; steps = one_more l.steps }
next instance scene (LoadOffer k t) l found = record l { seen_offer = Some (record { cell = k; ticket = t; word = found }); steps = one_more l.steps }
next instance scene (ReadSet k t i) l found = record l { steps = one_more l.steps }
next instance scene (NoteGap s i v) l found = record l { steps = one_more l.steps }
next instance scene (LoadGap s i) l found = record l { steps = one_more l.steps }

-- the word that a step of a caller with this local state finds
abbrev pub found_by : Instance → Kind → Local → List ℕ → ℕ
found_by instance kind l words = slice_index words (step_word instance kind l)

-- the words after a step of a caller with this local state
abbrev pub words_after : Instance → Kind → Local → List ℕ → List ℕ
words_after instance kind l words = slice_set words (step_word instance kind l) (new_word instance kind l (found_by instance kind l words))

-- the caller's local state after its step, made in a scene
abbrev pub local_after : Instance → Scene → Kind → Local → Local
local_after instance scene kind l = next instance scene kind l (found_by instance kind l scene.words)

-- whether a caller's step was allowed and made, or not allowed and nothing changed
abbrev pub Did : Bool → Instance → Scene → Kind → Local → Local → List ℕ → Type 0
Did true instance scene kind l l' words' =
    Guard instance scene kind l × (l' ≡ local_after instance scene kind l) × (words' ≡ words_after instance kind l scene.words)
Did false instance scene kind l l' words' = (¬ Guard instance scene kind l) × (l' ≡ l) × (words' ≡ scene.words)

-- an event is allowed in a state where its caller is one and its guard holds
pub record Allowed (instance : Instance) (event : Event) (s : State) : Type 0 where
  pub local : Local
  pub of_caller : slice_get s.locals event.caller ≡ Some local
  pub guard : Guard instance (scene_of instance s) event.kind local

-- an allowed event makes one step on one word, and changes the local state of its caller alone
pub record Makes (instance : Instance) (event : Event) (before after : State) : Type 0 where
  pub local : Local
  pub of_caller : slice_get before.locals event.caller ≡ Some local
  pub guard : Guard instance (scene_of instance before) event.kind local
  pub words : after.words ≡ words_after instance event.kind local before.words
  pub locals : after.locals ≡ slice_set before.locals event.caller (local_after instance (scene_of instance before) event.kind local)

-- whether an event was allowed and made, or not allowed and nothing changed
abbrev pub IsMadeOrRefused : Bool → Instance → Event → State → State → Type 0
IsMadeOrRefused true instance event before after = Makes instance event before after
IsMadeOrRefused false instance event before after = (¬ Allowed instance event before) × (after ≡ before)

-- a run: a list of allowed events, one after another
abbrev pub Run : Instance → State → List Event → State → Type 0
Run instance from [] to = to ≡ from
Run instance from (event ∷ events) to = (then_ : State) × Makes instance event from then_ × Run instance then_ events to

-- for a kind that ends an exclusive right, whether the words held are the full image after their place
abbrev pub TellsFull : Bool → Instance → Scene → Kind → Local → Type 0
TellsFull full instance scene (Downgrade r) l = IsTrue full ↔ IsFull instance scene.history (held_words l.exclusive)
TellsFull full instance scene (ReleaseExclusive r) l = IsTrue full ↔ IsFull instance scene.history (held_words l.exclusive)
TellsFull full instance scene _ l = Unit {0}
