-- What a seat keeps in plain memory follows a step by the step's kind.
use Rattle.std.specs.Prelude.{◌≡◌, ◌+◌, ◌*◌, ◌^◌, ◌<◌, ◌≤◌, ℕ, length, slice_index_or, None, Some}
use Rattle.cx_core.specs.declared.kinds.Kind.{Kind}
use Rattle.cx_core.specs.declared.kinds.Kind.TheVariants.{WriteCell, Link, TryExclusive, StoreWord, Persist, Publish, Raise, Scan, WriteSet, Offer}
use Rattle.cx_core.specs.declared.local.HeldDowngraded.{HeldDowngraded}
use Rattle.cx_core.specs.declared.local.Local.{Local}
use Rattle.cx_core.specs.Rights.{downgraded_on}
use Rattle.cx_core.specs.State.{Instance}
use Rattle.table_invariant.specs.declared.rule.Known.{Known}
use Rattle.table_invariant.specs.Seats.{SeenGuard, kind_found, known_local, place_noted}
use Rattle.caller_cache.specs.declared.summary.CachedLocal.{CachedLocal}
use Rattle.caller_cache.specs.Copies.{Copied, copied_after}
use Rattle.caller_cache.specs.Summaries.{summary_of}

-- what the numbers and the words have to be for a step of this kind: where it counts or stores is within them. A raise of DUR is followed by
-- what it answers, and not here.
abbrev pub CanFollow : ℕ → Kind → CachedLocal → Copied → Type 0
CanFollow callers (WriteCell j i v) m c = (j < 16) × (145 * j + i < length c.cells)
CanFollow callers (Link j) m c = (j < 16) × (m.front < 2 ^ 40) × (m.linked ≤ m.front)
CanFollow callers (TryExclusive r) m c = r < 2 * callers
CanFollow callers (StoreWord r i v) m c = (i < length c.words) × (i < length c.dirty)
CanFollow callers (Persist r i) m c = i < length c.dirty
CanFollow callers Publish m c = (h : HeldDowngraded) → m.downgraded ≡ Some h → (h.replica < 2 * callers) × (h.place ≤ 2 ^ 40)
CanFollow callers (Raise code read) m c = ⊥
CanFollow callers (Scan d) m c = d < 8
CanFollow callers (WriteSet j i v) m c = 513 * j + i < length c.sets
CanFollow callers (Offer j) m c = (j < 16) × ((t : ℕ) → slice_index_or m.tickets j None ≡ Some t → t < 2 ^ 40)
CanFollow callers _ m c = Unit {0}

-- beside a step's guard: a replica that is published is one of the table, and a raise of DUR is none of these steps
abbrev pub IsFollowed : ℕ → Kind → Local → Type 0
IsFollowed callers Publish l = (r : ℕ) → downgraded_on l ≡ Some r → r < 2 * callers
IsFollowed callers (Raise code read) l = ⊥
IsFollowed callers _ l = Unit {0}

-- the numbers follow as `Follows` says, where this place is the one noted
abbrev pub FollowsAt : ℕ → ℕ → Kind → ℕ → CachedLocal → CachedLocal → Type 0
FollowsAt place callers kind found before after =
    (instance : Instance) (k : Known) → instance.callers ≡ callers → place ≡ place_noted 0 k.accesses → SeenGuard instance kind k.local → before ≡ summary_of k.local → after ≡ summary_of (known_local instance (kind_found instance kind k.local found) k found)

-- the words copied follow as `copied_after` says, of whatever a seat knows whose numbers these are
abbrev pub CopiesFollow : Kind → ℕ → CachedLocal → Copied → Copied → Type 0
CopiesFollow kind found numbers before after = (k : Known) → numbers ≡ summary_of k.local → after ≡ copied_after kind k found before
