-- The kinds of step on lock words: when a replica may be tried, released or backed off from, what the word becomes, and
-- what the caller learns.
use Rattle.std.specs.Prelude.{◌≡◌, ◌+◌, ◌-◌, ◌*◌, ◌%◌, ◌^◌, ◌<◌, ◌≤◌, ◌⊎◌, ◌==◌, ◌&&◌, ℕ, Bool, false, if◌then◌else◌, List, [], ◌∷◌, ◌++◌, length, IsNone, Some, None}
use Rattle.std.specs.List.{list_all, list_any, range_with_len}
use Rattle.cx_base.specs.Codes.{root_replica_of}
use Rattle.cx_core.specs.declared.local.Local.{Local}
use Rattle.cx_core.specs.History.{IsFull}
use Rattle.cx_core.specs.Layout.{replica_words}
use Rattle.cx_core.specs.Region.{place_of}
use Rattle.cx_core.specs.Rights.{downgraded_on, exclusive_on, held_dirty, held_words, is_at, rights, rights_on, shared_on}
use Rattle.cx_core.specs.State.{Instance, Scene, one_more}

-- what an exclusive right adds to a lock word; each other right, and each pin, adds 1
abbrev pub exclusive_mark : ℕ
exclusive_mark = 2 ^ 32

-- a word after so much was added, as the atomic instruction does it: the sum wraps at 2^64
abbrev pub plus : ℕ → ℕ → ℕ
plus n k = (n + k) % 2 ^ 64

-- a word after so much was taken away, as the atomic instruction does it: the difference wraps at 2^64
abbrev pub minus : ℕ → ℕ → ℕ
minus n k = (n + (2 ^ 64 - k)) % 2 ^ 64

-- whether a number is in a list
abbrev pub is_in : List ℕ → ℕ → Bool
is_in xs x = list_any (λ y. y == x) xs

-- a list with a number, which is in it once
abbrev pub with_number : List ℕ → ℕ → List ℕ
with_number xs x = if is_in xs x then xs else xs ++ x ∷ []

-- whether all replicas are in a list
abbrev pub has_all : ℕ → List ℕ → Bool
has_all callers xs = list_all (is_in xs) (range_with_len 0 (2 * callers))

-- a caller may try to hold a replica exclusively: it has no right on it, no exclusive right, and at most one right at all
abbrev pub CanTryExclusive : ℕ → ℕ → Local → Type 0
CanTryExclusive callers r l = (r < 2 * callers) × IsNone l.exclusive × (rights callers l ≤ 1) × (rights_on callers r l ≡ 0)

-- a caller may try to hold a replica shared: it has no right on it, no shared right, no passer's mark, and at most one right at all
abbrev pub CanTryShared : ℕ → ℕ → Local → Type 0
CanTryShared callers r l = (r < 2 * callers) × IsNone l.shared × IsNone l.passer × (rights callers l ≤ 1) × (rights_on callers r l ≡ 0)

-- a caller may back off from a replica that it holds shared, passes or has downgraded
abbrev pub CanBackOff : ℕ → ℕ → Local → Type 0
CanBackOff callers r l = (r < 2 * callers) × ((shared_on l ≡ Some r) ⊎ ((l.passer ≡ Some r) ⊎ (downgraded_on l ≡ Some r)))

-- a caller holds a replica exclusively, with no word dirty, and has nothing downgraded
abbrev pub IsClean : ℕ → ℕ → Local → Type 0
IsClean callers r l = (r < 2 * callers) × (exclusive_on l ≡ Some r) × IsNone l.downgraded × (held_dirty l.exclusive ≡ [])

-- a caller may end its exclusive right on a replica where no word is dirty, nothing is downgraded, and the words are the full image after their place
abbrev pub CanGiveUp : Instance → Scene → ℕ → Local → Type 0
CanGiveUp instance scene r l = IsClean instance.callers r l × IsFull instance scene.history (held_words l.exclusive)

-- the local state after an exclusive try that found 0: the replica is held with its words
abbrev pub taken : Instance → Scene → ℕ → Local → Local
taken instance scene r l = record l {
  seen_lock = Some (record { replica = r; word = 0 });
  exclusive = Some (record { replica = r; words = replica_words instance.callers (length instance.base.words) scene.words r; dirty = [] });
  refused = [];
  steps = one_more l.steps;
}

-- the local state after an exclusive try that was refused: once all replicas were, a refusal is met
abbrev pub refused_by : ℕ → ℕ → Local → ℕ → Local
refused_by callers r l found =
    let refused = with_number l.refused r in
    record l {
      seen_lock = Some (record { replica = r; word = found });
      refused = if has_all callers refused then [] else refused;
      met = if has_all callers refused then one_more l.met else l.met;
      steps = one_more l.steps;
    }

-- the local state after a shared try that found no exclusive mark
abbrev pub shared_by : ℕ → Local → ℕ → Local
shared_by r l found = record l {
  seen_lock = Some (record { replica = r; word = found });
  shared = Some (record { replica = r; loaded = [] });
  steps = one_more l.steps;
}

-- whether the code last loaded from CUR names this replica, and nothing ended its use
abbrev pub is_fresh_on : ℕ → ℕ → Local → Bool
is_fresh_on callers r l = (root_replica_of callers l.seen_cur == r) && l.fresh

-- the local state after a shared try that found an exclusive mark: a passer's mark is left, and where the code last
-- loaded from CUR names the replica, a refusal is met
abbrev pub passing : ℕ → ℕ → Local → ℕ → Local
passing callers r l found = record l {
  seen_lock = Some (record { replica = r; word = found });
  passer = Some r;
  met = if is_fresh_on callers r l then one_more l.met else l.met;
  fresh = if is_fresh_on callers r l then false else l.fresh;
  steps = one_more l.steps;
}

-- the local state after backing off: the right on the replica ends
abbrev pub backed_off : ℕ → Local → Local
backed_off r l =
    if is_at r (shared_on l) then record l { shared = None; steps = one_more l.steps }
    else if is_at r l.passer then record l { passer = None; steps = one_more l.steps }
    else record l { downgraded = None; steps = one_more l.steps }

-- the local state after a downgrade
abbrev pub downgraded_to : ℕ → Local → Local
downgraded_to r l = record l {
  exclusive = None;
  downgraded = Some (record { replica = r; place = place_of (held_words l.exclusive) });
  steps = one_more l.steps;
}
