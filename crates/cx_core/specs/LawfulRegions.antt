-- The lawful state's part on regions: a replica that nobody holds exclusively is the full image after its place, and one
-- that is held has its holder's words.
use Rattle.std.specs.Prelude.{◌≡◌, ◌≢◌, ◌+◌, ◌*◌, ◌<◌, ◌≤◌, ℕ, All, List, Some, length, slice_index}
use Rattle.std.specs.List.{Contains}
use Rattle.cx_core.specs.declared.entry.Entry.{Entry}
use Rattle.cx_core.specs.declared.local.HeldExclusive.{HeldExclusive}
use Rattle.cx_core.specs.declared.local.HeldShared.{HeldShared}
use Rattle.cx_core.specs.declared.local.Local.{Local}
use Rattle.cx_core.specs.History.{full_image}
use Rattle.cx_core.specs.Layout.{per_at, vol_at}
use Rattle.cx_core.specs.Rights.{exclusive_on}
use Rattle.cx_core.specs.State.{Instance, EachLocal}

-- word i of a replica as loads give it
abbrev pub vol_word : Instance → List ℕ → ℕ → ℕ → ℕ
vol_word instance words r i = slice_index words (vol_at instance.callers (length instance.base.words) r i)

-- word i of a replica as the medium holds it, which a crash leaves where the word is not dirty
abbrev pub per_word : Instance → List ℕ → ℕ → ℕ → ℕ
per_word instance words r i = slice_index words (per_at instance.callers (length instance.base.words) r i)

-- nobody holds a replica exclusively
abbrev pub IsUnheld : List Local → ℕ → Type 0
IsUnheld locals r = EachLocal locals (λ _ l. exclusive_on l ≢ Some r)

-- a replica is in both memories the full image after its place, which is between the base's and the end of the history
pub record IsReplicaImage (instance : Instance) (history : List Entry) (words : List ℕ) (r : ℕ) : Type 0 where
  pub from : instance.base.place ≤ vol_word instance words r 0
  pub to : vol_word instance words r 0 ≤ instance.base.place + length history
  pub vol : (i : ℕ) → i < length instance.base.words →
      vol_word instance words r i ≡ slice_index (full_image instance.step instance.base history (vol_word instance words r 0)) i
  pub per : (i : ℕ) → i < length instance.base.words →
      per_word instance words r i ≡ slice_index (full_image instance.step instance.base history (vol_word instance words r 0)) i

-- the replica has the words of its exclusive holder, and so has the medium but for the dirty ones
pub record HasWords (instance : Instance) (words : List ℕ) (h : HeldExclusive) : Type 0 where
  pub long : length h.words ≡ length instance.base.words
  pub vol : (i : ℕ) → i < length instance.base.words → vol_word instance words h.replica i ≡ slice_index h.words i
  pub per : (i : ℕ) → i < length instance.base.words → (Contains h.dirty i → ⊥) → per_word instance words h.replica i ≡ slice_index h.words i
  pub dirty : All (λ i. i < length instance.base.words) h.dirty

-- what was loaded of a replica held shared is there
abbrev pub HasLoaded : Instance → List ℕ → HeldShared → Type 0
HasLoaded instance words h = All (λ (x : ℕ × ℕ). (x.0 < length instance.base.words) × (vol_word instance words h.replica x.0 ≡ x.1)) h.loaded

-- Regions: each replica that nobody holds exclusively is the full image after its place, one held exclusively has its holder's words, and what was loaded
-- of one held shared is there
pub record Regions (instance : Instance) (history : List Entry) (words : List ℕ) (locals : List Local) : Type 0 where
  pub unheld : (r : ℕ) → r < 2 * instance.callers → IsUnheld locals r → IsReplicaImage instance history words r
  pub held : EachLocal locals (λ _ l. (h : HeldExclusive) → l.exclusive ≡ Some h → HasWords instance words h)
  pub loaded : EachLocal locals (λ _ l. (h : HeldShared) → l.shared ≡ Some h → HasLoaded instance words h)
