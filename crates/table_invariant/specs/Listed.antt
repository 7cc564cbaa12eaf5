-- A replica held shared of which only the listed lines were copied over one held exclusively, and what its release then teaches.
use Rattle.std.specs.Prelude.{◌≡◌, ◌+◌, ◌*◌, ◌<◌, ◌≤◌, ◌⊎◌, ℕ, List, slice_get, slice_index, Some, None}
use Rattle.cx_base.specs.Noted.{NotesLead}
use Rattle.cx_core.specs.declared.entry.Base.{Base}
use Rattle.cx_core.specs.Gaps.{AreWalked, Gap, IsUnlisted, gap_of}
use Rattle.cx_core.specs.State.{Instance}
use Rattle.table_invariant.specs.declared.rule.Known.{Known}
use Rattle.table_invariant.specs.declared.rule.Noted.{Noted}
use Rattle.table_invariant.specs.Fitting.{loaded_of, loads_of, word_noted}
use Rattle.table_invariant.specs.Offers.{TellsSet}

-- a gap was loaded from the ring
pub record HasGap (instance : Instance) (known : Known) (g : Gap) : Type 0 where
  pub n : ℕ
  pub note : Noted
  pub at : slice_get known.noted n ≡ Some note
  pub loaded : 145 ≤ note.index
  pub is : gap_of instance.callers note.ticket note.word ≡ g

-- a line was copied: each word was loaded of the replica held shared, and is the one noted last of the other
abbrev pub IsCopiedLine : Known → ℕ → Type 0
IsCopiedLine known n = (k : ℕ) → k < 8 → (word : ℕ) × (word_noted None (8 * n + k) known.accesses ≡ Some word) × (word_noted None (8 * n + k) (loads_of (loaded_of known.local.shared)) ≡ Some word)

-- whatever words the accesses lead to, those of a line are the first ones
abbrev pub IsUntouchedLine : Known → ℕ → Type 0
IsUntouchedLine known n = (first now : List ℕ) → NotesLead known.accesses first now → (k : ℕ) → k < 8 → slice_index now (8 * n + k) ≡ slice_index first (8 * n + k)

-- The replica held exclusively was at one place, and the one held shared is at another, not before it. Noted gaps of all tickets between lead over
-- all lines but listed ones; and each line was copied, or is unlisted and untouched.
pub record AgreeListed (instance : Instance) (known : Known) (lines from to : ℕ) (lists : ℕ → List ℕ) : Type 0 where
  pub order : from ≤ to
  pub walked : AreWalked (HasGap instance known) lines from to lists
  pub begins : (first now : List ℕ) → NotesLead known.accesses first now → slice_index first 0 ≡ from
  pub ends : word_noted None 0 (loads_of (loaded_of known.local.shared)) ≡ Some to
  pub each : (n : ℕ) → n < lines → IsCopiedLine known n ⊎ (IsUnlisted from to lists n × IsUntouchedLine known n)

-- Whatever fits tells this gap of a ticket: it tells that a set is a write set of the ticket, and no address of the set is in the lines between.
pub record TellsGap (lines : ℕ) (lawful : List ℕ → Type 0) (base : Base) (step : List ℕ → List ℕ → List ℕ × List ℕ) (known : Known) (g : Gap) (set : List ℕ) : Type 0 where
  pub tells : TellsSet lines lawful base step known g.ticket set
  pub off : (m : ℕ) → m < slice_index set 0 → (slice_index set (2 * m + 1) < 8 * (g.from + 1)) ⊎ (8 * g.to ≤ slice_index set (2 * m + 1))
