-- What a step finds: a table of words, and a caller of it.
use Rattle.std.specs.Prelude.{◌≡◌, ◌<◌, ◌≤◌, ℕ, List, length}
use Rattle.cx_core.specs.declared.entry.Base.{Base}
use Rattle.cx_core.specs.declared.local.Local.{Local}
use Rattle.cx_core.specs.Layout.{replicas_at, word_count}

-- these are the words of a table of this number of callers, up to the replicas at least
pub record HasTableWords (callers : ℕ) (words : List ℕ) : Type 0 where
  pub long : replicas_at callers ≤ length words

-- these are the words of a table of this number of callers, up to the replicas at least, and this is the local state of one of the callers
pub record HasCaller (callers : ℕ) (words : List ℕ) (l : Local) : Type 0 where
  pub table : HasTableWords callers words
  pub caller : l.number < callers

-- these are all words of a table, whose replicas are as long as the base
pub record HasRegions (callers : ℕ) (base : Base) (words : List ℕ) : Type 0 where
  pub slots : 1168 ≤ length base.words
  pub long : length words ≡ word_count callers (length base.words)
