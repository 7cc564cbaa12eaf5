-- The ring of gaps: the loads of a slot's words by one call, and what a copy of listed lines alone has to show of its seat.
use Rattle.std.specs.Prelude.{◌≡◌, ◌+◌, ◌*◌, ◌<◌, ℕ, List, length}
use Rattle.std.specs.List.{Contains}
use Rattle.cx_core.specs.declared.kinds.Kind.{Kind}
use Rattle.cx_core.specs.declared.kinds.Kind.TheVariants.{LoadGap}
use Rattle.cx_core.specs.Rights.{held_dirty}
use Rattle.cx_core.specs.State.{Instance}
use Rattle.table_invariant.specs.Listed.{AgreeListed}
use Rattle.table_invariant.specs.Seats.{Seated}
use Rattle.caller_cache.specs.Copies.{IsCopiedWord}
use Rattle.cx_table.specs.Right.{Right}
use Rattle.cx_table.specs.Tokens.{IsExclusiveOf, IsSharedOf}

-- the kinds of the loads of a slot's words
abbrev pub gaps_from : ℕ → ℕ → ℕ → Kind
gaps_from s from i = LoadGap s (from + i)

-- Of the replica held shared the lines alone were copied that may differ, over the one held exclusively: gaps that were loaded lead over the others,
-- which are as they were first. Each word that is dirty was copied.
pub record IsListedFrom (instance : Instance) (seat : Seated) (mine other : Right) : Type 0 where
  pub held : IsExclusiveOf instance.callers seat mine
  pub source : IsSharedOf instance.callers seat other
  pub lines : ℕ
  pub from : ℕ
  pub to : ℕ
  pub lists : ℕ → List ℕ
  pub long : length instance.base.words ≡ 8 * lines
  pub agree : AgreeListed instance seat.known lines from to lists
  pub dirty : (i : ℕ) → i < seat.region → Contains (held_dirty seat.known.local.exclusive) i → IsCopiedWord seat.known i
