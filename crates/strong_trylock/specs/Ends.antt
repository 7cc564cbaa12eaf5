-- What ends a right on a replica.
use Rattle.std.specs.Prelude.{◌≡◌, ℕ, Bool, List, Some, None}
use Rattle.cx_core.specs.declared.kinds.Kind.{Kind}
use Rattle.cx_core.specs.declared.kinds.Kind.TheVariants.{Downgrade}
use Rattle.cx_table.specs.Right.{Right}
use Rattle.cx_table.specs.Running.{Running}
use Rattle.cx_table.specs.Seats.{Seated}
use Rattle.cx_table.specs.Steps.{Steps}
use Rattle.cx_table.specs.Tokens.{IsDowngradedOf}
use Rattle.strong_trylock.specs.Held.{AllRights, all_rights}

-- the exclusive right on a replica was made a shared one, by one event
pub record Downgrades {O : Type 0} (r : Running O) (step : O → List ℕ → List ℕ → List ℕ × List ℕ) (reads : O → List ℕ → Bool) (replica : ℕ) (before after : Seated) (held : Right) : Type 0 where
  pub found : ℕ
  pub made : Steps r step reads (Downgrade replica) found before after
  pub here : held.replica ≡ replica
  pub token : IsDowngradedOf r.callers after held
  pub rights : all_rights after ≡ record (all_rights before) { exclusive = None; downgraded = Some replica }

-- one event of this kind was made, whatever word it found
pub record MakesOne {O : Type 0} (r : Running O) (step : O → List ℕ → List ℕ → List ℕ × List ℕ) (reads : O → List ℕ → Bool) (kind : Kind) (before after : Seated) : Type 0 where
  pub found : ℕ
  pub made : Steps r step reads kind found before after

-- one event of this kind ended a right, and these are left
pub record Ends {O : Type 0} (r : Running O) (step : O → List ℕ → List ℕ → List ℕ × List ℕ) (reads : O → List ℕ → Bool) (kind : Kind) (left : AllRights) (before after : Seated) : Type 0 where
  pub found : ℕ
  pub made : Steps r step reads kind found before after
  pub rights : all_rights after ≡ left

-- a seat but for what is downgraded and the steps
abbrev pub except_downgraded : Seated → Seated
except_downgraded s = record s { known = record s.known { local = record s.known.local { downgraded = None; steps = 0 } } }
